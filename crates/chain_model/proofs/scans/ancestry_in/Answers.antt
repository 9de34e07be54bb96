use Rattle.std.proofs.Common.{sym, ◌∙◌}
use Rattle.chain_model.proofs.public.ScanFacts.{ancestry_push, ancestry_skip, ancestry_end}
use Rattle.chain_model.proofs.scans.ancestry_in.Goals as goal

pub loop-newest-preserved-in_ok-push : goal.loop-newest-preserved-in_ok-push
loop-newest-preserved-in_ok-push c =
    ancestry_push _ _ c.in-Some.newest _ _ _ _ c.in_ok-push.ensures.items c.in-Some.ensures.cases.0 (sym c.eq.ensures ∙ c.if-eq.true) c.loop-newest.invariant

pub loop-newest-preserved : goal.loop-newest-preserved
loop-newest-preserved c =
    ancestry_skip _ c.in-Some.newest _ _ _ _ c.in-Some.ensures.cases.0 (sym c.eq.ensures ∙ c.if-eq.false) c.loop-newest.invariant

pub returns : goal.returns
returns c = ancestry_end _ _ _ _ c.in_default.ensures.cases c.loop-newest.invariant
