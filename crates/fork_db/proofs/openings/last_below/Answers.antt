use Rattle.std.proofs.Common.{arith, ap, sym, ◌∙◌, ◌-◌, find, nat_lt}
use Rattle.block_tree.specs.Places.{slip_of}
use Rattle.chain_model.specs.Finality.{ancestry_of}
use Rattle.fork_db.proofs.OpeningFacts.{below_at, none_below, none_missing}
use Rattle.fork_db.proofs.openings.last_below.Goals as goal

pub returns-then-start-eq0-clause-value : goal.returns-then-start-eq0-clause-value
returns-then-start-eq0-clause-value c = none_below _ _ _ c.if-start-eq0.true

pub returns-then-at-len-clause-value : goal.returns-then-at-len-clause-value
returns-then-at-len-clause-value c =
    none_missing c.args.tree.now.history c.in_ok-at.at c.args.start (omega (arith, c.len.ensures.len, c.if-at-len.true))
    ∙ ap (λ o. find (λ s. nat_lt s.num c.args.start) (ancestry_of c.args.tree.now.history (slip_of c.args.tree.now.history o))) (sym c.in_ok-at.was)

pub returns-clause-value : goal.returns-clause-value
returns-clause-value c =
    below_at c.args.tree.now.history c.in_ok-at.at (c.args.start - 1) c.args.start _ (omega (arith, c.len.ensures.len, c.if-at-len.false)) (omega (arith, c.if-start-eq0.false)) c.last_up_to.ensures.value
    ∙ ap (λ o. find (λ s. nat_lt s.num c.args.start) (ancestry_of c.args.tree.now.history (slip_of c.args.tree.now.history o))) (sym c.in_ok-at.was)
