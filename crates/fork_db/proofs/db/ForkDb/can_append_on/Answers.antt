use Rattle.std.proofs.Common.{arith, ◌≡◌, false, Some, subst, ap, sym, ◌∙◌, IfOk}
use Rattle.block_record.specs.SlipRefs.{slip_seen}
use Rattle.block_tree.specs.Places.{place_of}
use Rattle.block_tree.proofs.public.PlaceFacts.{is_held, place_range}
use Rattle.chain_model.specs.Ancestry.{has_id}
use Rattle.fork_db.specs.Claims.{IsLinkOf}
use Rattle.fork_db.specs.Forks.{Forks}
use Rattle.fork_db.specs.Verdicts.{verdict_of}
use Rattle.fork_db.proofs.public.ClaimFacts.{tip_range}
use Rattle.fork_db.proofs.VerdictFacts.{verdict_parent}
use Rattle.fork_db.proofs.db.ForkDb.can_append_on.Goals as goal

pub judge_child-requires-clause-tip : goal.judge_child-requires-clause-tip
judge_child-requires-clause-tip c =
    let at = subst (λ (v : Forks). place_of v.history (slip_seen c.args.slip).parent_id ≡ Some c.args.parent) (sym c.self.view_is) c.requires.parent in
    let lt = place_range _ _ _ at in
    tip_range _ _ c.len.ensures.sound c.self.invariant.1 (omega (arith, lt))

pub judge_child-requires-clause-fresh : goal.judge_child-requires-clause-fresh
judge_child-requires-clause-fresh c = subst (λ (v : Forks). has_id v.history (slip_seen c.args.slip).id ≡ false) (sym c.self.view_is) c.requires.fresh

pub judge_child-requires-clause-parent : goal.judge_child-requires-clause-parent
judge_child-requires-clause-parent c = subst (λ (v : Forks). place_of v.history (slip_seen c.args.slip).parent_id ≡ Some c.args.parent) (sym c.self.view_is) c.requires.parent

pub returns-clause-verdict : goal.returns-clause-verdict
returns-clause-verdict c =
    let s = slip_seen c.args.slip in
    let fresh = subst (λ (v : Forks). has_id v.history s.id ≡ false) (sym c.self.view_is) c.requires.fresh in
    let at = subst (λ (v : Forks). place_of v.history s.parent_id ≡ Some c.args.parent) (sym c.self.view_is) c.requires.parent in
    let lt = place_range _ _ _ at in
    verdict_parent s c.self.inside.tree.history _ _ (λ z. let f : ⊥ = omega (arith, z, lt) in f) (is_held c.self.inside.tree.history s.id ∙ fresh) at c.judge_child.ensures.verdict
    ∙ ap (λ v. verdict_of v.history s) c.self.view_is

pub returns-clause-linked : goal.returns-clause-linked
returns-clause-linked c = subst (λ (v : Forks). IfOk c.judge_child.result (IsLinkOf v.history (slip_seen c.args.slip))) c.self.view_is c.judge_child.ensures.linked
