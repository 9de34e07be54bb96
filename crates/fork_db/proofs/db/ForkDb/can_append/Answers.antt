use Rattle.std.proofs.Common.{arith, ap, sym, subst, ◌∙◌, ◌≡◌, Some, false, is_some}
use Rattle.block_record.specs.Slips.{slip}
use Rattle.block_record.specs.declared.blocks.Slip.{Slip}
use Rattle.chain_model.specs.Ancestry.{has_id}
use Rattle.block_tree.specs.Places.{place_of, slip_at}
use Rattle.fork_db.specs.Verdicts.{parent_verdict, verdict_of}
use Rattle.fork_db.proofs.public.ClaimFacts.{tip_range}
use Rattle.fork_db.proofs.VerdictFacts.{verdict_held, verdict_none, verdict_parent, not_held}
use Rattle.fork_db.proofs.db.ForkDb.can_append.Goals as goal

pub returns-then-is_some : goal.returns-then-is_some
returns-then-is_some c =
    verdict_held (slip c.args.block.now) c.self.inside.tree.history (λ z. absurd (grind (arith, c.if-len-eq0.false, c.len.ensures.len)))
    (ap is_some (sym c.find.ensures) ∙ sym c.is_some.ensures ∙ c.if-is_some.true) ∙ ap (λ v. verdict_of v.history (slip c.args.block.now)) c.self.view_is

pub judge_child-requires-clause-fresh : goal.judge_child-requires-clause-fresh
judge_child-requires-clause-fresh c =
    let fresh = not_held (slip c.args.block.now) c.self.inside.tree.history (ap is_some (sym c.find.ensures) ∙ sym c.is_some.ensures ∙ c.if-is_some.false) in
    subst (λ (s : Slip). has_id c.self.inside.tree.history s.id ≡ false) (sym c.of_block-slip.ensures) fresh

pub judge_child-requires-clause-parent : goal.judge_child-requires-clause-parent
judge_child-requires-clause-parent c = subst (λ (s : Slip). place_of c.self.inside.tree.history s.parent_id ≡ Some c.in-Some.parent) (sym c.of_block-slip.ensures) (sym c.find-2.ensures ∙ c.in-Some.is)

pub judge_child-requires-clause-tip : goal.judge_child-requires-clause-tip
judge_child-requires-clause-tip c = tip_range _ _ c.len.ensures.sound c.self.invariant.1 (grind (arith, c.if-len-eq0.false, c.len.ensures.len))

pub returns-in-Some : goal.returns-in-Some
returns-in-Some c =
    let t = c.self.inside.tree.history in
    verdict_parent (slip c.args.block.now) t _ _ (λ z. absurd (grind (arith, c.if-len-eq0.false, c.len.ensures.len)))
    (ap is_some (sym c.find.ensures) ∙ sym c.is_some.ensures ∙ c.if-is_some.false) (sym c.find-2.ensures ∙ c.in-Some.is)
    (c.verdict_from.ensures ∙ c.judge_child.ensures.verdict ∙ ap (λ s. parent_verdict t s (slip_at t c.in-Some.parent)) c.of_block-slip.ensures) ∙ ap (λ v. verdict_of v.history (slip c.args.block.now)) c.self.view_is

pub returns-in-None : goal.returns-in-None
returns-in-None c =
    verdict_none (slip c.args.block.now) c.self.inside.tree.history (λ z. absurd (grind (arith, c.if-len-eq0.false, c.len.ensures.len)))
    (ap is_some (sym c.find.ensures) ∙ sym c.is_some.ensures ∙ c.if-is_some.false) (sym c.find-2.ensures ∙ c.in-None.is) ∙ ap (λ v. verdict_of v.history (slip c.args.block.now)) c.self.view_is
