use Rattle.std.proofs.Common.{rules, ap, inl, inr, Some}
use Rattle.fork_db.proofs.AdmitFacts.{own_taken, own_left, own_range, taken_or_left, passed_over, off_if}
use Rattle.fork_db.proofs.heads.take_best.Goals as goal

pub on_path-requires-clause-a_range : goal.on_path-requires-clause-a_range
on_path-requires-clause-a_range c = c.requires.range

pub on_path-requires-clause-b_range : goal.on_path-requires-clause-b_range
on_path-requires-clause-b_range c = own_range _ _ (own_taken _ _ _ _ c.loop-rival.invariant.1 c.in-Some.ensures.permutation)

pub returns-then-on_path-clause-own : goal.returns-then-on_path-clause-own
returns-then-on_path-clause-own c = own_left _ _ _ _ c.loop-rival.invariant.1 c.in-Some.ensures.permutation

pub returns-then-on_path-clause-others : goal.returns-then-on_path-clause-others
returns-then-on_path-clause-others c = λ r has holds.
    elim (taken_or_left _ _ _ r c.in-Some.ensures.permutation (c.loop-rival.invariant.4 r has holds)) [
      | inl same ↦ inl (ap Some same)
      | inr left ↦ inr left
    ]

pub loop-rival-preserved : goal.loop-rival-preserved
loop-rival-preserved c =
    let off = off_if _ _ _ _ c.requires.tip c.requires.range c.on_path.ensures.value c.if-on_path.false in (
      search rules,
      own_left _ _ _ _ c.loop-rival.invariant.1 c.in-Some.ensures.permutation,
      search rules,
      search rules,
      λ r has holds. passed_over _ _ _ _ r c.in-Some.ensures.permutation off (c.loop-rival.invariant.4 r has holds) holds,
    )
