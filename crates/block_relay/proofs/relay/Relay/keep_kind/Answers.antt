use Rattle.std.proofs.Common.{arith, ◌≡◌, [], ◌∷◌, ◌++◌, Some, None, reverse, ap, sym, ◌∙◌}
use Rattle.relay_model.specs.Chronicles.{Kind, Opened}
use Rattle.block_relay.proofs.StoredFacts.{index_low, marks_left}
use Rattle.block_relay.specs.declared.marks.Mark.TheVariants as mark
use Rattle.block_relay.specs.Chronicle.{Told, entries_by, limits_told, world_told}
use Rattle.block_relay.proofs.KeptFacts.{keeps_kind, marks_push, other_kind}
use Rattle.block_relay.proofs.relay.Relay.keep_kind.Goals as goal

pub invariant_of-self-2 : goal.invariant_of-self-2
invariant_of-self-2 c =
    let t = c.self.inside in
    let k = c.args.kind.now in
    let opening = Opened t.intake.first t.run (limits_told t.limits) t.size in
    let none : t.kind ≡ None = sym c.self.invariant.0.kind ∙ ap (λ (v : Told). (world_told v).kind) c.self.view_is ∙ c.requires in
    let ms : reverse c.push_reserved.new.self.items ≡ mark.Kind ∷ reverse t.marks.items = ap reverse (c.push_reserved.ensures.items ∙ ap (λ l. l ++ mark.Kind ∷ []) c.reserve_marks.ensures.items) ∙ marks_push t.marks.items mark.Kind in
    let before = other_kind opening t.kind (Some k) (reverse t.marks.items) (c.self.invariant.2 none) t.intake.forks.history (reverse t.waited.items) in
    let es = entries_by opening t.kind (reverse t.marks.items) t.intake.forks.history (reverse t.waited.items) in
    let kept = keeps_kind es (reverse t.conflicts.items) t.intake t.kind t.closed t.run t.size k c.self.invariant.0 in (
      rw (c.in_ok-kept.ensures, ms, ← before) kept,
      (let low = index_low t.intake.forks t.stored c.self.invariant.4 in
          marks_left t.closed t.intake t.stored _ _ (omega (arith, low, c.len.ensures.len, c.stored.ensures, c.in_ok-reserve_marks.ensures.ok, c.push_reserved.ensures.len, c.push_reserved.ensures.capacity))),
      λ e. absurd (grind (arith, e)),
      c.self.invariant.3,
      c.self.invariant.4,
      rw (c.in_ok-kept.ensures, ms, ← before) c.self.invariant.5,
      c.self.invariant.6,
    )

pub returns-clause-ok : goal.returns-clause-ok
returns-clause-ok c =
    let t = c.self.inside in
    let k = c.args.kind.now in
    let opening = Opened t.intake.first t.run (limits_told t.limits) t.size in
    let none : t.kind ≡ None = sym c.self.invariant.0.kind ∙ ap (λ (v : Told). (world_told v).kind) c.self.view_is ∙ c.requires in
    let ms : reverse c.push_reserved.new.self.items ≡ mark.Kind ∷ reverse t.marks.items = ap reverse (c.push_reserved.ensures.items ∙ ap (λ l. l ++ mark.Kind ∷ []) c.reserve_marks.ensures.items) ∙ marks_push t.marks.items mark.Kind in
    let before = other_kind opening t.kind (Some k) (reverse t.marks.items) (c.self.invariant.2 none) t.intake.forks.history (reverse t.waited.items) in
    rw (c.in_ok-kept.ensures, ms, ← before) (ap (λ (v : Told). Kind k ∷ v.entries) c.self.view_is)
