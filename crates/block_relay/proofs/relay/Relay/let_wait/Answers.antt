use Rattle.std.proofs.Common.{arith, ◌≡◌, List, [], ◌∷◌, ◌++◌, false, Ok, refl, length, reverse, ap, sym, ◌∙◌, subst}
use Rattle.fork_db.specs.Forks.{Forks}
use Rattle.stored_blocks.specs.Stored.{IsIndex}
use Rattle.block_relay.specs.Held.{AreGone}
use Rattle.block_relay.proofs.StoredFacts.{index_low, marks_left}
use Rattle.block_record.specs.declared.blocks.Slip.{Slip}
use Rattle.block_record.specs.Slips.{slip}
use Rattle.relay_model.specs.Chronicles.{Entry, Opened, Waited, stored_of}
use Rattle.relay_model.specs.Offers.{judge, world_by}
use Rattle.relay_model.specs.Soundness.{IsBlock}
use Rattle.relay_model.specs.Verdicts.{Verdict}
use Rattle.relay_model.specs.Verdicts as verdict
use Rattle.relay_model.specs.Worlds.{World}
use Rattle.block_intake.specs.declared.answers.Offered.TheVariants as answer
use Rattle.block_intake.specs.Intakes.{world_taken}
use Rattle.block_relay.specs.declared.marks.Mark.TheVariants as mark
use Rattle.block_relay.specs.Chronicle.{Told, entries_by, has_kind_mark, limits_told, told_with, world_told}
use Rattle.block_relay.specs.Done.{IsDone}
use Rattle.block_relay.proofs.AdmissionFacts.{kept_as}
use Rattle.block_relay.proofs.DoneFacts.{changed}
use Rattle.block_relay.proofs.KeptFacts.{entries_on, judged_same, marks_push, slips_push, waits}
use Rattle.block_relay.proofs.relay.Relay.let_wait.Goals as goal

pub let_wait-requires-clause-own : goal.let_wait-requires-clause-own
let_wait-requires-clause-own c = c.in_ok-slip.ensures ∙ ap slip c.deref.ensures

pub let_wait-requires-clause-block : goal.let_wait-requires-clause-block
let_wait-requires-clause-block c = subst IsBlock (sym (c.in_ok-slip.ensures ∙ ap slip c.deref.ensures)) c.args.block.value.parent_first

pub let_wait-requires-clause-waits : goal.let_wait-requires-clause-waits
let_wait-requires-clause-waits c =
    let t = c.self.inside in
    let s = slip c.args.block.value in
    let rule = subst (λ (v : Told). judge (world_told v) s ≡ verdict.Waiting) (sym c.self.view_is) c.requires.waits in
    let shown = subst (λ (v : Told). (world_told v).closed ≡ false) (sym c.self.view_is) c.requires.open in
    subst (λ (x : Slip). judge (world_taken t.intake) x ≡ verdict.Waiting) (sym (c.in_ok-slip.ensures ∙ ap slip c.deref.ensures))
    (sym (judged_same _ t.intake t.kind t.closed t.run t.size s c.self.invariant.0 shown) ∙ rule)

pub invariant_of-self-2 : goal.invariant_of-self-2
invariant_of-self-2 c =
    let t = c.self.inside in
    let s = slip c.args.block.value in
    let is : c.in_ok-slip.slip ≡ s = c.in_ok-slip.ensures ∙ ap slip c.deref.ensures in
    let new = c.let_wait.new.self in
    let opening = Opened t.intake.first t.run (limits_told t.limits) t.size in
    let es = entries_by opening t.kind (reverse t.marks.items) t.intake.forks.history (reverse t.waited.items) in
    let rule = subst (λ (v : Told). judge (world_told v) s ≡ verdict.Waiting) (sym c.self.view_is) c.requires.waits in
    let left : world_taken new ≡ world_by (world_taken t.intake) s verdict.Waiting = c.in_ok-let_wait.ensures.ok ∙ ap (λ x. world_by (world_taken t.intake) x verdict.Waiting) is in
    let ms : reverse c.push_reserved-2.new.self.items ≡ mark.Waited ∷ reverse t.marks.items =
    ap reverse (c.push_reserved-2.ensures.items ∙ ap (λ l. l ++ mark.Waited ∷ []) c.reserve_marks.ensures.items) ∙ marks_push t.marks.items mark.Waited in
    let ws : reverse c.push_reserved.new.self.items ≡ s ∷ reverse t.waited.items =
    ap reverse (c.push_reserved.ensures.items ∙ ap (λ l. l ++ c.in_ok-kept.kept ∷ []) c.reserve.ensures.items) ∙ slips_push t.waited.items c.in_ok-kept.kept ∙ ap (λ x. x ∷ reverse t.waited.items) (c.in_ok-kept.ensures ∙ is) in
    let kept = waits es (reverse t.conflicts.items) t.intake new t.kind t.closed t.run t.size s c.self.invariant.0 rule c.args.block.value.parent_first left in
    let entries = entries_on new t.intake t.run (limits_told t.limits) t.size t.kind _ _ _ _ (ap (λ (w : World). w.first) left) (ap (λ (w : World). w.history) left) ms ws in (
      kept_as _ (Waited s ∷ es) _ _ new t.kind t.kind t.closed t.run t.size entries refl refl kept,
      (let low = index_low t.intake.forks t.stored c.self.invariant.4 in
          marks_left t.closed new t.stored _ _
          (omega (arith, low, ap (λ (f : Forks). length f.history) c.let_wait.ensures.forks, c.len.ensures.len, c.stored.ensures, c.in_ok-reserve_marks.ensures.ok, c.push_reserved-2.ensures.len, c.push_reserved-2.ensures.capacity))),
      λ e. ap has_kind_mark ms ∙ c.self.invariant.2 e,
      c.in_ok-let_wait.ensures.held refl c.self.invariant.3,
      subst (λ (f : Forks). IsIndex f t.stored) (sym c.let_wait.ensures.forks) c.self.invariant.4,
      subst (λ (l : List Entry). AreGone (stored_of l) new.forks.held) (sym entries) (subst (λ (f : Forks). AreGone (stored_of es) f.held) (sym c.let_wait.ensures.forks) c.self.invariant.5),
      c.self.invariant.6,
    )

pub returns : goal.returns
returns c =
    let t = c.self.inside in
    let s = slip c.args.block.value in
    let is : c.in_ok-slip.slip ≡ s = c.in_ok-slip.ensures ∙ ap slip c.deref.ensures in
    let new = c.let_wait.new.self in
    let old = told_with t.intake t.run (limits_told t.limits) t.size t.kind t.marks.items t.waited.items t.conflicts.items in
    let now = told_with new t.run (limits_told t.limits) t.size t.kind c.push_reserved-2.new.self.items c.push_reserved.new.self.items t.conflicts.items in
    let rule = subst (λ (v : Told). judge (world_told v) s ≡ verdict.Waiting) (sym c.self.view_is) c.requires.waits in
    let left : world_taken new ≡ world_by (world_taken t.intake) s verdict.Waiting = c.in_ok-let_wait.ensures.ok ∙ ap (λ x. world_by (world_taken t.intake) x verdict.Waiting) is in
    let ms : reverse c.push_reserved-2.new.self.items ≡ mark.Waited ∷ reverse t.marks.items =
    ap reverse (c.push_reserved-2.ensures.items ∙ ap (λ l. l ++ mark.Waited ∷ []) c.reserve_marks.ensures.items) ∙ marks_push t.marks.items mark.Waited in
    let ws : reverse c.push_reserved.new.self.items ≡ s ∷ reverse t.waited.items =
    ap reverse (c.push_reserved.ensures.items ∙ ap (λ l. l ++ c.in_ok-kept.kept ∷ []) c.reserve.ensures.items) ∙ slips_push t.waited.items c.in_ok-kept.kept ∙ ap (λ x. x ∷ reverse t.waited.items) (c.in_ok-kept.ensures ∙ is) in
    let entries = entries_on new t.intake t.run (limits_told t.limits) t.size t.kind _ _ _ _ (ap (λ (w : World). w.first) left) (ap (λ (w : World). w.history) left) ms ws in
    subst (λ (v : Verdict). IsDone v s c.args.self.now now (Ok answer.Waiting)) c.requires.waits
    (changed s old c.args.self.now now verdict.Waiting (Ok answer.Waiting) c.self.view_is rule c.self.invariant.0.sound c.args.block.value.parent_first refl refl entries refl)

pub overflow_sub-len : goal.overflow_sub-len
overflow_sub-len c = let t = c.self.inside in let low = index_low t.intake.forks t.stored c.self.invariant.4 in omega (arith, low, c.len.ensures.len, c.stored.ensures)
