use Rattle.std.proofs.Common.{arith, ◌≡◌, ◌≤◌, ◌+◌, ◌++◌, List, length, Ok, Result, false, reverse, replicate, refl, ap, sym, ◌∙◌, subst}
use Rattle.block_record.specs.declared.blocks.Slip.{Slip}
use Rattle.block_record.specs.Slips.{slip}
use Rattle.fork_db.specs.Claims.{IsLinkOf}
use Rattle.relay_model.specs.Offers.{Admitted, answer_by, judge, judge_limit, world_by}
use Rattle.relay_model.specs.Soundness.{IsBlock}
use Rattle.relay_model.specs.Verdicts as verdict
use Rattle.relay_model.specs.Worlds.{World, descendants}
use Rattle.block_intake.specs.declared.answers.Offered.{Offered}
use Rattle.block_intake.specs.declared.answers.Offered.TheVariants as answer
use Rattle.block_intake.specs.declared.answers.OfferFault.{OfferFault}
use Rattle.wait_room.specs.Rooms.{AreKept, Room}
use Rattle.block_intake.specs.Intakes.{unnoted, world_taken}
use Rattle.block_intake.proofs.public.AlikeFacts.{answer_alike}
use Rattle.block_intake.proofs.public.IntakeFacts.{unchanged_more, unchanged_world}
use Rattle.stored_blocks.specs.Stored.{HasGrown, Index, IsIndex}
use Rattle.block_relay.specs.Held.{AreGone}
use Rattle.block_relay.proofs.StoredFacts.{added_stored, gone_grown, grown_from, index_low, index_on, marks_left, marks_on}
use Rattle.relay_model.specs.Chronicles.{Entry, stored_of}
use Rattle.fork_db.specs.Forks.{Forks}
use Rattle.block_relay.specs.declared.marks.Mark.TheVariants as mark
use Rattle.block_relay.specs.Chronicle.{Told, has_kind_mark, kind_mark, limits_told, told_with, world_told}
use Rattle.block_relay.specs.Done.{IsDone}
use Rattle.block_relay.proofs.AdmissionFacts.{kept_as, takes_alike, told_by, told_now}
use Rattle.block_relay.proofs.DoneFacts.{changed}
use Rattle.block_relay.proofs.KeptFacts.{admission_kind, admits, entries_on, judged_same, kept_on, marks_reverse}
use Rattle.block_relay.proofs.relay.Relay.admit.Goals as goal

pub admit-from-requires-clause-own : goal.admit-from-requires-clause-own
admit-from-requires-clause-own c = c.in_ok-slip.ensures ∙ ap slip c.deref.ensures

pub admit-from-requires-clause-block : goal.admit-from-requires-clause-block
admit-from-requires-clause-block c = subst IsBlock (sym (c.in_ok-slip.ensures ∙ ap slip c.deref.ensures)) c.args.block.value.parent_first

pub admit-from-requires-clause-takes : goal.admit-from-requires-clause-takes
admit-from-requires-clause-takes c =
    let t = c.self.inside in
    let x = c.in_ok-slip.slip in
    let k = c.self.invariant.0 in
    let w = world_told (told_with t.intake t.run (limits_told t.limits) t.size t.kind t.marks.items t.waited.items t.conflicts.items) in
    let shown = subst (λ (v : Told). (world_told v).closed ≡ false) (sym c.self.view_is) c.requires.open in
    let rule = subst (λ (y : Slip). judge w y ≡ judge_limit w y) (sym (c.in_ok-slip.ensures ∙ ap slip c.deref.ensures)) (subst (λ (v : Told). judge (world_told v) (slip c.args.block.value) ≡ judge_limit (world_told v) (slip c.args.block.value)) (sym c.self.view_is) c.requires.links) in
    let takes = takes_alike w t.intake x k.alike rule (λ less. absurd (grind (arith, c.in_ok-reserve_admission.ensures.limited less))) in
    ap (λ (v : World). judge v x) (unchanged_world t.intake c.reserve_admission.new.intake c.reserve_admission.ensures.unchanged) ∙ sym (judged_same w t.intake t.kind t.closed t.run t.size x k shown) ∙ takes

pub admit-from-requires-clause-linked : goal.admit-from-requires-clause-linked
admit-from-requires-clause-linked c =
    let t = c.self.inside in
    let s = slip c.args.block.value in
    let h = subst (λ (v : Told). IsLinkOf (world_told v).history s c.args.linked) (sym c.self.view_is) c.requires.linked in
    let g = subst (λ (l : List Slip). IsLinkOf l s c.args.linked) (c.self.invariant.0.alike.history ∙ sym c.reserve_admission.ensures.unchanged.history) h in
    subst (λ (x : Slip). IsLinkOf c.reserve_admission.new.intake.forks.history x c.args.linked) (sym (c.in_ok-slip.ensures ∙ ap slip c.deref.ensures)) g

pub admit-from-requires-clause-room : goal.admit-from-requires-clause-room
admit-from-requires-clause-room c =
    let same = ap (λ (r : Room). descendants r.waiting c.in_ok-slip.slip.id) c.reserve_admission.ensures.unchanged.room in
    omega (arith, same, c.in_ok-reserve_admission.ensures.ok.history)

pub admit-from-requires-clause-spare : goal.admit-from-requires-clause-spare
admit-from-requires-clause-spare c =
    let same = ap (λ (r : Room). descendants r.waiting c.in_ok-slip.slip.id) c.reserve_admission.ensures.unchanged.room in
    omega (arith, same, c.in_ok-reserve_admission.ensures.ok.spare)

pub mark_admitted-requires : goal.mark_admitted-requires
mark_admitted-requires c =
    let same = ap (λ (r : Room). descendants r.waiting c.in_ok-slip.slip.id) c.reserve_admission.ensures.unchanged.room in
    let t = c.self.inside in
    let low = index_low t.intake.forks t.stored c.self.invariant.4 in
    let stored = ap (λ (i : Index). i.stored) c.reserve_admission.ensures.stored in
    omega (arith, same, low, stored, ap length c.reserve_admission.ensures.unchanged.history, c.admit-from.ensures.most, c.in_ok-reserve_admission.ensures.ok.marks, c.keep_root_kind.ensures.len, c.keep_root_kind.ensures.capacity)

pub note_dropped-requires-clause-room : goal.note_dropped-requires-clause-room
note_dropped-requires-clause-room c =
    let same = ap (λ (r : Room). descendants r.waiting c.in_ok-slip.slip.id) c.reserve_admission.ensures.unchanged.room in
    omega (arith, same, ap length c.deref-2.ensures.value, c.admit-from.ensures.some, c.admit-from.ensures.most, c.in_ok-reserve_admission.ensures.ok.conflicts)

pub note_dropped-requires-clause-buffers : goal.note_dropped-requires-clause-buffers
note_dropped-requires-clause-buffers c =
    let same = ap (λ (r : Room). descendants r.waiting c.in_ok-slip.slip.id) c.reserve_admission.ensures.unchanged.room in
    omega (arith, same, ap length c.deref-2.ensures.value, c.admit-from.ensures.some, c.admit-from.ensures.most, c.in_ok-reserve_admission.ensures.ok.buffers)

pub reserve_admission-requires : goal.reserve_admission-requires
reserve_admission-requires c = let t = c.self.inside in index_low t.intake.forks t.stored c.self.invariant.4

pub grow-requires : goal.grow-requires
grow-requires c =
    let t = c.self.inside in
    let x = c.in_ok-slip.slip in
    let u = c.reserve_admission.ensures.unchanged in
    let new = c.admit-from.new.self in
    let a = c.admit-from.result in
    let same = unchanged_world t.intake c.reserve_admission.new.intake u in
    let left = subst (λ (v : World). world_taken new ≡ unnoted (world_by v x verdict.Admitted)) same c.admit-from.ensures.world in
    let said = subst (λ (v : World). answer_by v x verdict.Admitted ≡ Admitted a.from a.count a.dropped.items) same c.admit-from.ensures.said in
    let told = told_by t.intake new x a.from a.count a.dropped.items said left in
    let stays = c.admit-from.ensures.held refl (subst AreKept (sym u.room) c.self.invariant.3) in
    let index = subst (IsIndex c.reserve_admission.new.intake.forks) (sym c.reserve_admission.ensures.stored) (index_on t.intake.forks c.reserve_admission.new.intake.forks t.stored c.reserve_admission.new.stored.room u.history u.held c.self.invariant.4) in
    let rest = ap (λ (r : Room). descendants r.waiting x.id) u.room in
    let count : length new.forks.history ≡ a.count + length c.reserve_admission.new.intake.forks.history = omega (arith, told.len, ap length u.history) in
    let room : a.count ≤ c.reserve_admission.new.stored.room = omega (arith, rest, c.admit-from.ensures.most, c.in_ok-reserve_admission.ensures.ok.index_room) in
    subst (HasGrown c.reserve_admission.new.stored) (sym c.history.ensures) (grown_from c.reserve_admission.new.intake.forks new.forks c.reserve_admission.new.stored a.count stays.more index count room)

pub keep_root_kind-requires : goal.keep_root_kind-requires
keep_root_kind-requires c =
    let t = c.self.inside in
    let low = index_low t.intake.forks t.stored c.self.invariant.4 in
    let stored = ap (λ (i : Index). i.stored) c.reserve_admission.ensures.stored in
    omega (arith, low, stored, ap length c.reserve_admission.ensures.unchanged.history, c.in_ok-reserve_admission.ensures.ok.marks)

pub invariant_of-self : goal.invariant_of-self
invariant_of-self c =
    let t = c.self.inside in
    let new = c.reserve_admission.new.intake in
    let u = c.reserve_admission.ensures.unchanged in
    let marks = c.reserve_admission.ensures.marks in
    let old = told_with t.intake t.run (limits_told t.limits) t.size t.kind t.marks.items t.waited.items t.conflicts.items in
    let entries = entries_on new t.intake t.run (limits_told t.limits) t.size t.kind _ _ (reverse t.waited.items) (reverse t.waited.items) u.first u.history (ap reverse marks) refl in (
      kept_as _ old.entries _ old.conflicts new t.kind t.kind t.closed t.run t.size entries (ap reverse c.reserve_admission.ensures.conflicts) refl (kept_on (world_told old) t.intake new t.kind t.closed t.run t.size c.self.invariant.0 u),
      marks_on t.closed t.intake new t.stored c.reserve_admission.new.stored _ _ _ _ c.self.invariant.1
          (omega (arith, ap length u.history, ap (λ (i : Index). i.stored) c.reserve_admission.ensures.stored, c.reserve_admission.ensures.len, c.reserve_admission.ensures.capacity)),
      λ e. ap (λ l. has_kind_mark (reverse l)) marks ∙ c.self.invariant.2 e,
      subst AreKept (sym u.room) c.self.invariant.3,
      subst (IsIndex new.forks) (sym c.reserve_admission.ensures.stored) (index_on t.intake.forks new.forks t.stored c.reserve_admission.new.stored.room u.history u.held c.self.invariant.4),
      subst (λ (es : List Entry). AreGone (stored_of es) new.forks.held) (sym entries) (subst (AreGone (stored_of old.entries)) (sym u.held) c.self.invariant.5),
      c.self.invariant.6,
    )

pub invariant_of-self-2 : goal.invariant_of-self-2
invariant_of-self-2 c =
    let t = c.self.inside in
    let x = c.in_ok-slip.slip in
    let k = c.self.invariant.0 in
    let u = c.reserve_admission.ensures.unchanged in
    let new = c.admit-from.new.self in
    let a = c.admit-from.result in
    let root = c.in_ok-root_kind.root_kind in
    let old = told_with t.intake t.run (limits_told t.limits) t.size t.kind t.marks.items t.waited.items t.conflicts.items in
    let w = world_told old in
    let same = unchanged_world t.intake c.reserve_admission.new.intake u in
    let rule = subst (λ (y : Slip). judge w y ≡ judge_limit w y) (sym (c.in_ok-slip.ensures ∙ ap slip c.deref.ensures)) (subst (λ (v : Told). judge (world_told v) (slip c.args.block.value) ≡ judge_limit (world_told v) (slip c.args.block.value)) (sym c.self.view_is) c.requires.links) in
    let takes = takes_alike w t.intake x k.alike rule (λ less. absurd (grind (arith, c.in_ok-reserve_admission.ensures.limited less))) in
    let block = subst IsBlock (sym (c.in_ok-slip.ensures ∙ ap slip c.deref.ensures)) c.args.block.value.parent_first in
    let left = subst (λ (v : World). world_taken new ≡ unnoted (world_by v x verdict.Admitted)) same c.admit-from.ensures.world in
    let said = subst (λ (v : World). answer_by v x verdict.Admitted ≡ Admitted a.from a.count a.dropped.items) same c.admit-from.ensures.said in
    let told = told_by t.intake new x a.from a.count a.dropped.items said left in
    let marks = c.mark_admitted.ensures.items ∙ ap (λ l. l ++ replicate a.count mark.Admitted) (c.keep_root_kind.ensures.items ∙ ap (λ l. l ++ kind_mark root) c.reserve_admission.ensures.marks) in
    let noted = c.note_dropped.ensures ∙ ap (λ l. c.reserve_admission.new.conflicts.items ++ l) c.deref-2.ensures.value ∙ ap (λ l. l ++ a.dropped.items) c.reserve_admission.ensures.conflicts in
    let now = told_now t.intake new t.run t.size (limits_told t.limits) t.kind root c.keep_root_kind.new.kept t.marks.items c.mark_admitted.new.marks.items t.waited.items t.conflicts.items c.note_dropped.new.conflicts.items x a.from a.count a.dropped.items
    k.alike k.kind told (ap (λ (v : World). v.first) left) c.keep_root_kind.ensures.kept marks noted (c.in_ok-root_kind.ensures.added t.intake.forks.history c.len.ensures.len) c.in_ok-root_kind.ensures.first c.self.invariant.2 in
    let kind = c.keep_root_kind.ensures.kept ∙ c.in_ok-root_kind.ensures.kind t.intake.forks.history c.len.ensures.len in
    let rest = ap (λ (r : Room). descendants r.waiting x.id) u.room in
    let stays = c.admit-from.ensures.held refl (subst AreKept (sym u.room) c.self.invariant.3) in
    let more = unchanged_more t.intake c.reserve_admission.new.intake new.forks u stays.more in
    let counted = c.grow.ensures.stored in
    let done = admits old.entries old.conflicts t.intake new t.kind t.closed t.run t.size x k takes block left in (
      kept_as _ _ _ _ new _ _ t.closed t.run t.size now.entries now.conflicts kind done,
      marks_left t.closed new c.grow.new.self _ _
          (omega (arith, rest, index_low t.intake.forks t.stored c.self.invariant.4, ap (λ (i : Index). i.stored) c.reserve_admission.ensures.stored, told.len, ap length u.history, counted, c.admit-from.ensures.most, c.in_ok-reserve_admission.ensures.ok.marks, c.mark_admitted.ensures.len, c.mark_admitted.ensures.capacity, c.keep_root_kind.ensures.len, c.keep_root_kind.ensures.capacity)),
      λ e. ap (λ l. has_kind_mark (reverse l)) marks ∙ ap has_kind_mark (marks_reverse t.marks.items root a.count) ∙ admission_kind t.kind root (reverse t.marks.items) a.count c.self.invariant.2 (sym c.keep_root_kind.ensures.kept ∙ e),
      stays.waiting,
      subst (λ (f : Forks). IsIndex f c.grow.new.self) c.history.ensures c.grow.ensures.index,
      subst (λ (es : List Entry). AreGone (stored_of es) new.forks.held) (sym now.entries)
          (subst (λ l. AreGone l new.forks.held) (sym (added_stored w x old.entries)) (gone_grown _ _ _ more c.self.invariant.5)),
      c.self.invariant.6,
    )

pub returns : goal.returns
returns c =
    let t = c.self.inside in
    let x = c.in_ok-slip.slip in
    let is = c.in_ok-slip.ensures ∙ ap slip c.deref.ensures in
    let k = c.self.invariant.0 in
    let u = c.reserve_admission.ensures.unchanged in
    let new = c.admit-from.new.self in
    let a = c.admit-from.result in
    let root = c.in_ok-root_kind.root_kind in
    let old = told_with t.intake t.run (limits_told t.limits) t.size t.kind t.marks.items t.waited.items t.conflicts.items in
    let w = world_told old in
    let same = unchanged_world t.intake c.reserve_admission.new.intake u in
    let rule = subst (λ (y : Slip). judge w y ≡ judge_limit w y) (sym is) (subst (λ (v : Told). judge (world_told v) (slip c.args.block.value) ≡ judge_limit (world_told v) (slip c.args.block.value)) (sym c.self.view_is) c.requires.links) in
    let takes = takes_alike w t.intake x k.alike rule (λ less. absurd (grind (arith, c.in_ok-reserve_admission.ensures.limited less))) in
    let block = subst IsBlock (sym is) c.args.block.value.parent_first in
    let left = subst (λ (v : World). world_taken new ≡ unnoted (world_by v x verdict.Admitted)) same c.admit-from.ensures.world in
    let said = subst (λ (v : World). answer_by v x verdict.Admitted ≡ Admitted a.from a.count a.dropped.items) same c.admit-from.ensures.said in
    let told = told_by t.intake new x a.from a.count a.dropped.items said left in
    let marks = c.mark_admitted.ensures.items ∙ ap (λ l. l ++ replicate a.count mark.Admitted) (c.keep_root_kind.ensures.items ∙ ap (λ l. l ++ kind_mark root) c.reserve_admission.ensures.marks) in
    let noted = c.note_dropped.ensures ∙ ap (λ l. c.reserve_admission.new.conflicts.items ++ l) c.deref-2.ensures.value ∙ ap (λ l. l ++ a.dropped.items) c.reserve_admission.ensures.conflicts in
    let now = told_now t.intake new t.run t.size (limits_told t.limits) t.kind root c.keep_root_kind.new.kept t.marks.items c.mark_admitted.new.marks.items t.waited.items t.conflicts.items c.note_dropped.new.conflicts.items x a.from a.count a.dropped.items
    k.alike k.kind told (ap (λ (v : World). v.first) left) c.keep_root_kind.ensures.kept marks noted (c.in_ok-root_kind.ensures.added t.intake.forks.history c.len.ensures.len) c.in_ok-root_kind.ensures.first c.self.invariant.2 in
    let after = told_with new t.run (limits_told t.limits) t.size c.keep_root_kind.new.kept c.mark_admitted.new.marks.items t.waited.items c.note_dropped.new.conflicts.items in
    let said_as : Result Offered OfferFault = Ok (answer.Admitted a.from a.count a.dropped) in
    subst (λ (y : Slip). IsDone (judge (world_told c.args.self.now) y) y c.args.self.now after said_as) is
    (changed x old c.args.self.now after verdict.Admitted said_as c.self.view_is takes k.sound block (answer_alike w (world_taken t.intake) x verdict.Admitted k.alike ∙ said) refl now.entries now.conflicts)
