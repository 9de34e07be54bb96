use Rattle.std.proofs.Common.{arith, ◌≡◌, ◌∷◌, List, length, reverse, Some, refl, ap, subst, sym, ◌∙◌}
use Rattle.block_record.specs.SlipRefs.{slip_seen}
use Rattle.bundle_model.specs.Shedding.{place_in}
use Rattle.relay_model.specs.Chronicles.{Entry, Stored, history_of, stored_of}
use Rattle.fork_db.specs.Forks.{Forks}
use Rattle.wait_room.specs.Rooms.{AreKept}
use Rattle.block_intake.specs.Intakes.{TakenIn, world_taken}
use Rattle.stored_blocks.specs.BundlePlans.{IsHeldAt}
use Rattle.stored_blocks.specs.Stored.{HasReleased, IsIndex}
use Rattle.block_relay.specs.declared.marks.Mark.TheVariants as mark
use Rattle.block_relay.specs.Chronicle.{Told, entry_at, has_kind_mark, limits_told, told_with}
use Rattle.block_relay.specs.Held.{AreGone}
use Rattle.block_relay.proofs.AdmissionFacts.{kept_as}
use Rattle.block_relay.proofs.KeptFacts.{entries_on, marks_push}
use Rattle.block_relay.proofs.StoredFacts.{entry_some, gone_more, index_low, marks_on, marks_some, payload, stores}
use Rattle.block_relay.proofs.relay.Relay.store_held.Goals as goal

pub store-requires : goal.store-requires
store-requires c =
    let t = c.self.inside in
    let f = t.intake.forks in
    let at = c.in-Some.at in
    let held : IsHeldAt f at = subst (λ (g : Forks). IsHeldAt g at) c.history.ensures c.in-Some.ensures.held in
    let b = payload f.held at (omega (arith, held.low, c.self.invariant.4.same)) held.held in
    subst (λ (g : Forks). HasReleased t.stored g at) (sym (c.history-2.ensures ∙ ap (λ (x : TakenIn). x.forks) c.release.ensures)) (record {
      before = f;
      index = c.self.invariant.4;
      history = refl;
      range = held.low;
      held = refl;
      block = b.0;
      there = b.1;
    })

pub push_reserved-requires : goal.push_reserved-requires
push_reserved-requires c =
    let t = c.self.inside in
    let some = marks_some t.closed t.intake t.stored _ _ c.self.invariant.1 in
    let low = index_low c.history-2.result.now c.store.new.self c.store.ensures.index in
    let same = ap (λ (g : Forks). length g.history) (c.history-2.ensures ∙ ap (λ (x : TakenIn). x.forks) c.release.ensures) in
    omega (arith, some, low, same, c.store.ensures.stored)

pub invariant_of-self : goal.invariant_of-self
invariant_of-self c =
    let t = c.self.inside in
    let at = c.in-Some.at in
    let new = c.release.new.self in
    let old = told_with t.intake t.run (limits_told t.limits) t.size t.kind t.marks.items t.waited.items t.conflicts.items in
    let held : IsHeldAt t.intake.forks at = subst (λ (g : Forks). IsHeldAt g at) c.history.ensures c.in-Some.ensures.held in
    let pushed : reverse c.push_reserved.new.self.items ≡ mark.Stored at ∷ reverse t.marks.items = ap reverse c.push_reserved.ensures.items ∙ marks_push t.marks.items (mark.Stored at) in
    let entries = entries_on new t.intake t.run (limits_told t.limits) t.size t.kind _ _ (reverse t.waited.items) (reverse t.waited.items) (ap (λ (x : TakenIn). x.first) c.release.ensures) (ap (λ (x : TakenIn). x.forks.history) c.release.ensures) pushed refl in (
      kept_as _ (Stored at ∷ old.entries) _ _ new t.kind t.kind t.closed t.run t.size entries refl refl
          (stores old.entries old.conflicts t.intake new t.kind t.closed t.run t.size at held.low (ap world_taken c.release.ensures) c.self.invariant.0),
      marks_on t.closed t.intake new t.stored c.store.new.self _ _ _ _ c.self.invariant.1
          (omega (arith, ap (λ (x : TakenIn). length x.forks.history) c.release.ensures, c.store.ensures.stored, c.push_reserved.ensures.len, c.push_reserved.ensures.capacity)),
      λ e. ap has_kind_mark pushed ∙ c.self.invariant.2 e,
      subst AreKept (sym (ap (λ (x : TakenIn). x.room) c.release.ensures)) c.self.invariant.3,
      subst (λ (g : Forks). IsIndex g c.store.new.self) c.history-2.ensures c.store.ensures.index,
      subst (λ (es : List Entry). AreGone (stored_of es) new.forks.held) (sym entries)
          (subst (λ (x : TakenIn). AreGone (at ∷ stored_of old.entries) x.forks.held) (sym c.release.ensures)
          (gone_more (stored_of old.entries) t.intake.forks.held at (omega (arith, held.low, c.self.invariant.4.same)) c.self.invariant.5)),
      c.self.invariant.6,
    )

pub returns-clause-entries : goal.returns-clause-entries
returns-clause-entries c =
    let t = c.self.inside in
    let at = c.in-Some.at in
    let new = c.release.new.self in
    let s = slip_seen c.args.slip in
    let old = told_with t.intake t.run (limits_told t.limits) t.size t.kind t.marks.items t.waited.items t.conflicts.items in
    let held : IsHeldAt t.intake.forks at = subst (λ (g : Forks). IsHeldAt g at) c.history.ensures c.in-Some.ensures.held in
    let placed : place_in (history_of old.entries) s ≡ Some at = ap (λ l. place_in l s) c.self.invariant.0.alike.history ∙ subst (λ (g : Forks). place_in g.history s ≡ Some at) c.history.ensures c.in-Some.ensures.some in
    let pushed : reverse c.push_reserved.new.self.items ≡ mark.Stored at ∷ reverse t.marks.items = ap reverse c.push_reserved.ensures.items ∙ marks_push t.marks.items (mark.Stored at) in
    let entries = entries_on new t.intake t.run (limits_told t.limits) t.size t.kind _ _ (reverse t.waited.items) (reverse t.waited.items) (ap (λ (x : TakenIn). x.first) c.release.ensures) (ap (λ (x : TakenIn). x.forks.history) c.release.ensures) pushed refl in
    let more = entry_some old.entries (history_of old.entries) s at t.intake.forks.held c.self.invariant.5 placed held.held in
    entries ∙ sym more ∙ ap (λ (x : Told). entry_at x.entries (place_in (history_of x.entries) s)) c.self.view_is
