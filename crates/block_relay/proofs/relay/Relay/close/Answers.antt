use Rattle.std.proofs.Common.{arith, ◌≡◌, ◌∷◌, true, List, reverse, ap, sym, ◌∙◌, refl, subst}
use Rattle.relay_model.specs.Chronicles.{Closed, Entry, stored_of}
use Rattle.block_relay.specs.Held.{AreGone}
use Rattle.block_relay.proofs.StoredFacts.{index_low, marks_open}
use Rattle.block_relay.specs.declared.marks.Mark.TheVariants as mark
use Rattle.block_relay.specs.Chronicle.{has_kind_mark, limits_told, told_with}
use Rattle.block_relay.proofs.AdmissionFacts.{kept_as}
use Rattle.block_relay.proofs.KeptFacts.{closes, entries_on, marks_push}
use Rattle.block_relay.proofs.relay.Relay.close.Goals as goal

pub invariant_of-self : goal.invariant_of-self
invariant_of-self c =
    let t = c.self.inside in
    let old = told_with t.intake t.run (limits_told t.limits) t.size t.kind t.marks.items t.waited.items t.conflicts.items in
    let pushed : reverse c.push_reserved.new.self.items ≡ mark.Closed ∷ reverse t.marks.items = ap reverse c.push_reserved.ensures.items ∙ marks_push t.marks.items mark.Closed in
    let entries = entries_on t.intake t.intake t.run (limits_told t.limits) t.size t.kind _ _ (reverse t.waited.items) (reverse t.waited.items) refl refl pushed refl in (
      kept_as _ (Closed ∷ old.entries) _ _ t.intake t.kind t.kind true t.run t.size entries refl refl (closes old.entries old.conflicts t.intake t.kind t.closed t.run t.size c.self.invariant.0),
      (let left = marks_open t.closed t.intake t.stored _ _ c.if-not-self.true c.self.invariant.1 in omega (arith, left, c.push_reserved.ensures.len, c.push_reserved.ensures.capacity)),
      λ e. ap has_kind_mark pushed ∙ c.self.invariant.2 e,
      c.self.invariant.3,
      c.self.invariant.4,
      subst (λ (es : List Entry). AreGone (stored_of es) t.intake.forks.held) (sym entries) c.self.invariant.5,
      c.self.invariant.6,
    )

pub push_reserved-requires : goal.push_reserved-requires
push_reserved-requires c =
    let t = c.self.inside in
    let left = marks_open t.closed t.intake t.stored _ _ c.if-not-self.true c.self.invariant.1 in
    let low = index_low t.intake.forks t.stored c.self.invariant.4 in
    omega (arith, left, low)
