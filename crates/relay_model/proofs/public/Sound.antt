-- Why a world stays sound.
use Rattle.std.proofs.Common.{arith, ◌≡◌, ◌<◌, ◌+◌, inl, inr, ℕ, false, ltb, ◌&&◌, List, [], ◌∷◌, ◌++◌, length, Option, Some, None, refl, sym, ◌∙◌, ap, subst}
use Rattle.std.specs.List.{AllByRecursion}
use Rattle.std.proofs.lemmas.Bool.{and_parts, cases_Bool, or_cases, or_parts, both_ways, false_from_ne_true, ltb-true, eqb-true}
use Rattle.std.proofs.Math.Dec.{eqb}
use Rattle.std.proofs.lemmas.List.{length-append}
use mathlib.Core.List.{IsSuffix, IsSuffix-trans}
use Rattle.block_record.specs.declared.blocks.Slip.{Slip}
use Rattle.block_record.specs.declared.blocks.Kind.{Kind}
use Rattle.block_record.specs.Ids.{same_id, same_id_refl, same_id-true}
use Rattle.chain_model.specs.Ancestry.{find_id, has_id, IsHistory}
use Rattle.chain_model.specs.Finality.{root_num}
use Rattle.chain_laws.proofs.public.Growth.{IsFound, all_weaker}
use Rattle.relay_model.specs.Worlds.{World, Limits}
use Rattle.relay_model.specs.Runs.{empty_world}
use Rattle.relay_model.specs.Offers.{Intake, intake, admitted, kind_after, purged, tip_num, judge, world_by}
use Rattle.relay_model.specs.Verdicts.{Verdict}
use Rattle.relay_model.specs.Verdicts as verdict
use Rattle.relay_model.specs.Soundness.{IsBlock}
use Rattle.relay_model.specs.Soundness.{IsDistinct, IsSound}
use Rattle.relay_model.specs.Laws.{OfferKeeps, OfferGrows}
use Rattle.relay_model.proofs.public.Admits.{IsNext, admits, admits_root}
use Rattle.relay_model.proofs.public.Intakes.{all_filter, all_pass, distinct_filter, none_next, IsTaking, keeps_taking, all_taken, taking_grows}
use Rattle.relay_model.proofs.public.Judged.{IsNew, IsTaker, IsAdmitted, judged_waits, judged_takes}

pub none_found : (xs : List Slip) (id : List ℕ) → find_id xs id ≡ None → has_id xs id ≡ false
none_found [] id e = refl
none_found (x ∷ xs) id e =
    elim (cases_Bool (same_id x.id id)) [
      | inl here ↦ absurd (grind (arith, e, here))
      | inr past ↦ rw (past, none_found xs id (rw past at e)) refl
    ]

pub lacks_parts : (xs ys : List Slip) (id : List ℕ) → has_id (xs ++ ys) id ≡ false → (has_id xs id ≡ false) × (has_id ys id ≡ false)
lacks_parts [] ys id h = (refl, h)
lacks_parts (x ∷ xs) ys id h =
    let parts = or_parts (same_id x.id id) (has_id (xs ++ ys) id) h in
    let rest = lacks_parts xs ys id parts.1 in
    (rw (parts.0, rest.0) refl, rest.1)

pub swap_ids : (a b : List ℕ) → same_id a b ≡ false → same_id b a ≡ false
swap_ids a b h = false_from_ne_true _ (λ same. both_ways _ h (rw (same_id-true b a same) (same_id_refl a)))

pub lacks_each : (xs : List Slip) (id : List ℕ) → has_id xs id ≡ false → AllByRecursion (λ s. same_id id s.id ≡ false) xs
lacks_each [] id h = tt
lacks_each (x ∷ xs) id h =
    let parts = or_parts (same_id x.id id) (has_id xs id) h in
    (swap_ids x.id id parts.0, lacks_each xs id parts.1)

pub apart_both : (newest : List Slip) (s : Slip) (room : List Slip) → has_id room s.id ≡ false → AllByRecursion (λ t. has_id newest t.id ≡ false) room
    → AllByRecursion (λ t. has_id (s ∷ newest) t.id ≡ false) room
apart_both newest s [] lacks apart = tt
apart_both newest s (x ∷ xs) lacks apart =
    let parts = or_parts (same_id x.id s.id) (has_id xs s.id) lacks in
    (rw (swap_ids x.id s.id parts.0, apart.0) refl, apart_both newest s xs parts.1 apart.1)

-- a block above another rises above its parent
pub rises_above : (s : Slip) (n : ℕ) → IsBlock s → n < s.num → s.parent_num < s.num
rises_above s n block above =
    elim (or_cases (ltb s.parent_num s.num) (eqb s.num 0 && eqb s.parent_num 0) block) [
      | inl less ↦ ltb-true _ _ less
      | inr none ↦ let zero : s.num ≡ 0 = eqb-true s.num 0 (and_parts (eqb s.num 0) (eqb s.parent_num 0) none).0 in absurd (omega (arith, zero, above))
    ]

pub new_parts : (w : World) (s : Slip) → IsNew w s → (has_id w.waiting s.id ≡ false) × (has_id w.history s.id ≡ false)
new_parts w s new = lacks_parts w.waiting w.history s.id (none_found (w.waiting ++ w.history) s.id new.held)

pub next_of : (w : World) (s : Slip) → IsSound w → IsBlock s → has_id w.history s.id ≡ false → IsTaker w s → IsNext s w.history
next_of w s sound block new (inl empty) = subst (IsNext s) (sym empty) (admits_root s)
next_of w s sound block new (inr link) =
    admits w.history s link.0 sound.history sound.agreed new link.1.parent (rises_above s (root_num w.history) block link.1.above) link.1.fits

abbrev pub first_intake : World → Slip → Intake
first_intake w s = record { history = s ∷ w.history; waiting = w.waiting; dropped = [] }

pub starts : (w : World) (s : Slip) → IsSound w → IsBlock s → IsAdmitted w s → IsTaking (first_intake w s)
starts w s sound block facts =
    let new = new_parts w s facts.new in
    let next = next_of w s sound block new.1 facts.links in
    record {
      history = next.history;
      agreed = next.agreed;
      distinct = sound.distinct;
      apart = apart_both w.history s w.waiting new.0 sound.apart;
      rises = sound.rises;
    }

pub begins_taking : (w : World) (s : Slip) → IsSound w → IsBlock s → IsAdmitted w s → IsTaking (intake w s)
begins_taking w s sound block facts = keeps_taking (length w.waiting) (first_intake w s) (starts w s sound block facts)

pub ends_taking : (w : World) (s : Slip) → AllByRecursion (λ t. has_id (intake w s).history t.parent_id ≡ false) (intake w s).waiting
ends_taking w s =
    none_next (intake w s).history (intake w s).waiting (all_taken (length w.waiting) (record { history = s ∷ w.history; waiting = w.waiting; dropped = [] }) (omega arith))

-- after an admission a kind is kept
has_kind : (kept : Option Kind) (newest : List Slip) → (kept ≡ None → newest ≡ []) → kind_after kept newest ≡ None → ⊥
has_kind (Some k) newest kind e = cc
has_kind None [] kind e = cc
has_kind None (s ∷ older) kind e = let empty = kind refl in cc

-- stored places stay in a longer history
pub stored_longer : (older newest : List Slip) (stored : List ℕ) → IsSuffix older newest
    → AllByRecursion (λ at. at < length older) stored → AllByRecursion (λ at. at < length newest) stored
stored_longer older newest stored grown all =
    let len : length newest ≡ length grown.0 + length older = ap length (sym grown.1) ∙ length-append grown.0 older in
    all_weaker (λ at. at < length older) (λ at. at < length newest) (λ at low. omega (arith, low, len)) stored all

sound_after : (w : World) (d : Intake) → IsSound w → IsSuffix w.history d.history → IsTaking d → AllByRecursion (λ t. has_id d.history t.parent_id ≡ false) d.waiting → IsSound (admitted w d)
sound_after w d sound grown t none = record {
  history = t.history;
  agreed = t.agreed;
  kind = λ e. absurd (has_kind w.kind w.history sound.kind e);
  stored = stored_longer w.history d.history w.stored grown sound.stored;
  distinct = distinct_filter _ d.waiting t.distinct;
  apart = all_filter _ _ d.waiting t.apart;
  orphans = all_filter _ _ d.waiting none;
  above = all_weaker _ _ (λ x pass. ltb-true _ _ pass) (purged d.history d.waiting) (all_pass _ d.waiting);
  rises = all_filter _ _ d.waiting t.rises;
}

-- soundness hangs on the history, what waits, the kind and the stored places alone; a kind may come
pub same_sound : (w v : World) → w.history ≡ v.history → w.waiting ≡ v.waiting → (v.kind ≡ None → w.kind ≡ None) → w.stored ≡ v.stored → IsSound w → IsSound v
same_sound w v h r k st sound = record {
  history = subst IsHistory h sound.history;
  agreed = rw (← h) sound.agreed;
  kind = λ e. sym h ∙ sound.kind (k e);
  stored = rw (← h, ← st) sound.stored;
  distinct = subst IsDistinct r sound.distinct;
  apart = rw (← h, ← r) sound.apart;
  orphans = rw (← h, ← r) sound.orphans;
  above = rw (← h, ← r) sound.above;
  rises = rw (← r) sound.rises;
}

-- all that an admission takes in goes on with the history
pub intake_grows : (w : World) (s : Slip) → IsSuffix w.history (intake w s).history
intake_grows w s = IsSuffix-trans (s ∷ [], refl) (taking_grows (length w.waiting) (first_intake w s))

-- a world in which nothing came yet is sound
pub empty_sound : (first run : ℕ) (limits : Limits) → IsSound (empty_world first run limits)
empty_sound first run limits = record {
  history = tt;
  agreed = λ a b x y fa. absurd (nothing a fa);
  kind = λ e. refl;
  stored = tt;
  distinct = tt;
  apart = tt;
  orphans = tt;
  above = tt;
  rises = tt;
}
  where
    nothing : (s : Slip) → IsFound [] s → ⊥
    nothing s f = grind (arith, f)

pub keeps_by : (w : World) (s : Slip) → IsSound w → IsBlock s → (v : Verdict) → judge w s ≡ v → IsSound (world_by w s v)
keeps_by w s sound block verdict.Closed e = sound
keeps_by w s sound block verdict.Duplicate e = sound
keeps_by w s sound block (verdict.Conflict c) e = same_sound w (record w { conflicts = c ∷ w.conflicts }) refl refl (λ none. none) refl sound
keeps_by w s sound block verdict.Early e = sound
keeps_by w s sound block verdict.Stale e = sound
keeps_by w s sound block verdict.WaitFull e = sound
keeps_by w s sound block verdict.Waiting e =
    let facts = judged_waits w s e in
    let new = new_parts w s facts.new in
    record {
      history = sound.history;
      agreed = sound.agreed;
      kind = sound.kind;
      stored = sound.stored;
      distinct = (new.0, sound.distinct);
      apart = (new.1, sound.apart);
      orphans = (none_found w.history s.parent_id facts.orphan, sound.orphans);
      above = (facts.above, sound.above);
      rises = (rises_above s (tip_num w.history) block facts.above, sound.rises);
    }
keeps_by w s sound block (verdict.HistoryFull need) e = sound
keeps_by w s sound block verdict.Admitted e = sound_after w (intake w s) sound (intake_grows w s) (begins_taking w s sound block (judged_takes w s e)) (ends_taking w s)

pub offer_keeps : OfferKeeps
offer_keeps w s sound block = keeps_by w s sound block (judge w s) refl

grows_by : (w : World) (s : Slip) (v : Verdict) → IsSuffix w.history (world_by w s v).history
grows_by w s verdict.Closed = ([], refl)
grows_by w s verdict.Duplicate = ([], refl)
grows_by w s (verdict.Conflict c) = ([], refl)
grows_by w s verdict.Early = ([], refl)
grows_by w s verdict.Stale = ([], refl)
grows_by w s verdict.WaitFull = ([], refl)
grows_by w s verdict.Waiting = ([], refl)
grows_by w s (verdict.HistoryFull need) = ([], refl)
grows_by w s verdict.Admitted = intake_grows w s

pub offer_grows : OfferGrows
offer_grows w s = grows_by w s (judge w s)
