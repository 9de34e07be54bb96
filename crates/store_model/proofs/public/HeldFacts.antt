-- A block that is held is answered as a repeat.
use Rattle.std.proofs.Common.{arith, ◌≡◌, ◌⊎◌, inl, inr, ℕ, Bool, true, false, List, [], ◌∷◌, ◌++◌, Some, None, refl, ◌∙◌, ap, subst, cond}
use Rattle.std.proofs.lemmas.Bool.{cases_Bool, both_ways, or_parts, false_from_ne_true}
use Rattle.block_record.specs.declared.blocks.Slip.{Slip}
use Rattle.block_record.specs.Ids.{same_id, same_id_refl, same_id-true}
use Rattle.chain_model.specs.Ancestry.{find_id, has_id}
use Rattle.relay_model.specs.Worlds.{World}
use Rattle.relay_model.specs.Offers.{judge, judge_held}
use Rattle.relay_model.specs.Verdicts as verdict
use Rattle.relay_model.specs.Soundness.{IsDistinct, IsSound}
use Rattle.relay_model.proofs.public.Intakes.{find_of}
use Rattle.block_record.proofs.public.SlipFacts.{same_slip_refl}
use Rattle.bundle_model.specs.Members.{Among}
use Rattle.store_model.specs.StepLaws.{HeldIsDuplicate}
use Rattle.bundle_model.proofs.public.RetainedFacts.{id_there}
use Rattle.bundle_model.proofs.public.StoredFacts.{among_found}
use Rattle.chain_laws.proofs.public.Growth.{find_passes}
use Rattle.chain_laws.proofs.public.Lines.{id-find_id}

pub distinct_found : (xs : List Slip) → IsDistinct xs → (s : Slip) → Among xs s → find_id xs s.id ≡ Some s
distinct_found [] d s h = absurd h
distinct_found (x ∷ xs) d s (inl e) =
    let here : same_id x.id s.id ≡ true = subst (λ (y : Slip). same_id x.id y.id ≡ true) e (same_id_refl x.id) in
    rw here (ap (λ (y : Slip). Some y) e)
distinct_found (x ∷ xs) d s (inr h) =
    elim (cases_Bool (same_id x.id s.id)) [
      | inl same ↦ absurd (both_ways _ (subst (λ (i : List ℕ). has_id xs i ≡ false) (same_id-true x.id s.id same) d.0) (id_there xs s h))
      | inr other ↦ rw other (distinct_found xs d.1 s h)
    ]

front_found : (xs ys : List Slip) (s : Slip) → find_id xs s.id ≡ Some s → find_id (xs ++ ys) s.id ≡ Some s
front_found [] ys s e = absurd (none e)
  where
    none : None ≡ Some s → ⊥
    none k = grind (arith, k)
front_found (x ∷ xs) ys s e = go (same_id x.id s.id) e (λ k. front_found xs ys s k)
  where
    go : (b : Bool) → cond b (Some x) (find_id xs s.id) ≡ Some s → (find_id xs s.id ≡ Some s → find_id (xs ++ ys) s.id ≡ Some s) → cond b (Some x) (find_id (xs ++ ys) s.id) ≡ Some s
    go true k ih = k
    go false k ih = ih k

past_found : (xs ys : List Slip) (id : List ℕ) → has_id xs id ≡ false → find_id (xs ++ ys) id ≡ find_id ys id
past_found [] ys id e = refl
past_found (x ∷ xs) ys id e =
    let p = or_parts (same_id x.id id) (has_id xs id) e in
    let other = p.0 in
    rw other (past_found xs ys id p.1)

waits_not : (w : World) → IsSound w → (s : Slip) → Among w.history s → has_id w.waiting s.id ≡ false
waits_not w sound s h = false_from_ne_true _ (λ there.
    let p = find_of w.waiting s.id there in
    let a = find_passes (λ x. has_id w.history x.id ≡ false) _ w.waiting p.0 sound.apart p.1 in
    let id = id-find_id w.waiting s.id p.0 p.1 in
    both_ways _ (subst (λ (i : List ℕ). has_id w.history i ≡ false) id a) (id_there w.history s h))

held_found : (w : World) (s : Slip) → IsSound w → Among w.history s ⊎ Among w.waiting s → find_id (w.waiting ++ w.history) s.id ≡ Some s
held_found w s sound (inl h) = past_found w.waiting w.history s.id (waits_not w sound s h) ∙ among_found w.history sound.history s h
held_found w s sound (inr h) = front_found w.waiting w.history s (distinct_found w.waiting sound.distinct s h)

pub held_is_duplicate : HeldIsDuplicate
held_is_duplicate w s sound opened h =
    let same = same_slip_refl s in
    let step : judge w s ≡ judge_held w s (find_id (w.waiting ++ w.history) s.id) = rw opened refl in
    let last : judge_held w s (Some s) ≡ verdict.Duplicate = rw same refl in
    step ∙ ap (judge_held w s) (held_found w s sound h) ∙ last
