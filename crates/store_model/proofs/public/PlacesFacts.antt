-- The blocks at the places of those that pass a test.
use Rattle.std.proofs.Common.{arith, ◌≡◌, ◌≤◌, ◌<◌, ℕ, Bool, true, false, cond, List, [], ◌∷◌, length, refl, ap}
use Rattle.std.specs.List.{AllByRecursion, filter, list_any}
use Rattle.std.proofs.Math.Dec.{eqb}
use Rattle.std.proofs.lemmas.Bool.{false_from_ne_true, eqb-true, eq-eqb}
use Rattle.block_record.specs.declared.blocks.Slip.{Slip}
use Rattle.chain_laws.proofs.public.Growth.{all_weaker}
use Rattle.bundle_model.specs.Plans.{at_places}
use Rattle.store_model.specs.Loads.{places_of}

-- places past the end
past_places : (n : ℕ) (places : List ℕ) (xs : List Slip) → length xs ≤ n → at_places (n ∷ places) xs ≡ at_places places xs
past_places n places [] le = refl
past_places n places (x ∷ xs) le =
    let other : eqb n (length xs) ≡ false = false_from_ne_true _ (λ e. let same = eqb-true n (length xs) e in omega (arith, same, le)) in
    let rest = past_places n places xs (omega (arith, le)) in
    rw (other, rest) refl

places_low : (p : Slip → Bool) (xs : List Slip) (n : ℕ) → length xs ≤ n → list_any (λ k. eqb k n) (places_of p xs) ≡ false
places_low p [] n le = refl
places_low p (x ∷ xs) n le =
    let rest = places_low p xs n (omega (arith, le)) in
    let other : eqb (length xs) n ≡ false = false_from_ne_true _ (λ e. let same = eqb-true (length xs) n e in omega (arith, same, le)) in
    let P : Bool → Type 0 = λ b. list_any (λ k. eqb k n) (cond b (length xs ∷ places_of p xs) (places_of p xs)) ≡ false in
    elim (p x) as P [ true ↦ rw (other, rest) refl | false ↦ rest ]

-- the blocks at the places of those that pass a test are those
pub places_filter : (p : Slip → Bool) (xs : List Slip) → at_places (places_of p xs) xs ≡ filter p xs
places_filter p [] = refl
places_filter p (x ∷ xs) = go (p x) refl (places_filter p xs)
  where
    go : (b : Bool) → p x ≡ b → at_places (places_of p xs) xs ≡ filter p xs
        → at_places (cond b (length xs ∷ places_of p xs) (places_of p xs)) (x ∷ xs) ≡ cond b (x ∷ filter p xs) (filter p xs)
    go true e ih =
        let here : eqb (length xs) (length xs) ≡ true = eq-eqb (length xs) (length xs) refl in
        let past = past_places (length xs) (places_of p xs) xs (omega arith) in
        rw (here, past) (ap (λ l. x ∷ l) ih)
    go false e ih =
        let low = places_low p xs (length xs) (omega arith) in
        rw low ih

-- places of a history are below its length
pub places_within : (p : Slip → Bool) (xs : List Slip) → AllByRecursion (λ at. at < length xs) (places_of p xs)
places_within p [] = tt
places_within p (x ∷ xs) =
    let rest = all_weaker (λ (n : ℕ). n < length xs) (λ (n : ℕ). n < length (x ∷ xs)) (λ n h. omega (arith, h)) (places_of p xs) (places_within p xs) in
    let P : Bool → Type 0 = λ b. AllByRecursion (λ (at : ℕ). at < length (x ∷ xs)) (cond b (length xs ∷ places_of p xs) (places_of p xs)) in
    elim (p x) as P [ true ↦ (omega arith, rest) | false ↦ rest ]
