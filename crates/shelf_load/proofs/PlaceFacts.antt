-- Lists that are put in order, each element in its place among those after it.
use Rattle.std.proofs.Common.{arith, ◌≡◌, ◌<◌, ◌+◌, ◌-◌, ℕ, zero, suc, Bool, true, false, cond, List, [], ◌∷◌, length, reverse, get_or, refl, ap, subst, ◌∙◌}
use Rattle.std.specs.Prelude.{IsPermutation}
use Rattle.std.specs.List.{AllByRecursion}
use Rattle.std.specs.List.Sorted.{IsSortedBy}
use Rattle.std.proofs.lemmas.List.{get_or-reverse, length-reverse}
use Rattle.std.proofs.lemmas.List.Sorted.{IsPermutation-refl, IsPermutation-sym, IsPermutation-trans, IsPermutation-cons, IsPermutation-middle}

module _ {X : Type 0} (is_less : X → X → Bool) where
  -- an element among others, before the first one that it is less than
  abbrev pub place : X → List X → List X
  place x [] = x ∷ []
  place x (y ∷ ys) = cond (is_less x y) (x ∷ y ∷ ys) (y ∷ place x ys)

  -- each in its place
  abbrev pub placed : List X → List X
  placed [] = []
  placed (x ∷ xs) = place x (placed xs)

  place_shuffles : (x : X) (ys : List X) → IsPermutation (x ∷ ys) (place x ys)
  place_shuffles x [] = IsPermutation-refl (x ∷ [])
  place_shuffles x (y ∷ ys) =
      let P : Bool → Type 0 = λ b. IsPermutation (x ∷ y ∷ ys) (cond b (x ∷ y ∷ ys) (y ∷ place x ys)) in
      elim (is_less x y) as P [
        | true ↦ IsPermutation-refl (x ∷ y ∷ ys)
        | false ↦
            IsPermutation-trans (x ∷ y ∷ ys) (y ∷ x ∷ ys) (y ∷ place x ys) (IsPermutation-sym (y ∷ x ∷ ys) (x ∷ y ∷ ys) (IsPermutation-middle (y ∷ []) x ys))
            (IsPermutation-cons y (x ∷ ys) (place x ys) (place_shuffles x ys))
      ]

  -- all are still there
  pub placed_shuffles : (xs : List X) → IsPermutation xs (placed xs)
  placed_shuffles [] = IsPermutation-refl []
  placed_shuffles (x ∷ xs) = IsPermutation-trans (x ∷ xs) (x ∷ placed xs) (place x (placed xs)) (IsPermutation-cons x xs (placed xs) (placed_shuffles xs)) (place_shuffles x (placed xs))

  place_all : (P : X → Type 0) (x : X) (ys : List X) → P x → AllByRecursion P ys → AllByRecursion P (place x ys)
  place_all P x [] own all = (own, tt)
  place_all P x (y ∷ ys) own all =
      let rest = place_all P x ys own all.1 in
      let Q : Bool → Type 0 = λ b. AllByRecursion P (cond b (x ∷ y ∷ ys) (y ∷ place x ys)) in
      elim (is_less x y) as Q [ true ↦ (own, all) | false ↦ (all.0, rest) ]

  -- and what holds of each does
  pub placed_all : (P : X → Type 0) (xs : List X) → AllByRecursion P xs → AllByRecursion P (placed xs)
  placed_all P [] all = tt
  placed_all P (x ∷ xs) all = place_all P x (placed xs) all.0 (placed_all P xs all.1)

  -- the next element is not less
  abbrev NextRises : X → List X → Type 0
  NextRises x [] = Unit {0}
  NextRises x (y ∷ ys) = is_less y x ≡ false

  abbrev Rises : List X → Type 0
  Rises [] = Unit {0}
  Rises (x ∷ xs) = NextRises x xs × Rises xs

  next_place : (y x : X) (ys : List X) → is_less x y ≡ false → NextRises y ys → NextRises y (place x ys)
  next_place y x [] less next = less
  next_place y x (z ∷ zs) less next =
      let P : Bool → Type 0 = λ b. NextRises y (cond b (x ∷ z ∷ zs) (z ∷ place x zs)) in
      elim (is_less x z) as P [ true ↦ less | false ↦ next ]

  rises_sorted : (xs : List X) → Rises xs → IsSortedBy is_less xs
  rises_sorted [] up k d low high = absurd (omega arith)
  rises_sorted (x ∷ []) up k d low high = absurd (omega arith)
  rises_sorted (x ∷ y ∷ ys) up zero d low high = up.0
  rises_sorted (x ∷ y ∷ ys) up (suc k) d low high =
      let rest : is_less (get_or (y ∷ ys) (k + 1) d) (get_or (y ∷ ys) k d) ≡ false = rises_sorted (y ∷ ys) up.1 k d (omega arith) (omega arith) in
      let P : ℕ → Type 0 = λ n. is_less (get_or (x ∷ y ∷ ys) n d) (get_or (y ∷ ys) k d) ≡ false in
      let e : suc (k + 1) ≡ suc k + 1 = omega arith in
      subst P e rest

  module _ (one_way : (x y : X) → is_less x y ≡ true → is_less y x ≡ false) where
    place_rises : (x : X) (ys : List X) → Rises ys → Rises (place x ys)
    place_rises x [] up = (tt, tt)
    place_rises x (y ∷ ys) up = go (is_less x y) refl (place_rises x ys up.1)
      where
        go : (b : Bool) → is_less x y ≡ b → Rises (place x ys) → Rises (cond b (x ∷ y ∷ ys) (y ∷ place x ys))
        go true e rest = (one_way x y e, up)
        go false e rest = (next_place y x ys e up.0, rest)

    placed_rises : (xs : List X) → Rises (placed xs)
    placed_rises [] = tt
    placed_rises (x ∷ xs) = place_rises x (placed xs) (placed_rises xs)

    -- the list is in order
    pub placed_sorted : (xs : List X) → IsSortedBy is_less (placed xs)
    placed_sorted xs = rises_sorted (placed xs) (placed_rises xs)

-- a list in order, turned over
pub reverse_sorted : {X : Type 0} (is_less : X → X → Bool) (xs : List X) → IsSortedBy (λ a b. is_less b a) xs → IsSortedBy is_less (reverse xs)
reverse_sorted {X} is_less xs down k d low high =
    let within : k + 1 < length xs = omega (arith, high, length-reverse xs) in
    let at : ℕ = length xs - 1 - (k + 1) in
    let this : get_or (reverse xs) (k + 1) d ≡ get_or xs at d = get_or-reverse xs (k + 1) d within in
    let before : get_or (reverse xs) k d ≡ get_or xs (at + 1) d = get_or-reverse xs k d (omega arith) ∙ ap (λ (n : ℕ). get_or xs n d) (omega arith) in
    ap (λ (x : X). is_less x (get_or (reverse xs) k d)) this ∙ ap (λ (y : X). is_less (get_or xs at d) y) before ∙ down at d (omega arith) (omega arith)
