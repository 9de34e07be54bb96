-- Lists in order that have the same elements are one.
use Rattle.std.proofs.Common.{arith, ◌≡◌, ◌<◌, ◌+◌, ℕ, suc, Bool, true, false, cond, List, [], ◌∷◌, length, get_or, refl, sym, ap, subst, ◌∙◌, add-one}
use Rattle.std.specs.Prelude.{IsPermutation, IsSorted}
use Rattle.std.specs.List.{sum_by}
use Rattle.std.specs.Cmp.{IsTotalOrder}
use Rattle.std.specs.Ordering.{is_lt, ordering_reverse}
use Rattle.std.specs.declared.cmp.Ordering.{Ordering}
use Rattle.std.specs.declared.cmp.Ordering.TheVariants as order
use Rattle.std.proofs.lemmas.List.MinMax.{ranks_by}
use Rattle.std.proofs.lemmas.List.Sorted.{sorted_far, sum_by-IsPermutation}
use Rattle.std.proofs.lemmas.List.Sums.{sum_by-cons}

-- what is counted of one list is counted of the other
abbrev HaveEqualSums : {X : Type 0} → List X → List X → Type 0
HaveEqualSums {X} xs ys = (f : X → ℕ) → sum_by f xs ≡ sum_by f ys

module _ {X : Type 0} (R : X → X → Ordering) (total : IsTotalOrder R) (exact : (x y : X) → R x y ≡ order.Equal → x ≡ y) where
  -- how many of one element are less than another
  abbrev below : X → X → ℕ
  below x y = cond (is_lt (R y x)) 1 0

  none_below : (x : X) (ys : List X) → ((j : ℕ) (d : X) → j < length ys → is_lt (R (get_or ys j d) x) ≡ false) → sum_by (below x) ys ≡ 0
  none_below x [] least = refl
  none_below x (y ∷ ys) least =
      sum_by-cons (below x) y ys ∙ ap (λ b. cond b 1 0 + sum_by (below x) ys) (least 0 y (omega arith))
      ∙ ap (λ n. 0 + n) (none_below x ys (λ j d within. least (suc j) d (omega arith)))

  -- the first of a list in order has none below it
  first_least : (y : X) (ys : List X) → IsSorted R (y ∷ ys) → sum_by (below y) (y ∷ ys) ≡ 0
  first_least y ys up = none_below y (y ∷ ys) (λ j d within. sorted_far (λ a b. is_lt (R a b)) (ranks_by total (λ z. z)) (y ∷ ys) up 0 j d (omega arith) within)

  counted : (b : Bool) (n : ℕ) → cond b 1 0 + n ≡ 0 → b ≡ false
  counted true n e = absurd (omega arith)
  counted false n e = refl

  not_less : (x y : X) (xs ys : List X) → HaveEqualSums (x ∷ xs) (y ∷ ys) → IsSorted R (y ∷ ys) → is_lt (R x y) ≡ false
  not_less x y xs ys same up = counted (is_lt (R x y)) (sum_by (below y) xs) (sym (sum_by-cons (below y) x xs) ∙ same (below y) ∙ first_least y ys up)

  both_ways : (x y : X) → is_lt (R x y) ≡ false → is_lt (R y x) ≡ false → x ≡ y
  both_ways x y above below = by_order (R x y) refl
    where
      by_order : (r : Ordering) → R x y ≡ r → x ≡ y
      by_order order.Less e = absurd (let clash : true ≡ false = ap is_lt (sym e) ∙ above in cc clash)
      by_order order.Equal e = exact x y e
      by_order order.Greater e = absurd (let clash : true ≡ false = ap is_lt (ap ordering_reverse (sym e) ∙ sym (total.antisymm y x)) ∙ below in cc clash)

  at_tail : (x : X) (xs : List X) (d : X) (i j : ℕ) → j ≡ suc i → get_or (x ∷ xs) j d ≡ get_or xs i d
  at_tail x xs d i j e = let P : ℕ → Type 0 = λ n. get_or (x ∷ xs) n d ≡ get_or xs i d in subst P (sym e) refl

  sorted_tail : (x : X) (xs : List X) → IsSorted R (x ∷ xs) → IsSorted R xs
  sorted_tail x xs up k d low high =
      let next : get_or (x ∷ xs) (k + 1 + 1) d ≡ get_or xs (k + 1) d = at_tail x xs d (k + 1) (k + 1 + 1) (add-one (k + 1)) in
      let this : get_or (x ∷ xs) (k + 1) d ≡ get_or xs k d = at_tail x xs d k (k + 1) (add-one k) in
      ap (λ z. is_lt (R z (get_or xs k d))) (sym next) ∙ ap (λ z. is_lt (R (get_or (x ∷ xs) (k + 1 + 1) d) z)) (sym this) ∙ up (k + 1) d (omega arith) (omega arith)

  sums_tail : (x : X) (xs ys : List X) → HaveEqualSums (x ∷ xs) (x ∷ ys) → HaveEqualSums xs ys
  sums_tail x xs ys same f = let e = sym (sum_by-cons f x xs) ∙ same f ∙ sum_by-cons f x ys in omega (arith, e)

  in_order_same : (xs ys : List X) → HaveEqualSums xs ys → IsSorted R xs → IsSorted R ys → xs ≡ ys
  in_order_same [] [] same up up' = refl
  in_order_same [] (y ∷ ys) same up up' = absurd (omega (arith, same (λ z. 1), sum_by-cons (λ (z : X). 1) y ys))
  in_order_same (x ∷ xs) [] same up up' = absurd (omega (arith, same (λ z. 1), sum_by-cons (λ (z : X). 1) x xs))
  in_order_same (x ∷ xs) (y ∷ ys) same up up' =
      let one : x ≡ y = both_ways x y (not_less x y xs ys same up') (not_less y x ys xs (λ f. sym (same f)) up) in
      let P : X → Type 0 = λ z. HaveEqualSums (x ∷ xs) (z ∷ ys) in
      ap (λ (z : X). z ∷ xs) one ∙ ap (λ (zs : List X). y ∷ zs) (in_order_same xs ys (sums_tail x xs ys (subst P (sym one) same)) (sorted_tail x xs up) (sorted_tail y ys up'))

  -- two sorts of one list are one
  pub sorted_same : (found xs ys : List X) → IsPermutation found xs → IsPermutation found ys → IsSorted R xs → IsSorted R ys → xs ≡ ys
  sorted_same found xs ys p q = in_order_same xs ys (λ f. sum_by-IsPermutation f found xs p ∙ sym (sum_by-IsPermutation f found ys q))
