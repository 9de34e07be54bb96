-- The order of keys, and lists that are sorted by it.
use Rattle.std.proofs.Common.{arith, ◌≡◌, ◌<◌, inl, inr, ℕ, Bool, true, false, cond, List, [], ◌∷◌, map, Some, refl, sym, ◌∙◌, ap, subst, ltb, ◌||◌, ◌&&◌}
use Rattle.std.proofs.Math.Dec.{eqb}
use Rattle.std.specs.List.{AllByRecursion}
use Rattle.std.proofs.lemmas.Bool.{and_parts, cases_Bool, or_cases, or_parts, both_ways, false_from_ne_true, ltb-true, lt-ltb, eqb-true, eq-eqb}
use Rattle.block_record.specs.declared.blocks.Slip.{Slip}
use Rattle.block_record.specs.Ids.{same_id, same_id-true}
use Rattle.chain_model.specs.Ancestry.{find_id, has_id}
use Rattle.chain_laws.proofs.public.Lines.{find_id_at, find_id_past}
use Rattle.relay_laws.proofs.EitherTest.{or_left, or_right}
use Rattle.relay_model.specs.Orders.{Linked, comes_after, put, sorted}
use Rattle.relay_model.specs.Soundness.{IsDistinct}
use Rattle.relay_model.proofs.public.Sound.{swap_ids}

pub data After (a b : Linked) : Type 0 where
  ByTime : b.time < a.time → After a b
  ByNum : a.time ≡ b.time → b.slip.num < a.slip.num → After a b
  ByPlace : a.time ≡ b.time → a.slip.num ≡ b.slip.num → b.at < a.at → After a b

abbrev place_test : Linked → Linked → Bool
place_test a b = eqb a.slip.num b.slip.num && ltb b.at a.at

abbrev num_test : Linked → Linked → Bool
num_test a b = ltb b.slip.num a.slip.num || place_test a b

abbrev time_test : Linked → Linked → Bool
time_test a b = eqb a.time b.time && num_test a b

pub after_is : (a b : Linked) → comes_after a b ≡ true → After a b
after_is a b e =
    elim (or_cases (ltb b.time a.time) (time_test a b) e) [
      | inl time ↦ ByTime (ltb-true _ _ time)
      | inr more ↦
          let p = and_parts (eqb a.time b.time) (num_test a b) more in
          elim (or_cases (ltb b.slip.num a.slip.num) (place_test a b) p.1) [
            | inl num ↦ ByNum (eqb-true _ _ p.0) (ltb-true _ _ num)
            | inr place ↦
                let q = and_parts (eqb a.slip.num b.slip.num) (ltb b.at a.at) place in
                ByPlace (eqb-true _ _ p.0) (eqb-true _ _ q.0) (ltb-true _ _ q.1)
          ]
    ]

both_true : (a b : Bool) → a ≡ true → b ≡ true → (a && b) ≡ true
both_true a b p q = rw (p, q) refl

pub is_after : (a b : Linked) → After a b → comes_after a b ≡ true
is_after a b (ByTime t) = or_left (ltb b.time a.time) (time_test a b) (lt-ltb _ _ t)
is_after a b (ByNum t n) =
    or_right (ltb b.time a.time) (time_test a b) (both_true (eqb a.time b.time) (num_test a b) (eq-eqb _ _ t) (or_left (ltb b.slip.num a.slip.num) (place_test a b) (lt-ltb _ _ n)))
is_after a b (ByPlace t n p) =
    or_right (ltb b.time a.time) (time_test a b) (both_true (eqb a.time b.time) (num_test a b) (eq-eqb _ _ t)
    (or_right (ltb b.slip.num a.slip.num) (place_test a b) (both_true (eqb a.slip.num b.slip.num) (ltb b.at a.at) (eq-eqb _ _ n) (lt-ltb _ _ p))))

pub after_trans : (a b c : Linked) → After a b → After b c → After a c
after_trans a b c (ByTime t) (ByTime u) = ByTime (omega (arith, t, u))
after_trans a b c (ByTime t) (ByNum u n) = ByTime (omega (arith, t, u))
after_trans a b c (ByTime t) (ByPlace u n p) = ByTime (omega (arith, t, u))
after_trans a b c (ByNum t m) (ByTime u) = ByTime (omega (arith, t, u))
after_trans a b c (ByNum t m) (ByNum u n) = ByNum (t ∙ u) (omega (arith, m, n))
after_trans a b c (ByNum t m) (ByPlace u n p) = ByNum (t ∙ u) (omega (arith, m, n))
after_trans a b c (ByPlace t m q) (ByTime u) = ByTime (omega (arith, t, u))
after_trans a b c (ByPlace t m q) (ByNum u n) = ByNum (t ∙ u) (omega (arith, m, n))
after_trans a b c (ByPlace t m q) (ByPlace u n p) = ByPlace (t ∙ u) (m ∙ n) (omega (arith, q, p))

not_after : (a : Linked) → After a a → ⊥
not_after a (ByTime t) = omega (arith, t)
not_after a (ByNum t n) = omega (arith, n)
not_after a (ByPlace t n p) = omega (arith, p)

pub not_both : (a b : Linked) → After a b → After b a → ⊥
not_both a b x y = not_after a (after_trans a b a x y)

-- no later element comes after an earlier one
abbrev pub Falls : List Linked → Type 0
Falls [] = Unit {0}
Falls (x ∷ rest) = AllByRecursion (λ y. comes_after y x ≡ false) rest × Falls rest

abbrev pub slips : List Linked → List Slip
slips xs = map (λ x. x.slip) xs

pub put_all : (P : Linked → Type 0) (x : Linked) (ys : List Linked) → P x → AllByRecursion P ys → AllByRecursion P (put x ys)
put_all P x [] own all = (own, tt)
put_all P x (y ∷ ys) own all =
    let rest = put_all P x ys own all.1 in
    let Q : Bool → Type 0 = λ t. AllByRecursion P (cond t (x ∷ y ∷ ys) (y ∷ put x ys)) in
    elim (comes_after x y) as Q [ true ↦ (own, all) | false ↦ (all.0, rest) ]

pub sorted_all : (P : Linked → Type 0) (xs : List Linked) → AllByRecursion P xs → AllByRecursion P (sorted xs)
sorted_all P [] all = tt
sorted_all P (x ∷ xs) all = put_all P x (sorted xs) all.0 (sorted_all P xs all.1)

below_all : (x y : Linked) (ys : List Linked) → After x y → AllByRecursion (λ z. comes_after z y ≡ false) ys → AllByRecursion (λ z. comes_after z x ≡ false) ys
below_all x y [] a all = tt
below_all x y (z ∷ zs) a all =
    (false_from_ne_true _ (λ e. both_ways _ all.0 (is_after z y (after_trans z x y (after_is z x e) a))), below_all x y zs a all.1)

put_falls : (x : Linked) (ys : List Linked) → Falls ys → Falls (put x ys)
put_falls x [] f = (tt, tt)
put_falls x (y ∷ ys) f =
    let rest = put_falls x ys f.1 in
    let Q : Bool → Type 0 = λ t. comes_after x y ≡ t → Falls (cond t (x ∷ y ∷ ys) (y ∷ put x ys)) in
    let go : Q (comes_after x y) = elim (comes_after x y) as Q [
      | true ↦ λ e. ((false_from_ne_true _ (λ back. not_both x y (after_is x y e) (after_is y x back)), below_all x y ys (after_is x y e) f.0), f)
      | false ↦ λ e. (put_all (λ z. comes_after z y ≡ false) x ys e f.0, rest)
    ] in
    go refl

pub sorted_falls : (xs : List Linked) → Falls (sorted xs)
sorted_falls [] = tt
sorted_falls (x ∷ xs) = put_falls x (sorted xs) (sorted_falls xs)

-- the same ids
or_swap : (a b c : Bool) → (a || (b || c)) ≡ (b || (a || c))
or_swap true true c = refl
or_swap true false c = refl
or_swap false true c = refl
or_swap false false c = refl

put_has : (x : Linked) (ys : List Linked) (j : List ℕ) → has_id (slips (put x ys)) j ≡ has_id (x.slip ∷ slips ys) j
put_has x [] j = refl
put_has x (y ∷ ys) j =
    let rest = put_has x ys j in
    let Q : Bool → Type 0 = λ t. has_id (slips (cond t (x ∷ y ∷ ys) (y ∷ put x ys))) j ≡ has_id (x.slip ∷ y.slip ∷ slips ys) j in
    elim (comes_after x y) as Q [ true ↦ refl | false ↦ ap (λ b. same_id y.slip.id j || b) rest ∙ or_swap (same_id y.slip.id j) (same_id x.slip.id j) (has_id (slips ys) j) ]

pub sorted_has : (xs : List Linked) (j : List ℕ) → has_id (slips (sorted xs)) j ≡ has_id (slips xs) j
sorted_has [] j = refl
sorted_has (x ∷ xs) j = put_has x (sorted xs) j ∙ ap (λ b. same_id x.slip.id j || b) (sorted_has xs j)

put_distinct : (x : Linked) (ys : List Linked) → IsDistinct (slips ys) → has_id (slips ys) x.slip.id ≡ false → IsDistinct (slips (put x ys))
put_distinct x [] d lacks = (refl, tt)
put_distinct x (y ∷ ys) d lacks =
    let parts = or_parts (same_id y.slip.id x.slip.id) (has_id (slips ys) x.slip.id) lacks in
    let rest = put_distinct x ys d.1 parts.1 in
    let new : has_id (slips (put x ys)) y.slip.id ≡ false = put_has x ys y.slip.id ∙ none (same_id x.slip.id y.slip.id) (has_id (slips ys) y.slip.id) (swap_ids y.slip.id x.slip.id parts.0) d.0 in
    let Q : Bool → Type 0 = λ t. IsDistinct (slips (cond t (x ∷ y ∷ ys) (y ∷ put x ys))) in
    elim (comes_after x y) as Q [ true ↦ (lacks, d) | false ↦ (new, rest) ]
  where
    none : (a b : Bool) → a ≡ false → b ≡ false → (a || b) ≡ false
    none a b p q = rw (p, q) refl

pub sorted_distinct : (xs : List Linked) → IsDistinct (slips xs) → IsDistinct (slips (sorted xs))
sorted_distinct [] d = tt
sorted_distinct (x ∷ xs) d = put_distinct x (sorted xs) (sorted_distinct xs d.1) (sorted_has xs x.slip.id ∙ d.0)

-- the same blocks
put_find : (x : Linked) (ys : List Linked) (j : List ℕ) → has_id (slips ys) x.slip.id ≡ false → find_id (slips (put x ys)) j ≡ find_id (x.slip ∷ slips ys) j
put_find x [] j lacks = refl
put_find x (y ∷ ys) j lacks =
    let parts = or_parts (same_id y.slip.id x.slip.id) (has_id (slips ys) x.slip.id) lacks in
    let rest = put_find x ys j parts.1 in
    let Q : Bool → Type 0 = λ t. find_id (slips (cond t (x ∷ y ∷ ys) (y ∷ put x ys))) j ≡ find_id (x.slip ∷ y.slip ∷ slips ys) j in
    elim (comes_after x y) as Q [ true ↦ refl | false ↦ over parts.0 rest ]
  where
    over : same_id y.slip.id x.slip.id ≡ false → find_id (slips (put x ys)) j ≡ find_id (x.slip ∷ slips ys) j → find_id (y.slip ∷ slips (put x ys)) j ≡ find_id (x.slip ∷ y.slip ∷ slips ys) j
    over apart rest =
        elim (cases_Bool (same_id y.slip.id j)) [
          | inl here ↦
              let miss : same_id x.slip.id j ≡ false = subst (λ (i : List ℕ). same_id x.slip.id i ≡ false) (same_id-true y.slip.id j here) (swap_ids y.slip.id x.slip.id apart) in
              find_id_at y.slip (slips (put x ys)) j here ∙ sym (find_id_past x.slip (y.slip ∷ slips ys) j miss ∙ find_id_at y.slip (slips ys) j here)
          | inr past ↦ elim (cases_Bool (same_id x.slip.id j)) [
            | inl own ↦ find_id_past y.slip (slips (put x ys)) j past ∙ rest ∙ find_id_at x.slip (slips ys) j own ∙ sym (find_id_at x.slip (y.slip ∷ slips ys) j own)
            | inr other ↦ find_id_past y.slip (slips (put x ys)) j past ∙ rest ∙ find_id_past x.slip (slips ys) j other
                ∙ sym (find_id_past x.slip (y.slip ∷ slips ys) j other ∙ find_id_past y.slip (slips ys) j past)
          ]
        ]

pub sorted_find : (xs : List Linked) (j : List ℕ) → IsDistinct (slips xs) → find_id (slips (sorted xs)) j ≡ find_id (slips xs) j
sorted_find [] j d = refl
sorted_find (x ∷ xs) j d =
    put_find x (sorted xs) j (sorted_has xs x.slip.id ∙ d.0) ∙ ap (λ o. cond (same_id x.slip.id j) (Some x.slip) o) (sorted_find xs j d.1)
