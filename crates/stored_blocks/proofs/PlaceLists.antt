-- Lists of places that rise, with one more and with one less.
use Rattle.std.proofs.Common.{arith, ◌≡◌, ◌≤◌, ◌<◌, ◌⊎◌, inl, inr, ℕ, zero, suc, List, [], ◌∷◌, length, take, refl, sym, ◌∙◌, ap, subst, get_or, ltb, Option, Some, None, IsSome, OnSome}
use Rattle.std.specs.List.{AllByRecursion, AllWithin, filter, insert, remove}
use Rattle.std.specs.List.Sorted.{IsNonDecreasingBy}
use Rattle.std.specs.Ordering.{nat_cmp, ordering_then, ordering_index}
use Rattle.std.specs.declared.cmp.Ordering.{Ordering}
use Rattle.std.proofs.lemmas.Bool.{cases_lt, lt-ltb}
use Rattle.chain_laws.proofs.public.Growth.{all_weaker}
use Rattle.bundle_model.proofs.public.Climbs.{ltb_no}
use Rattle.bundle_model.specs.Members.{Among}
use Rattle.bundle_model.proofs.public.MemberFacts.{among_all}
use Rattle.stored_blocks.specs.declared.places.NumberedPlace.{NumberedPlace}
use Rattle.stored_blocks.specs.Places.{IsBefore, Rises, Adds, Drops}

-- how two places compare
abbrev pub place_cmp : NumberedPlace → NumberedPlace → Ordering
place_cmp a b = ordering_then (nat_cmp a.num b.num) (nat_cmp a.place b.place)

less_before : (x y : NumberedPlace) → place_cmp x y ≡ Ordering.Less → IsBefore x y
less_before x y e = grind (arith, e)

greater_after : (x y : NumberedPlace) → place_cmp x y ≡ Ordering.Greater → IsBefore y x
greater_after x y e = grind (arith, e)

equal_same : (x y : NumberedPlace) → place_cmp x y ≡ Ordering.Equal → x ≡ y
equal_same x y e = grind (arith, e)

before_less : (x y : NumberedPlace) → IsBefore x y → ordering_index (place_cmp x y) ≡ 0
before_less x y e = grind (arith, e)

index_mono : (a b z : NumberedPlace) → IsBefore a b → ordering_index (place_cmp a z) ≤ ordering_index (place_cmp b z)
index_mono a b z e = grind (arith, e)

before_before : (a b c : NumberedPlace) → IsBefore a b → IsBefore b c → IsBefore a c
before_before a b c e f = grind (arith, e, f)

not_before_self : (a : NumberedPlace) → IsBefore a a → ⊥
not_before_self a e = grind (arith, e)

place_same : (x : NumberedPlace) → place_cmp x x ≡ Ordering.Less → ⊥
place_same x e = grind (arith, e)

place_over : (x : NumberedPlace) → place_cmp x x ≡ Ordering.Greater → ⊥
place_over x e = grind (arith, e)

-- elements of a list that rises, by index
rises_far : (xs : List NumberedPlace) → Rises xs → (i j : ℕ) (d : NumberedPlace) → i < j → j < length xs → IsBefore (get_or xs i d) (get_or xs j d)
rises_far [] r i j d less low = absurd (omega (arith, low))
rises_far (x ∷ xs) r zero zero d less low = absurd (omega (arith, less))
rises_far (x ∷ xs) r zero (suc j) d less low = among_all (IsBefore x) xs r.0 (get_or xs j d) (index_among xs j d (omega (arith, low)))
  where
    index_among : (ys : List NumberedPlace) (k : ℕ) (e : NumberedPlace) → k < length ys → Among ys (get_or ys k e)
    index_among [] k e l = absurd (omega (arith, l))
    index_among (y ∷ ys) zero e l = inl refl
    index_among (y ∷ ys) (suc k) e l = inr (index_among ys k e (omega (arith, l)))
rises_far (x ∷ xs) r (suc i) zero d less low = absurd (omega (arith, less))
rises_far (x ∷ xs) r (suc i) (suc j) d less low = rises_far xs r.1 i j d (omega (arith, less)) (omega (arith, low))

-- so a search for a place finds where it is, or belongs
pub searchable : (xs : List NumberedPlace) (z : NumberedPlace) → Rises xs → IsNonDecreasingBy (λ y. ordering_index (place_cmp y z)) xs
searchable xs z r i j d le low =
    elim (cases_lt i j) [
      | inl less ↦ index_mono (get_or xs i d) (get_or xs j d) z (rises_far xs r i j d less low)
      | inr more ↦ let same : i ≡ j = omega (arith, le, more) in subst (λ (k : ℕ). ordering_index (place_cmp (get_or xs i d) z) ≤ ordering_index (place_cmp (get_or xs k d) z)) same (omega arith)
    ]

pub not_found : (xs : List NumberedPlace) (x : NumberedPlace) (i : ℕ) → AllWithin (λ y. place_cmp y x ≡ Ordering.Less) xs 0 i → AllWithin (λ y. place_cmp y x ≡ Ordering.Greater) xs i (length xs) → Among xs x → ⊥
not_found [] x i low high h = h
not_found (y ∷ xs) x zero low high (inl e) = place_over x (subst (λ (z : NumberedPlace). place_cmp z x ≡ Ordering.Greater) e (high 0 x (omega arith) (omega arith)))
not_found (y ∷ xs) x zero low high (inr h) = not_found xs x zero (λ k d a b. absurd (omega (arith, b))) (λ k d a b. high (suc k) d (omega arith) (omega (arith, b))) h
not_found (y ∷ xs) x (suc i) low high (inl e) = place_same x (subst (λ (z : NumberedPlace). place_cmp z x ≡ Ordering.Less) e (low 0 x (omega arith) (omega arith)))
not_found (y ∷ xs) x (suc i) low high (inr h) = not_found xs x i (λ k d a b. low (suc k) d (omega arith) (omega (arith, b))) (λ k d a b. high (suc k) d (omega (arith, a)) (omega (arith, b))) h

pub found_at : (xs : List NumberedPlace) (x : NumberedPlace) (i : ℕ) → i < length xs → ((d : NumberedPlace) → place_cmp (get_or xs i d) x ≡ Ordering.Equal) → Among xs x
found_at [] x i low e = absurd (omega (arith, low))
found_at (y ∷ xs) x zero low e = inl (equal_same y x (e x))
found_at (y ∷ xs) x (suc i) low e = inr (found_at xs x i (omega (arith, low)) e)

pub less_before_all : (xs : List NumberedPlace) (x : NumberedPlace) (i : ℕ) → AllWithin (λ y. place_cmp y x ≡ Ordering.Less) xs 0 i → AllWithin (λ y. IsBefore y x) xs 0 i
less_before_all xs x i low k d a b = less_before (get_or xs k d) x (low k d a b)

pub greater_after_all : (xs : List NumberedPlace) (x : NumberedPlace) (i : ℕ) → AllWithin (λ y. place_cmp y x ≡ Ordering.Greater) xs i (length xs) → AllWithin (IsBefore x) xs i (length xs)
greater_after_all xs x i high k d a b = greater_after (get_or xs k d) x (high k d a b)

-- one more place
all_insert : (P : NumberedPlace → Type 0) (xs : List NumberedPlace) (i : ℕ) (x : NumberedPlace) → AllByRecursion P xs → P x → AllByRecursion P (insert xs i x)
all_insert P [] i x all p = nothing i
  where
    nothing : (n : ℕ) → AllByRecursion P (insert [] n x)
    nothing zero = (p, tt)
    nothing (suc n) = (p, tt)
all_insert P (y ∷ xs) zero x all p = (p, all)
all_insert P (y ∷ xs) (suc i) x all p = (all.0, all_insert P xs i x all.1 p)

pub rises_insert : (xs : List NumberedPlace) (i : ℕ) (x : NumberedPlace) → Rises xs → AllWithin (λ y. IsBefore y x) xs 0 i → AllWithin (IsBefore x) xs i (length xs) → Rises (insert xs i x)
rises_insert [] i x r low high = nothing i
  where
    nothing : (n : ℕ) → Rises (insert [] n x)
    nothing zero = (tt, tt)
    nothing (suc n) = (tt, tt)
rises_insert (y ∷ xs) zero x r low high =
    let first = high 0 x (omega arith) (omega arith) in
    ((first, all_weaker (IsBefore y) (IsBefore x) (λ z h. before_before x y z first h) xs r.0), r)
rises_insert (y ∷ xs) (suc i) x r low high = (
  all_insert (IsBefore y) xs i x r.0 (low 0 x (omega arith) (omega arith)),
  rises_insert xs i x r.1 (λ k d a b. low (suc k) d (omega arith) (omega (arith, b))) (λ k d a b. high (suc k) d (omega (arith, a)) (omega (arith, b))),
)

pub insert_adds : (xs : List NumberedPlace) (i : ℕ) (x : NumberedPlace) → Adds x xs (insert xs i x)
insert_adds xs i x = record { there = there xs i; keeps = λ y h. keeps xs i y h; only = λ y h. only xs i y h }
  where
    there : (ys : List NumberedPlace) (k : ℕ) → Among (insert ys k x) x
    there [] zero = inl refl
    there [] (suc k) = inl refl
    there (y ∷ ys) zero = inl refl
    there (y ∷ ys) (suc k) = inr (there ys k)

    keeps : (ys : List NumberedPlace) (k : ℕ) (y : NumberedPlace) → Among ys y → Among (insert ys k x) y
    keeps [] k y h = absurd h
    keeps (z ∷ ys) zero y h = inr h
    keeps (z ∷ ys) (suc k) y (inl e) = inl e
    keeps (z ∷ ys) (suc k) y (inr h) = inr (keeps ys k y h)

    only : (ys : List NumberedPlace) (k : ℕ) (y : NumberedPlace) → Among (insert ys k x) y → (x ≡ y) ⊎ Among ys y
    only [] zero y (inl e) = inl e
    only [] zero y (inr h) = absurd h
    only [] (suc k) y (inl e) = inl e
    only [] (suc k) y (inr h) = absurd h
    only (z ∷ ys) zero y (inl e) = inl e
    only (z ∷ ys) zero y (inr h) = inr h
    only (z ∷ ys) (suc k) y (inl e) = inr (inl e)
    only (z ∷ ys) (suc k) y (inr h) = elim (only ys k y h) [ inl e ↦ inl e | inr m ↦ inr (inr m) ]

-- one less
all_remove : (P : NumberedPlace → Type 0) (xs : List NumberedPlace) (i : ℕ) → AllByRecursion P xs → AllByRecursion P (remove xs i)
all_remove P [] i all = nothing i
  where
    nothing : (n : ℕ) → AllByRecursion P (remove [] n)
    nothing zero = tt
    nothing (suc n) = tt
all_remove P (y ∷ xs) zero all = all.1
all_remove P (y ∷ xs) (suc i) all = (all.0, all_remove P xs i all.1)

pub rises_remove : (xs : List NumberedPlace) (i : ℕ) → Rises xs → Rises (remove xs i)
rises_remove [] i r = nothing i
  where
    nothing : (n : ℕ) → Rises (remove [] n)
    nothing zero = tt
    nothing (suc n) = tt
rises_remove (y ∷ xs) zero r = r.1
rises_remove (y ∷ xs) (suc i) r = (all_remove (IsBefore y) xs i r.0, rises_remove xs i r.1)

pub remove_drops : (xs : List NumberedPlace) (i : ℕ) (x : NumberedPlace) → Rises xs → i < length xs → ((d : NumberedPlace) → place_cmp (get_or xs i d) x ≡ Ordering.Equal) → Drops x xs (remove xs i)
remove_drops [] i x r low e = absurd (omega (arith, low))
remove_drops (y ∷ xs) zero x r low e =
    let same = equal_same y x (e x) in
    record {
      gone = λ h. not_before_self x (subst (λ (z : NumberedPlace). IsBefore z x) same (among_all (IsBefore y) xs r.0 x h));
      keeps = λ z h other. elim h [ inl first ↦ absurd (other (sym same ∙ first)) | inr rest ↦ rest ];
      only = λ z h. inr h;
    }
remove_drops (y ∷ xs) (suc i) x r low e =
    let ih = remove_drops xs i x r.1 (omega (arith, low)) e in
    record {
      gone = λ h. elim h [
        | inl first ↦ not_before_self x (subst (λ (z : NumberedPlace). IsBefore z x) first (among_all (IsBefore y) xs r.0 x (found_at xs x i (omega (arith, low)) e)))
        | inr rest ↦ ih.gone rest
      ];
      keeps = λ z h other. elim h [ inl first ↦ inl first | inr rest ↦ inr (ih.keeps z rest other) ];
      only = λ z h. elim h [ inl first ↦ inl first | inr rest ↦ inr (ih.only z rest) ];
    }

pub drops_none : (xs : List NumberedPlace) (x : NumberedPlace) → (Among xs x → ⊥) → Drops x xs xs
drops_none xs x none = record { gone = none; keeps = λ y h other. h; only = λ y h. h }

-- the places with numbers below a limit are the first ones
pub below_front : (xs : List NumberedPlace) (limit i : ℕ) (x : NumberedPlace) → Rises xs → AllByRecursion (λ y. y.num < limit) (take i xs) → i < length xs → x ≡ get_or xs i x → limit ≤ x.num
    → filter (λ y. ltb y.num limit) xs ≡ take i xs
below_front [] limit i x r all low e high = absurd (omega (arith, low))
below_front (y ∷ xs) limit zero x r all low e high =
    let same : y ≡ x = sym e in
    let miss = ltb_no y.num limit (omega (arith, high, ap (λ (z : NumberedPlace). z.num) same)) in
    let none = nothing xs (all_weaker (IsBefore y) (λ z. limit ≤ z.num) (λ z h. above z h same) xs r.0) in
    rw (miss, none) refl
  where
    above : (z : NumberedPlace) → IsBefore y z → y ≡ x → limit ≤ z.num
    above z (inl less) k = omega (arith, less, high, ap (λ (w : NumberedPlace). w.num) k)
    above z (inr both) k = let n = both.0 in omega (arith, n, high, ap (λ (w : NumberedPlace). w.num) k)

    nothing : (zs : List NumberedPlace) → AllByRecursion (λ z. limit ≤ z.num) zs → filter (λ z. ltb z.num limit) zs ≡ []
    nothing [] h = refl
    nothing (z ∷ zs) h = let m = ltb_no z.num limit h.0 in let ih = nothing zs h.1 in rw (m, ih) refl
below_front (y ∷ xs) limit (suc i) x r all low e high =
    let hit = lt-ltb y.num limit all.0 in
    let ih = below_front xs limit i x r.1 all.1 (omega (arith, low)) e high in
    rw (hit, ih) refl

pub below_all : (xs : List NumberedPlace) (limit : ℕ) → AllByRecursion (λ y. y.num < limit) xs → filter (λ y. ltb y.num limit) xs ≡ xs
below_all [] limit all = refl
below_all (y ∷ xs) limit all = let hit = lt-ltb y.num limit all.0 in let ih = below_all xs limit all.1 in rw (hit, ih) refl

pub on_some : {X : Type 0} (o : Option X) (P : Type 0) → IsSome o → OnSome o P → P
on_some {X} None P some p = absurd (grind (arith, some))
on_some {X} (Some x) P some p = p
