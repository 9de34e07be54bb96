-- Numbers that rise: the places of a sorted list, and the blocks there.
use Rattle.std.proofs.Common.{arith, ◌≡◌, ◌≤◌, ◌<◌, ◌+◌, ◌⊎◌, inl, inr, ℕ, suc, Bool, true, false, cond, List, [], ◌∷◌, ◌++◌, length, map, reverse, Some, None, refl, sym, ◌∙◌, ap, subst, get_or, eqb-true, eq-eqb}
use Rattle.std.specs.List.{AllByRecursion, filter, fold}
use Rattle.std.specs.List.Sorted.{IsNonDecreasingBy, IsPermutation}
use Rattle.std.proofs.lemmas.Bool.{cases_lt, false_from_ne_true}
use Rattle.std.proofs.lemmas.List.Elements.{filter-append}
use Rattle.std.proofs.lemmas.List.Sorted.{sum_by-IsPermutation}
use Rattle.std.proofs.lemmas.Option.{same_Some}
use Rattle.std.proofs.Math.Dec.{eqb}
use Rattle.block_record.specs.declared.blocks.Slip.{Slip}
use Rattle.block_tree.specs.Places.{slip_at}
use Rattle.block_tree.proofs.public.PlaceFacts.{slip_at_past, slip_at_top}
use Rattle.bundle_model.specs.Members.{Among}
use Rattle.bundle_model.proofs.public.MemberFacts.{all_append, all_among, among_all, among_left, among_right, among_parts, filter_among, map_among, reverse-push}
use Rattle.stored_blocks.specs.declared.places.NumberedPlace.{NumberedPlace}
use Rattle.stored_blocks.specs.Places.{IsBefore, Rises}

-- how often a number stands in a list
abbrev pub times : ℕ → List ℕ → ℕ
times n [] = 0
times n (x ∷ xs) = cond (eqb x n) (suc (times n xs)) (times n xs)

times_from : (n k : ℕ) (xs : List ℕ) → fold (λ (a : ℕ) (x : ℕ). a + cond {A = ℕ} (eqb x n) 1 0) k xs ≡ k + times n xs
times_from n k [] = omega arith
times_from n k (x ∷ xs) =
    let ih = times_from n (k + cond {A = ℕ} (eqb x n) 1 0) xs in
    let P : Bool → Type 0 = λ b. (k + cond {A = ℕ} b 1 0) + times n xs ≡ k + cond b (suc (times n xs)) (times n xs) in
    let e : P (eqb x n) = elim (eqb x n) as P [ true ↦ omega arith | false ↦ omega arith ] in
    ih ∙ e

-- a sort keeps them
pub times_sorted : (n : ℕ) (xs ys : List ℕ) → IsPermutation xs ys → times n ys ≡ times n xs
times_sorted n xs ys perm =
    let e = sum_by-IsPermutation (λ x. cond {A = ℕ} (eqb x n) 1 0) xs ys perm in
    let a = times_from n 0 xs in
    let b = times_from n 0 ys in
    omega (arith, e, a, b)

-- each number stands once
abbrev pub OnceEach : List ℕ → Type 0
OnceEach [] = Unit {0}
OnceEach (x ∷ xs) = (Among xs x → ⊥) × OnceEach xs

-- each is below those after it
abbrev pub RisesOn : List ℕ → Type 0
RisesOn [] = Unit {0}
RisesOn (x ∷ xs) = AllByRecursion (λ y. x < y) xs × RisesOn xs

times_none : (n : ℕ) (xs : List ℕ) → (Among xs n → ⊥) → times n xs ≡ 0
times_none n [] none = refl
times_none n (x ∷ xs) none =
    let miss : eqb x n ≡ false = false_from_ne_true _ (λ e. none (inl (eqb-true x n e))) in
    let ih = times_none n xs (λ h. none (inr h)) in
    rw miss ih

pub times_some : (n : ℕ) (xs : List ℕ) → Among xs n → 0 < times n xs
times_some n [] h = absurd h
times_some n (x ∷ xs) (inl e) = let hit = eq-eqb x n e in rw hit (omega arith)
times_some n (x ∷ xs) (inr h) =
    let ih = times_some n xs h in
    let P : Bool → Type 0 = λ b. 0 < cond b (suc (times n xs)) (times n xs) in
    elim (eqb x n) as P [ true ↦ omega arith | false ↦ ih ]

pub times_among : (n : ℕ) (xs : List ℕ) → 0 < times n xs → Among xs n
times_among n [] less = absurd (omega (arith, less))
times_among n (x ∷ xs) less = go (eqb x n) refl less (λ k. times_among n xs k)
  where
    go : (b : Bool) → eqb x n ≡ b → 0 < cond b (suc (times n xs)) (times n xs) → (0 < times n xs → Among xs n) → (x ≡ n) ⊎ Among xs n
    go true e k ih = inl (eqb-true x n e)
    go false e k ih = inr (ih k)

once_times : (n : ℕ) (xs : List ℕ) → OnceEach xs → times n xs ≤ 1
once_times n [] once = omega arith
once_times n (x ∷ xs) once = go (eqb x n) refl (once_times n xs once.1)
  where
    go : (b : Bool) → eqb x n ≡ b → times n xs ≤ 1 → cond b (suc (times n xs)) (times n xs) ≤ 1
    go true e ih = let none = times_none n xs (λ h. once.0 (subst (Among xs) (sym (eqb-true x n e)) h)) in omega (arith, none)
    go false e ih = ih

-- an element of a list, by index
among_index : (xs : List ℕ) (y : ℕ) → Among xs y → (k : ℕ) × (k < length xs) × ((d : ℕ) → get_or xs k d ≡ y)
among_index [] y h = absurd h
among_index (x ∷ xs) y (inl e) = (0, omega arith, λ d. e)
among_index (x ∷ xs) y (inr h) = let r = among_index xs y h in (suc r.0, (let l = r.1 in omega (arith, l)), λ d. r.2 d)

-- a list that does not fall and has nothing twice rises
pub rises_on : (xs : List ℕ) → IsNonDecreasingBy (λ x. x) xs → ((n : ℕ) → times n xs ≤ 1) → RisesOn xs
rises_on [] h once = tt
rises_on (x ∷ xs) h once =
    (all_among (λ y. x < y) xs above, rises_on xs (λ i j d le lt. h (suc i) (suc j) d (omega (arith, le)) (omega (arith, lt))) (λ n. fewer n (eqb x n) (once n)))
  where
    fewer : (n : ℕ) (b : Bool) → cond b (suc (times n xs)) (times n xs) ≤ 1 → times n xs ≤ 1
    fewer n true k = omega (arith, k)
    fewer n false k = k

    above : (y : ℕ) → Among xs y → x < y
    above y k =
        let r = among_index xs y k in
        let l = r.1 in
        let le : x ≤ y = subst (λ (z : ℕ). x ≤ z) (r.2 0) (h 0 (suc r.0) 0 (omega arith) (omega (arith, l))) in
        let apart : x ≡ y → ⊥ = λ e.
        let one = once x in
        let more = times_some x xs (subst (Among xs) (sym e) k) in
        let same = eq-eqb x x refl in
        let two : suc (times x xs) ≤ 1 = rw same at one in
        omega (arith, two, more) in
        elim (cases_lt x y) [ inl less ↦ less | inr more ↦ absurd (apart (omega (arith, le, more))) ]

-- two rising lists of the same numbers
pub rising_same : (xs ys : List ℕ) → RisesOn xs → RisesOn ys → ((n : ℕ) → Among xs n → Among ys n) → ((n : ℕ) → Among ys n → Among xs n) → xs ≡ ys
rising_same [] [] rx ry f g = refl
rising_same [] (y ∷ ys) rx ry f g = absurd (g y (inl refl))
rising_same (x ∷ xs) [] rx ry f g = absurd (f x (inl refl))
rising_same (x ∷ xs) (y ∷ ys) rx ry f g =
    let same : x ≡ y = heads (f x (inl refl)) (g y (inl refl)) in
    let rest = rising_same xs ys rx.1 ry.1 (λ n h. down same n h) (λ n h. up same n h) in
    rw (same, rest) refl
  where
    heads : Among (y ∷ ys) x → Among (x ∷ xs) y → x ≡ y
    heads (inl e) k = sym e
    heads (inr h) (inl e) = e
    heads (inr h) (inr k) = let a = among_all (λ z. y < z) ys ry.0 x h in let b = among_all (λ z. x < z) xs rx.0 y k in absurd (omega (arith, a, b))

    down : x ≡ y → (n : ℕ) → Among xs n → Among ys n
    down e n h = elim (f n (inr h)) [
      | inl s ↦ let a = among_all (λ z. x < z) xs rx.0 n h in absurd (omega (arith, a, s, e))
      | inr r ↦ r
    ]

    up : x ≡ y → (n : ℕ) → Among ys n → Among xs n
    up e n h = elim (g n (inr h)) [
      | inl s ↦ let a = among_all (λ z. y < z) ys ry.0 n h in absurd (omega (arith, a, s, e))
      | inr r ↦ r
    ]

-- what a sort keeps
pub sorted_is : (xs ys zs : List ℕ) → OnceEach xs → IsPermutation xs ys → IsNonDecreasingBy (λ x. x) ys → RisesOn zs → ((n : ℕ) → Among zs n → Among xs n) → ((n : ℕ) → Among xs n → Among zs n) → ys ≡ zs
sorted_is xs ys zs once perm up rises f g =
    rising_same ys zs (rises_on ys up (λ n. let o = once_times n xs once in let e = count n in omega (arith, o, e))) rises
    (λ n h. g n (times_among n xs (let s = times_some n ys h in let e = count n in omega (arith, s, e))))
    (λ n h. times_among n ys (let s = times_some n xs (f n h) in let e = count n in omega (arith, s, e)))
  where
    count : (n : ℕ) → times n ys ≡ times n xs
    count n = times_sorted n xs ys perm

-- the places of the blocks that pass a test, in the order of the history
abbrev pub places_where : (Slip → Bool) → List Slip → List ℕ
places_where p [] = []
places_where p (s ∷ older) = places_where p older ++ cond (p s) (length older ∷ []) []

pub where_low : (p : Slip → Bool) (xs : List Slip) (n : ℕ) → Among (places_where p xs) n → n < length xs
where_low p [] n h = absurd h
where_low p (s ∷ older) n h = elim (among_parts (places_where p older) (cond (p s) (length older ∷ []) []) n h) [
  | inl a ↦ let r = where_low p older n a in omega (arith, r)
  | inr b ↦ last (p s) b
]
  where
    last : (b : Bool) → Among (cond b (length older ∷ []) []) n → n < length (s ∷ older)
    last true (inl e) = omega (arith, e)
    last true (inr k) = absurd k
    last false k = absurd k

pub where_rises : (p : Slip → Bool) (xs : List Slip) → RisesOn (places_where p xs)
where_rises p [] = tt
where_rises p (s ∷ older) = push (places_where p older) (where_rises p older) (all_among (λ n. n < length older) (places_where p older) (where_low p older)) (p s)
  where
    push : (xs : List ℕ) → RisesOn xs → AllByRecursion (λ n. n < length older) xs → (b : Bool) → RisesOn (xs ++ cond b (length older ∷ []) [])
    push [] r all true = (tt, tt)
    push [] r all false = tt
    push (x ∷ xs) r all b = (all_append (λ y. x < y) xs (cond b (length older ∷ []) []) r.0 (end b), push xs r.1 all.1 b)
      where
        end : (t : Bool) → AllByRecursion (λ y. x < y) (cond t (length older ∷ []) [])
        end true = (all.0, tt)
        end false = tt

pub where_has : (p : Slip → Bool) (xs : List Slip) (n : ℕ) (t : Slip) → slip_at xs n ≡ Some t → p t ≡ true → Among (places_where p xs) n
where_has p [] n t e k = absurd (none e)
  where
    none : None ≡ Some t → ⊥
    none m = grind (arith, m)
where_has p (s ∷ older) n t e k = go (eqb n (length older)) refl e (λ m. where_has p older n t m k)
  where
    go : (b : Bool) → eqb n (length older) ≡ b → cond b (Some s) (slip_at older n) ≡ Some t → (slip_at older n ≡ Some t → Among (places_where p older) n) → Among (places_where p (s ∷ older)) n
    go true eb m ih =
        let hit : p s ≡ true = ap p (same_Some s t m) ∙ k in
        among_right (places_where p older) (cond (p s) (length older ∷ []) []) n (rw hit (inl (sym (eqb-true n (length older) eb))))
    go false eb m ih = among_left (places_where p older) (cond (p s) (length older ∷ []) []) n (ih m)

pub where_is : (p : Slip → Bool) (xs : List Slip) (n : ℕ) → Among (places_where p xs) n → (t : Slip) × (slip_at xs n ≡ Some t) × (p t ≡ true)
where_is p [] n h = absurd h
where_is p (s ∷ older) n h = elim (among_parts (places_where p older) (cond (p s) (length older ∷ []) []) n h) [
  | inl a ↦ let r = where_is p older n a in (r.0, slip_at_past s older n (where_low p older n a) ∙ r.1, r.2)
  | inr b ↦ last (p s) refl b
]
  where
    last : (b : Bool) → p s ≡ b → Among (cond b (length older ∷ []) []) n → (t : Slip) × (slip_at (s ∷ older) n ≡ Some t) × (p t ≡ true)
    last true e (inl k) = (s, ap (slip_at (s ∷ older)) (sym k) ∙ slip_at_top s older, e)
    last true e (inr k) = absurd k
    last false e k = absurd k

-- and these blocks
pub where_slips : (p : Slip → Bool) (xs : List Slip) → map (slip_at xs) (places_where p xs) ≡ map Some (filter p (reverse xs))
where_slips p [] = refl
where_slips p (s ∷ older) =
    Rattle.std.proofs.lemmas.List.map-append (slip_at (s ∷ older)) (places_where p older) (cond (p s) (length older ∷ []) [])
    ∙ (let a = older_same (places_where p older) (where_low p older) in let b = last (p s) in let ih = where_slips p older in rw (a, ih, b) refl)
    ∙ sym (ap (λ l. map Some (filter p l)) (reverse-push s older) ∙ ap (map Some) (filter-append p (reverse older) (s ∷ [])) ∙ Rattle.std.proofs.lemmas.List.map-append Some (filter p (reverse older)) (filter p (s ∷ [])))
  where
    older_same : (ns : List ℕ) → ((n : ℕ) → Among ns n → n < length older) → map (slip_at (s ∷ older)) ns ≡ map (slip_at older) ns
    older_same [] low = refl
    older_same (n ∷ ns) low = let e = slip_at_past s older n (low n (inl refl)) in let ih = older_same ns (λ m h. low m (inr h)) in rw (e, ih) refl

    last : (b : Bool) → map (slip_at (s ∷ older)) (cond b (length older ∷ []) []) ≡ map Some (cond b (s ∷ []) [])
    last true = let e = slip_at_top s older in rw e refl
    last false = refl

-- what maps to the same
pub some_same : (xs ys : List Slip) → map Some xs ≡ map Some ys → xs ≡ ys
some_same [] [] e = refl
some_same [] (y ∷ ys) e = absurd (grind (arith, e))
some_same (x ∷ xs) [] e = absurd (grind (arith, e))
some_same (x ∷ xs) (y ∷ ys) e = grind (arith, e, some_same xs ys)

-- places that rise by number stand once each, where the number is that of the place
pub once_places : (xs : List NumberedPlace) (p : NumberedPlace → Bool) → Rises xs → ((x y : NumberedPlace) → Among xs x → Among xs y → x.place ≡ y.place → x.num ≡ y.num) → OnceEach (map (λ x. x.place) (filter p xs))
once_places [] p r f = tt
once_places (x ∷ xs) p r f = go (p x) (once_places xs p r.1 (λ a b ha hb. f a b (inr ha) (inr hb)))
  where
    apart : Among (map (λ (z : NumberedPlace). z.place) (filter p xs)) x.place → ⊥
    apart h =
        let m = map_among (λ (z : NumberedPlace). z.place) (filter p xs) x.place h in
        let there = (filter_among p xs m.0 m.1).0 in
        let num = f x m.0 (inl refl) (inr there) (sym m.2) in
        before (among_all (IsBefore x) xs r.0 m.0 there) num m.2
      where
        before : {y : NumberedPlace} → IsBefore x y → x.num ≡ y.num → y.place ≡ x.place → ⊥
        before (inl less) e k = omega (arith, less, e)
        before (inr both) e k = let l = both.1 in omega (arith, l, k)

    go : (b : Bool) → OnceEach (map (λ (z : NumberedPlace). z.place) (filter p xs)) → OnceEach (map (λ (z : NumberedPlace). z.place) (cond b (x ∷ filter p xs) (filter p xs)))
    go true ih = (apart, ih)
    go false ih = ih
