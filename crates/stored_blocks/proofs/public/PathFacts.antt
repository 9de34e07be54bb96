-- Counting along a path.
use Rattle.std.proofs.Common.{arith, ◌≡◌, ◌≤◌, ◌+◌, inl, inr, ℕ, zero, suc, Bool, true, false, not, cond, List, [], ◌∷◌, ◌++◌, length, Some, None, refl, ◌∙◌, ap, ◌&&◌, ◌||◌}
use Rattle.std.specs.List.{filter, find, slice_get}
use Rattle.std.proofs.lemmas.Bool.{both_ways}
use Rattle.std.proofs.lemmas.Option.{same_Some}
use Rattle.block_record.specs.declared.blocks.Slip.{Slip}
use Rattle.block_record.specs.Ids.{same_id}
use Rattle.chain_model.specs.Ancestry.{has_id}
use Rattle.bundle_model.specs.Members.{Among}
use Rattle.stored_blocks.specs.Stored.{front_count, is_off}

pub count_low : (q : Slip → Bool) (xs : List Slip) → front_count q xs ≤ length xs
count_low q [] = omega arith
count_low q (x ∷ xs) =
    let ih = count_low q xs in
    let P : Bool → Type 0 = λ b. cond b (suc (front_count q xs)) 0 ≤ suc (length xs) in
    elim (q x) as P [ true ↦ omega (arith, ih) | false ↦ omega arith ]

-- one more block that passes, where all before do
pub count_on : (q : Slip → Bool) (xs : List Slip) (y : Slip) → q y ≡ true → front_count q xs ≡ length xs → front_count q (xs ++ y ∷ []) ≡ suc (length xs)
count_on q [] y e full = rw e refl
count_on q (x ∷ xs) y e full = go (q x) refl (λ k. count_on q xs y e k) full
  where
    go : (b : Bool) → q x ≡ b → (front_count q xs ≡ length xs → front_count q (xs ++ y ∷ []) ≡ suc (length xs)) → cond b (suc (front_count q xs)) 0 ≡ suc (length xs)
        → cond b (suc (front_count q (xs ++ y ∷ []))) 0 ≡ suc (suc (length xs))
    go true is ih k = ap suc (ih (omega (arith, k)))
    go false is ih k = absurd (omega (arith, k))

-- where one before fails
pub count_past : (q : Slip → Bool) (xs : List Slip) (y : Slip) → (front_count q xs ≡ length xs → ⊥) → front_count q (xs ++ y ∷ []) ≡ front_count q xs
count_past q [] y less = absurd (less refl)
count_past q (x ∷ xs) y less = go (q x) refl (λ k. count_past q xs y k) less
  where
    go : (b : Bool) → q x ≡ b → ((front_count q xs ≡ length xs → ⊥) → front_count q (xs ++ y ∷ []) ≡ front_count q xs) → (cond b (suc (front_count q xs)) 0 ≡ suc (length xs) → ⊥)
        → cond b (suc (front_count q (xs ++ y ∷ []))) 0 ≡ cond b (suc (front_count q xs)) 0
    go true is ih k = ap suc (ih (λ e. k (ap suc e)))
    go false is ih k = refl

-- one that fails itself
pub count_off : (q : Slip → Bool) (xs : List Slip) (y : Slip) → q y ≡ false → front_count q (xs ++ y ∷ []) ≡ front_count q xs
count_off q [] y e = rw e refl
count_off q (x ∷ xs) y e = let ih = count_off q xs y e in rw ih refl

-- the block after those that pass is the first that fails
pub count_find : (q : Slip → Bool) (xs : List Slip) → slice_get xs (front_count q xs) ≡ find (λ s. not (q s)) xs
count_find q [] = refl
count_find q (x ∷ xs) = go (q x) refl (count_find q xs)
  where
    go : (b : Bool) → q x ≡ b → slice_get xs (front_count q xs) ≡ find (λ s. not (q s)) xs
        → slice_get (x ∷ xs) (cond b (suc (front_count q xs)) 0) ≡ cond (not b) (Some x) (find (λ s. not (q s)) xs)
    go true e ih = ih
    go false e ih = refl

-- on the way to the count
pub count_step : (q : Slip → Bool) (xs : List Slip) (j : ℕ) (x : Slip) → j ≤ front_count q xs → slice_get xs j ≡ Some x → q x ≡ true → suc j ≤ front_count q xs
count_step q [] j x le e t = absurd (none e)
  where
    none : None ≡ Some x → ⊥
    none k = grind (arith, k)
count_step q (y ∷ ys) zero x le e t = let same : y ≡ x = same_Some y x e in let hit : q y ≡ true = ap q same ∙ t in rw hit (omega arith)
count_step q (y ∷ ys) (suc j) x le e t = go (q y) refl le (λ k. count_step q ys j x k e t)
  where
    go : (b : Bool) → q y ≡ b → suc j ≤ cond b (suc (front_count q ys)) 0 → (j ≤ front_count q ys → suc j ≤ front_count q ys) → suc (suc j) ≤ cond b (suc (front_count q ys)) 0
    go true is k ih = let r = ih (omega (arith, k)) in omega (arith, r)
    go false is k ih = absurd (omega (arith, k))

pub count_stop : (q : Slip → Bool) (xs : List Slip) (j : ℕ) (x : Slip) → j ≤ front_count q xs → slice_get xs j ≡ Some x → q x ≡ false → j ≡ front_count q xs
count_stop q [] j x le e t = absurd (none e)
  where
    none : None ≡ Some x → ⊥
    none k = grind (arith, k)
count_stop q (y ∷ ys) zero x le e t = let same : y ≡ x = same_Some y x e in let miss : q y ≡ false = ap q same ∙ t in rw miss refl
count_stop q (y ∷ ys) (suc j) x le e t = go (q y) refl le (λ k. count_stop q ys j x k e t)
  where
    go : (b : Bool) → q y ≡ b → suc j ≤ cond b (suc (front_count q ys)) 0 → (j ≤ front_count q ys → j ≡ front_count q ys) → suc j ≡ cond b (suc (front_count q ys)) 0
    go true is k ih = ap suc (ih (omega (arith, k)))
    go false is k ih = absurd (omega (arith, k))

-- what more passes
pub count_mono : (q r : Slip → Bool) (xs : List Slip) → ((x : Slip) → q x ≡ true → r x ≡ true) → front_count q xs ≤ front_count r xs
count_mono q r [] f = omega arith
count_mono q r (x ∷ xs) f = go (q x) (r x) refl refl (count_mono q r xs f)
  where
    go : (a b : Bool) → q x ≡ a → r x ≡ b → front_count q xs ≤ front_count r xs → cond a (suc (front_count q xs)) 0 ≤ cond b (suc (front_count r xs)) 0
    go true true ea eb ih = omega (arith, ih)
    go true false ea eb ih = absurd (both_ways _ eb (f x ea))
    go false b ea eb ih = omega arith

-- tests that agree on a list
pub count_same : (q r : Slip → Bool) (xs : List Slip) → ((x : Slip) → Among xs x → q x ≡ r x) → front_count q xs ≡ front_count r xs
count_same q r [] f = refl
count_same q r (x ∷ xs) f = let e = f x (inl refl) in let ih = count_same q r xs (λ y h. f y (inr h)) in rw (e, ih) refl

pub filter_same : (q r : Slip → Bool) (xs : List Slip) → ((x : Slip) → Among xs x → q x ≡ r x) → filter q xs ≡ filter r xs
filter_same q r [] f = refl
filter_same q r (x ∷ xs) f = let e = f x (inl refl) in let ih = filter_same q r xs (λ y h. f y (inr h)) in rw (e, ih) refl

pub find_same : (q r : Slip → Bool) (xs : List Slip) → ((x : Slip) → Among xs x → q x ≡ r x) → find q xs ≡ find r xs
find_same q r [] f = refl
find_same q r (x ∷ xs) f = let e = f x (inl refl) in let ih = find_same q r xs (λ y h. f y (inr h)) in rw (e, ih) refl

pub filter_push : (q : Slip → Bool) (xs : List Slip) (y : Slip) → length (filter q (xs ++ y ∷ [])) ≡ length (filter q xs) + cond (q y) 1 0
filter_push q [] y = let P : Bool → Type 0 = λ b. length (cond b (y ∷ []) []) ≡ 0 + cond b 1 0 in elim (q y) as P [ true ↦ refl | false ↦ refl ]
filter_push q (x ∷ xs) y =
    let ih = filter_push q xs y in
    let P : Bool → Type 0 = λ b. length (cond b (x ∷ filter q (xs ++ y ∷ [])) (filter q (xs ++ y ∷ []))) ≡ length (cond b (x ∷ filter q xs) (filter q xs)) + cond (q y) 1 0 in
    elim (q x) as P [ true ↦ omega (arith, ih) | false ↦ ih ]

-- an id on a path with one more block
pub has_push : (xs : List Slip) (y : Slip) (id : List ℕ) → has_id (xs ++ y ∷ []) id ≡ (has_id xs id || same_id y.id id)
has_push [] y id = let P : Bool → Type 0 = λ b. (b || false) ≡ b in elim (same_id y.id id) as P [ true ↦ refl | false ↦ refl ]
has_push (x ∷ xs) y id =
    let ih = has_push xs y id in
    let P : Bool → Type 0 = λ b. (b || has_id (xs ++ y ∷ []) id) ≡ ((b || has_id xs id) || same_id y.id id) in
    elim (same_id x.id id) as P [ true ↦ refl | false ↦ ih ]

pub off_push : (path : List Slip) (q : Slip → Bool) (y t : Slip) → is_off (path ++ y ∷ []) q t ≡ (is_off path q t && not (same_id y.id t.id))
off_push path q y t =
    let e = has_push path y t.id in
    go (has_id path t.id) (same_id y.id t.id) (q t) e
  where
    go : (a b c : Bool) → has_id (path ++ y ∷ []) t.id ≡ (a || b) → (not (has_id (path ++ y ∷ []) t.id) && not c) ≡ ((not a && not c) && not b)
    go true b c e = rw e refl
    go false true true e = rw e refl
    go false true false e = rw e refl
    go false false true e = rw e refl
    go false false false e = rw e refl

-- a block that comes to be stored
pub off_stored : (path : List Slip) (q r : Slip → Bool) (y t : Slip) → r t ≡ (q t || same_id y.id t.id) → is_off path r t ≡ (is_off path q t && not (same_id y.id t.id))
off_stored path q r y t e = go (has_id path t.id) (q t) (same_id y.id t.id) e
  where
    go : (a b c : Bool) → r t ≡ (b || c) → (not a && not (r t)) ≡ ((not a && not b) && not c)
    go true b c k = refl
    go false true true k = rw k refl
    go false true false k = rw k refl
    go false false true k = rw k refl
    go false false false k = rw k refl
