-- The blocks of a bundle along a climbing path.
use Rattle.std.proofs.Common.{arith, ◌≡◌, ◌≤◌, ◌<◌, ◌+◌, inl, inr, ℕ, zero, suc, Bool, true, false, not, cond, List, [], ◌∷◌, ◌++◌, take, drop, Option, Some, None, refl, sym, ◌∙◌, ap, ltb, leb, ◌&&◌, ◌||◌}
use Rattle.std.specs.List.{AllByRecursion, filter, list_all, list_any, slice_get}
use Rattle.std.specs.Option.{option_map}
use Rattle.std.proofs.lemmas.Bool.{cases_lt, both_ways, lt-ltb, le-leb, leb-true}
use Rattle.std.proofs.lemmas.List.{take-append-drop}
use Rattle.std.proofs.lemmas.List.Elements.{filter-append}
use Rattle.std.proofs.lemmas.Option.{same_Some}
use Rattle.chain_laws.proofs.public.Growth.{all_weaker}
use Rattle.block_record.specs.declared.blocks.Slip.{Slip}
use Rattle.bundle_model.specs.Bundles.{is_within}
use Rattle.bundle_model.specs.Members.{Among}
use Rattle.bundle_model.proofs.public.MemberFacts.{among_all, all_among, filter_none, among_filter}
use Rattle.bundle_model.proofs.public.Climbs.{Climbs, ltb_no}
use Rattle.stored_blocks.specs.Stored.{front_count}
use Rattle.stored_blocks.specs.BundlePlans.{open_until}
use Rattle.stored_blocks.proofs.OnceFacts.{climb_before}

-- from a base on, up to an end: these are the blocks within, unless one of them is stored
pub open_within : (q : Slip → Bool) (size base : ℕ) (xs : List Slip) → Climbs xs → AllByRecursion (λ s. base ≤ s.num) xs
    → open_until q (base + size) xs ≡ cond (list_all (λ s. not (q s)) (filter (is_within size base) xs)) (Some (filter (is_within size base) xs)) None
open_within q size base [] c all = refl
open_within q size base (x ∷ xs) c all =
    let low = le-leb base x.num all.0 in
    elim (cases_lt x.num (base + size)) [
      | inl less ↦
          let e = lt-ltb x.num (base + size) less in
          let ih = open_within q size base xs c.1 all.1 in
          inner low e (q x) refl ih
      | inr more ↦
          let e = ltb_no x.num (base + size) more in
          let none : filter (is_within size base) xs ≡ [] =
          filter_none (is_within size base) xs (all_weaker (λ t. x.num < t.num) (λ t. is_within size base t ≡ false) (λ t h. above t (omega (arith, h, more))) xs c.0) in
          rw (low, e, none) refl
    ]
  where
    above : (t : Slip) → base + size ≤ t.num → is_within size base t ≡ false
    above t h = let e1 = ltb_no t.num (base + size) h in let e2 = le-leb base t.num (omega (arith, h)) in rw (e1, e2) refl

    inner : leb base x.num ≡ true → ltb x.num (base + size) ≡ true → (b : Bool) → q x ≡ b
        → open_until q (base + size) xs ≡ cond (list_all (λ s. not (q s)) (filter (is_within size base) xs)) (Some (filter (is_within size base) xs)) None
        → open_until q (base + size) (x ∷ xs) ≡ cond (list_all (λ s. not (q s)) (filter (is_within size base) (x ∷ xs))) (Some (filter (is_within size base) (x ∷ xs))) None
    inner low e true is ih = rw (low, e, is) refl
    inner low e false is ih = rw (low, e, is, ih) (joined (list_all (λ s. not (q s)) (filter (is_within size base) xs)))
      where
        joined : (b : Bool) → option_map (λ l. x ∷ l) (cond b (Some (filter (is_within size base) xs)) None) ≡ cond b (Some (x ∷ filter (is_within size base) xs)) None
        joined true = refl
        joined false = refl

-- a climbing path from one of its blocks on
pub climbs_drop : (xs : List Slip) (k : ℕ) → Climbs xs → Climbs (drop k xs)
climbs_drop [] k c = nothing k
  where
    nothing : (n : ℕ) → Climbs (drop n [])
    nothing zero = tt
    nothing (suc n) = tt
climbs_drop (x ∷ xs) zero c = c
climbs_drop (x ∷ xs) (suc k) c = climbs_drop xs k c.1

pub from_base : (xs : List Slip) (k base : ℕ) (y : Slip) → Climbs xs → slice_get xs k ≡ Some y → base ≤ y.num → AllByRecursion (λ s. base ≤ s.num) (drop k xs)
from_base [] k base y c e le = absurd (none e)
  where
    none : None ≡ Some y → ⊥
    none m = grind (arith, m)
from_base (x ∷ xs) zero base y c e le =
    let same = same_Some x y e in
    let low : base ≤ x.num = omega (arith, le, ap (λ (s : Slip). s.num) same) in
    (low, all_weaker (λ t. x.num < t.num) (λ t. base ≤ t.num) (λ t h. omega (arith, h, low)) xs c.0)
from_base (x ∷ xs) (suc k) base y c e le = from_base xs k base y c.1 e le

-- the stored blocks before the first that is not
pub front_passes : (q : Slip → Bool) (xs : List Slip) (k : ℕ) → k ≤ front_count q xs → AllByRecursion (λ s. q s ≡ true) (take k xs)
front_passes q [] k le = nothing k
  where
    nothing : (n : ℕ) → AllByRecursion (λ s. q s ≡ true) (take n [])
    nothing zero = tt
    nothing (suc n) = tt
front_passes q (x ∷ xs) zero le = tt
front_passes q (x ∷ xs) (suc k) le = go (q x) refl le (λ m. front_passes q xs k m)
  where
    go : (b : Bool) → q x ≡ b → suc k ≤ cond b (suc (front_count q xs)) 0 → (k ≤ front_count q xs → AllByRecursion (λ s. q s ≡ true) (take k xs)) → (q x ≡ true) × AllByRecursion (λ s. q s ≡ true) (take k xs)
    go true e m ih = (e, ih (omega (arith, m)))
    go false e m ih = absurd (omega (arith, m))

any_from : (base : ℕ) (xs : List Slip) → list_any (λ s. leb base s.num) xs ≡ true → (x : Slip) × Among xs x × (base ≤ x.num)
any_from base [] e = absurd (both_ways _ refl e)
any_from base (x ∷ xs) e = go (leb base x.num) refl e (λ k. any_from base xs k)
  where
    go : (b : Bool) → leb base x.num ≡ b → (b || list_any (λ s. leb base s.num) xs) ≡ true → (list_any (λ s. leb base s.num) xs ≡ true → (z : Slip) × Among xs z × (base ≤ z.num)) → (z : Slip) × Among (x ∷ xs) z × (base ≤ z.num)
    go true is k ih = (x, inl refl, leb-true _ _ is)
    go false is k ih = let r = ih k in (r.0, inr r.1, r.2)

none_from : (base : ℕ) (xs : List Slip) → list_any (λ s. leb base s.num) xs ≡ false → AllByRecursion (λ s. leb base s.num ≡ false) xs
none_from base [] e = tt
none_from base (x ∷ xs) e = go (leb base x.num) refl e (λ k. none_from base xs k)
  where
    go : (b : Bool) → leb base x.num ≡ b → (b || list_any (λ s. leb base s.num) xs) ≡ false → (list_any (λ s. leb base s.num) xs ≡ false → AllByRecursion (λ s. leb base s.num ≡ false) xs)
        → (leb base x.num ≡ false) × AllByRecursion (λ s. leb base s.num ≡ false) xs
    go true is k ih = absurd (both_ways _ k refl)
    go false is k ih = (is, ih k)

not_all : (q : Slip → Bool) (xs : List Slip) (x : Slip) → Among xs x → q x ≡ true → list_all (λ s. not (q s)) xs ≡ false
not_all q [] x h e = absurd h
not_all q (y ∷ xs) x (inl same) e = let hit : q y ≡ true = ap q same ∙ e in rw hit refl
not_all q (y ∷ xs) x (inr h) e =
    let ih = not_all q xs x h e in
    let P : Bool → Type 0 = λ b. (b && list_all (λ s. not (q s)) xs) ≡ false in
    elim (not (q y)) as P [ true ↦ ih | false ↦ refl ]

-- whether a bundle is whole, by whether a block of it is before the first that is not stored
pub begun_bundle : (q : Slip → Bool) (size base : ℕ) (xs : List Slip) (k : ℕ) (y : Slip) → Climbs xs → k ≡ front_count q xs → slice_get xs k ≡ Some y → y.num < base + size
    → list_any (λ s. leb base s.num) (take k xs) ≡ true → list_all (λ s. not (q s)) (filter (is_within size base) xs) ≡ false
begun_bundle q size base xs k y c is e less any =
    let p = any_from base (take k xs) any in
    let on = Rattle.stored_blocks.proofs.OnceFacts.take_among xs k p.0 p.1 in
    let low = climb_before xs c k y e p.0 p.1 in
    let hit : is_within size base p.0 ≡ true = let e1 = le-leb base p.0.num p.2 in let e2 = lt-ltb p.0.num (base + size) (omega (arith, low, less)) in rw (e1, e2) refl in
    let stored = among_all (λ s. q s ≡ true) (take k xs) (front_passes q xs k (omega (arith, is))) p.0 p.1 in
    not_all q (filter (is_within size base) xs) p.0 (among_filter (is_within size base) xs p.0 on hit) stored

pub new_bundle : (size base : ℕ) (xs : List Slip) (k : ℕ) → list_any (λ s. leb base s.num) (take k xs) ≡ false → filter (is_within size base) xs ≡ filter (is_within size base) (drop k xs)
new_bundle size base xs k none =
    let low = all_weaker (λ s. leb base s.num ≡ false) (λ s. is_within size base s ≡ false) (λ s e. rw e refl) (take k xs) (none_from base (take k xs) none) in
    let empty = filter_none (is_within size base) (take k xs) low in
    ap (filter (is_within size base)) (sym (take-append-drop k xs)) ∙ filter-append (is_within size base) (take k xs) (drop k xs) ∙ ap (λ l. l ++ filter (is_within size base) (drop k xs)) empty

-- of a climbing front the last block decides
pub last_begun : (base : ℕ) (xs : List Slip) (k : ℕ) (y : Slip) → Climbs xs → slice_get xs k ≡ Some y → list_any (λ s. leb base s.num) (take (suc k) xs) ≡ leb base y.num
last_begun base xs k y c e = go (leb base y.num) refl
  where
    there : list_any (λ s. leb base s.num) (take (suc k) xs) ≡ list_any (λ s. leb base s.num) (take k xs ++ y ∷ [])
    there = ap (list_any (λ s. leb base s.num)) (Rattle.stored_blocks.proofs.OnceFacts.take_more xs k y e)

    any_end : (zs : List Slip) (b : Bool) → leb base y.num ≡ b → AllByRecursion (λ s. leb base s.num ≡ true → b ≡ true) zs → list_any (λ s. leb base s.num) (zs ++ y ∷ []) ≡ b
    any_end [] b is all = let P : Bool → Type 0 = λ t. (t || false) ≡ t in (elim (leb base y.num) as P [ true ↦ refl | false ↦ refl ]) ∙ is
    any_end (z ∷ zs) b is all = go (leb base z.num) refl (any_end zs b is all.1)
      where
        go : (t : Bool) → leb base z.num ≡ t → list_any (λ s. leb base s.num) (zs ++ y ∷ []) ≡ b → (t || list_any (λ s. leb base s.num) (zs ++ y ∷ [])) ≡ b
        go true m ih = sym (all.0 m)
        go false m ih = ih

    lower : (b : Bool) → leb base y.num ≡ b → (s : Slip) → Among (take k xs) s → leb base s.num ≡ true → b ≡ true
    lower true is s h m = refl
    lower false is s h m =
        let low = climb_before xs c k y e s h in
        let up = leb-true base s.num m in
        absurd (both_ways _ is (le-leb base y.num (omega (arith, low, up))))

    go : (b : Bool) → leb base y.num ≡ b → list_any (λ s. leb base s.num) (take (suc k) xs) ≡ b
    go b is = there ∙ any_end (take k xs) b is (all_among (λ s. leb base s.num ≡ true → b ≡ true) (take k xs) (λ s h. lower b is s h))

-- the rest of a path
drop_at : (xs : List Slip) (k : ℕ) (y : Slip) → slice_get xs k ≡ Some y → drop k xs ≡ y ∷ drop (suc k) xs
drop_at [] k y e = absurd (none e)
  where
    none : None ≡ Some y → ⊥
    none m = grind (arith, m)
drop_at (x ∷ xs) zero y e = ap (λ z. z ∷ xs) (same_Some x y e) ∙ ap (λ l. y ∷ l) (whole xs)
  where
    whole : (ys : List Slip) → ys ≡ drop zero ys
    whole [] = refl
    whole (z ∷ zs) = refl
drop_at (x ∷ xs) (suc k) y e = drop_at xs k y e

drop_past : (xs : List Slip) (k : ℕ) → slice_get xs k ≡ None → drop k xs ≡ []
drop_past [] k e = nothing k
  where
    nothing : (n : ℕ) → drop {A = Slip} n [] ≡ []
    nothing zero = refl
    nothing (suc n) = refl
drop_past (x ∷ xs) zero e = absurd (none e)
  where
    none : Some x ≡ None → ⊥
    none m = grind (arith, m)
drop_past (x ∷ xs) (suc k) e = drop_past xs k e

-- how far they are collected
pub open_end : (q : Slip → Bool) (end : ℕ) (done xs : List Slip) (k : ℕ) → slice_get xs k ≡ None → option_map (λ l. done ++ l) (open_until q end (drop k xs)) ≡ Some done
open_end q end done xs k e = ap (λ l. option_map (λ r. done ++ r) (open_until q end l)) (drop_past xs k e) ∙ ap Some (Rattle.std.proofs.lemmas.List.append-nil done)

pub open_high : (q : Slip → Bool) (end : ℕ) (done xs : List Slip) (k : ℕ) (y : Slip) → slice_get xs k ≡ Some y → end ≤ y.num → option_map (λ l. done ++ l) (open_until q end (drop k xs)) ≡ Some done
open_high q end done xs k y e high =
    let miss = ltb_no y.num end high in
    ap (λ l. option_map (λ r. done ++ r) (open_until q end l)) (drop_at xs k y e) ∙ (rw miss (ap Some (Rattle.std.proofs.lemmas.List.append-nil done)))

pub open_broken : (q : Slip → Bool) (end : ℕ) (done xs : List Slip) (k : ℕ) (y : Slip) → slice_get xs k ≡ Some y → y.num < end → q y ≡ true → option_map (λ l. done ++ l) (open_until q end (drop k xs)) ≡ None
open_broken q end done xs k y e low stored =
    let hit = lt-ltb y.num end low in
    ap (λ l. option_map (λ r. done ++ r) (open_until q end l)) (drop_at xs k y e) ∙ (rw (hit, stored) refl)

pub open_step : (q : Slip → Bool) (end : ℕ) (done xs : List Slip) (k : ℕ) (y : Slip) → slice_get xs k ≡ Some y → y.num < end → q y ≡ false
    → option_map (λ l. (done ++ y ∷ []) ++ l) (open_until q end (drop (k + 1) xs)) ≡ option_map (λ l. done ++ l) (open_until q end (drop k xs))
open_step q end done xs k y e low open' =
    let hit = lt-ltb y.num end low in
    let m : k + 1 ≡ suc k = omega arith in
    ap (λ n. option_map (λ l. (done ++ y ∷ []) ++ l) (open_until q end (drop n xs))) m
    ∙ pushed (open_until q end (drop (suc k) xs))
    ∙ sym (ap (λ l. option_map (λ r. done ++ r) (open_until q end l)) (drop_at xs k y e) ∙ (rw (hit, open') refl))
  where
    pushed : (o : Option (List Slip)) → option_map (λ l. (done ++ y ∷ []) ++ l) o ≡ option_map (λ l. done ++ l) (option_map (λ l. y ∷ l) o)
    pushed None = refl
    pushed (Some l) = ap Some (Rattle.std.proofs.lemmas.List.append_assoc done (y ∷ []) l)
