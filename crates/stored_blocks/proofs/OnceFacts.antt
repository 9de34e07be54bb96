-- Lists in which each id stands once: histories and final paths; and what one more stored block changes.
use Rattle.std.proofs.Common.{arith, ◌≡◌, ◌≤◌, ◌<◌, ◌+◌, inl, inr, ℕ, zero, suc, Bool, true, false, cond, List, [], ◌∷◌, ◌++◌, length, take, Option, Some, None, refl, sym, ◌∙◌, ap, subst, ltb, ◌||◌}
use Rattle.std.specs.List.{filter, find, slice_get}
use Rattle.std.proofs.lemmas.Bool.{both_ways, false_from_ne_true, lt-ltb}
use Rattle.std.proofs.lemmas.Option.{same_Some}
use Rattle.block_record.specs.declared.blocks.Slip.{Slip}
use Rattle.block_record.specs.Ids.{same_id, same_id-true, same_id_refl}
use Rattle.block_tree.specs.Places.{HasIdsOnce, slip_at}
use Rattle.block_tree.proofs.public.PlaceFacts.{slip_at_past, slip_at_within}
use Rattle.chain_model.specs.Ancestry.{has_id, IsHistory}
use Rattle.chain_model.specs.Finality.{final_ancestry}
use Rattle.chain_laws.proofs.public.Lines.{IsHistory-rest, is_fresh}
use Rattle.bundle_model.specs.Bundles.{finals_up}
use Rattle.bundle_model.specs.Members.{Among}
use Rattle.bundle_model.proofs.public.MemberFacts.{among_all, reverse_among}
use Rattle.bundle_model.proofs.public.Climbs.{Climbs, Falls, line_falls, ltb_no}
use Rattle.chain_laws.proofs.public.Meeting.{finals_line}
use Rattle.bundle_model.proofs.public.BundleFacts.{finals_climb}
use Rattle.bundle_model.proofs.public.DoneFacts.{find_is}
use Rattle.bundle_model.proofs.public.RetainedFacts.{id_there}
use Rattle.bundle_model.proofs.public.StoredFacts.{final_found, found_is_among, one_of_id}
use Rattle.stored_blocks.specs.Stored.{is_past}
use Rattle.stored_blocks.proofs.public.HeldFacts.{has_among}
use Rattle.stored_blocks.proofs.public.PathFacts.{filter_same}

pub history_once : (newest : List Slip) → IsHistory newest → HasIdsOnce newest
history_once [] history = tt
history_once (s ∷ older) history = (is_fresh s older history, history_once older (IsHistory-rest s older history))

-- a block of the final path is one of the history
pub final_there : (newest : List Slip) → IsHistory newest → (x : Slip) → Among (finals_up newest) x → Among newest x
final_there newest history x h = found_is_among newest x (final_found newest history x (reverse_among (final_ancestry newest) x h))

-- one more of a front
pub take_among : (xs : List Slip) (n : ℕ) (x : Slip) → Among (take n xs) x → Among xs x
take_among [] n x h = absurd (none n h)
  where
    none : (m : ℕ) → Among (take m []) x → ⊥
    none zero k = k
    none (suc m) k = k
take_among (y ∷ xs) zero x h = absurd h
take_among (y ∷ xs) (suc n) x (inl e) = inl e
take_among (y ∷ xs) (suc n) x (inr h) = inr (take_among xs n x h)

pub take_more : (xs : List Slip) (k : ℕ) (y : Slip) → slice_get xs k ≡ Some y → take (suc k) xs ≡ take k xs ++ y ∷ []
take_more [] k y e = absurd (none e)
  where
    none : None ≡ Some y → ⊥
    none m = grind (arith, m)
take_more (x ∷ xs) zero y e = let same : x ≡ y = same_Some x y e in rw same (nothing xs)
  where
    nothing : (ys : List Slip) → y ∷ take zero ys ≡ y ∷ []
    nothing [] = refl
    nothing (z ∷ zs) = refl
take_more (x ∷ xs) (suc k) y e = ap (λ l. x ∷ l) (take_more xs k y e)

pub slice_among : (xs : List Slip) (k : ℕ) (y : Slip) → slice_get xs k ≡ Some y → Among xs y
slice_among [] k y e = absurd (none e)
  where
    none : None ≡ Some y → ⊥
    none m = grind (arith, m)
slice_among (x ∷ xs) zero y e = inl (same_Some x y e)
slice_among (x ∷ xs) (suc k) y e = inr (slice_among xs k y e)

-- the blocks before one of a climbing path are below it
pub climb_before : (xs : List Slip) → Climbs xs → (k : ℕ) (y : Slip) → slice_get xs k ≡ Some y → (x : Slip) → Among (take k xs) x → x.num < y.num
climb_before [] c k y e x h = absurd (none e)
  where
    none : None ≡ Some y → ⊥
    none m = grind (arith, m)
climb_before (z ∷ xs) c zero y e x h = absurd h
climb_before (z ∷ xs) c (suc k) y e x (inl same) = let low = among_all (λ t. z.num < t.num) xs c.0 y (slice_among xs k y e) in subst (λ (t : Slip). t.num < y.num) same low
climb_before (z ∷ xs) c (suc k) y e x (inr h) = climb_before xs c.1 k y e x h

-- so none of them has its id
pub front_lacks : (newest : List Slip) → IsHistory newest → (k : ℕ) (y : Slip) → slice_get (finals_up newest) k ≡ Some y → has_id (take k (finals_up newest)) y.id ≡ false
front_lacks newest history k y e = false_from_ne_true _ (λ t.
    let p = has_among (take k (finals_up newest)) y.id t in
    let on = final_there newest history p.0 (take_among (finals_up newest) k p.0 p.1) in
    let yon = final_there newest history y (slice_among (finals_up newest) k y e) in
    let same = one_of_id newest history p.0 y on yon p.2 in
    let less = climb_before (finals_up newest) (finals_climb newest history) k y e p.0 p.1 in
    omega (arith, less, ap (λ (s : Slip). s.num) same))

-- a climbing path of a history has each id once
climb_once : (newest : List Slip) → IsHistory newest → (xs : List Slip) → ((x : Slip) → Among xs x → Among newest x) → Climbs xs → HasIdsOnce xs
climb_once newest history [] within c = tt
climb_once newest history (x ∷ xs) within c = (fresh, climb_once newest history xs (λ y h. within y (inr h)) c.1)
  where
    fresh : has_id xs x.id ≡ false
    fresh = false_from_ne_true _ (λ t.
        let p = has_among xs x.id t in
        let same = one_of_id newest history p.0 x (within p.0 (inr p.1)) (within x (inl refl)) p.2 in
        let less : x.num < p.0.num = among_all (λ t. x.num < t.num) xs c.0 p.0 p.1 in
        omega (arith, less, ap (λ (s : Slip). s.num) same))

pub finals_once : (newest : List Slip) → IsHistory newest → HasIdsOnce (finals_up newest)
finals_once newest history = climb_once newest history (finals_up newest) (final_there newest history) (finals_climb newest history)

-- in a list without the id the tests agree
pub other_ids : (q r : Slip → Bool) (y : Slip) (xs : List Slip) → ((s : Slip) → r s ≡ (q s || same_id y.id s.id)) → has_id xs y.id ≡ false → (s : Slip) → Among xs s → q s ≡ r s
other_ids q r y xs more lacks s h =
    let miss : same_id y.id s.id ≡ false = false_from_ne_true _ (λ t. both_ways _ lacks (subst (λ (i : List ℕ). has_id xs i ≡ true) (sym (same_id-true y.id s.id t)) (id_there xs s h))) in
    let P : Bool → Type 0 = λ b. b ≡ (b || false) in
    let e : q s ≡ (q s || false) = elim (q s) as P [ true ↦ refl | false ↦ refl ] in
    e ∙ sym (more s ∙ (rw miss refl))

-- one more passes
pub filter_one_more : (q r : Slip → Bool) (y : Slip) (xs : List Slip) → ((s : Slip) → r s ≡ (q s || same_id y.id s.id)) → q y ≡ false → HasIdsOnce xs → Among xs y
    → length (filter r xs) ≡ length (filter q xs) + 1
filter_one_more q r y [] more no' once h = absurd h
filter_one_more q r y (x ∷ xs) more no' once (inl same) =
    let miss : q x ≡ false = ap q same ∙ no' in
    let hit : r x ≡ true = more x ∙ (let own : same_id y.id x.id ≡ true = subst (λ (z : Slip). same_id y.id z.id ≡ true) (sym same) (same_id_refl y.id) in rw (miss, own) refl) in
    let lacks : has_id xs y.id ≡ false = subst (λ (z : Slip). has_id xs z.id ≡ false) same once.0 in
    let rest = filter_same q r xs (other_ids q r y xs more lacks) in
    rw (miss, hit, rest) (omega arith)
filter_one_more q r y (x ∷ xs) more no' once (inr h) =
    let apart : same_id y.id x.id ≡ false = false_from_ne_true _ (λ t. both_ways _ once.0 (subst (λ (i : List ℕ). has_id xs i ≡ true) (same_id-true y.id x.id t) (id_there xs y h))) in
    let ih = filter_one_more q r y xs more no' once.1 h in
    go (q x) (r x) (more x ∙ (rw apart (right (q x)))) ih
  where
    right : (b : Bool) → (b || false) ≡ b
    right true = refl
    right false = refl

    go : (a b : Bool) → b ≡ a → length (filter r xs) ≡ length (filter q xs) + 1 → length (cond b (x ∷ filter r xs) (filter r xs)) ≡ length (cond a (x ∷ filter q xs) (filter q xs)) + 1
    go true true e ih = omega (arith, ih)
    go true false e ih = absurd (both_ways _ refl e)
    go false true e ih = absurd (both_ways _ refl (sym e))
    go false false e ih = ih

-- the last that passes, then
pub find_one_more : (q r : Slip → Bool) (y : Slip) (xs : List Slip) → ((s : Slip) → r s ≡ (q s || same_id y.id s.id)) → q y ≡ false → HasIdsOnce xs → Falls xs → Among xs y
    → find r xs ≡ cond (is_past (find q xs) y) (Some y) (find q xs)
find_one_more q r y [] more no' once falls h = absurd h
find_one_more q r y (x ∷ xs) more no' once falls (inl same) =
    let miss : q x ≡ false = ap q same ∙ no' in
    let hit : r x ≡ true = more x ∙ (let own : same_id y.id x.id ≡ true = subst (λ (z : Slip). same_id y.id z.id ≡ true) (sym same) (same_id_refl y.id) in rw (miss, own) refl) in
    rw (miss, hit) (ap Some same ∙ sym (past (find q xs) refl))
  where
    past : (o : Option Slip) → find q xs ≡ o → cond (is_past o y) (Some y) o ≡ Some y
    past None e = refl
    past (Some t) e =
        let low : t.num < x.num = among_all (λ z. z.num < x.num) xs falls.0 t (find_is q xs t e) in
        let less : ltb t.num y.num ≡ true = lt-ltb t.num y.num (omega (arith, low, ap (λ (s : Slip). s.num) same)) in
        rw less refl
find_one_more q r y (x ∷ xs) more no' once falls (inr h) =
    let apart : same_id y.id x.id ≡ false = false_from_ne_true _ (λ t. both_ways _ once.0 (subst (λ (i : List ℕ). has_id xs i ≡ true) (same_id-true y.id x.id t) (id_there xs y h))) in
    let low : y.num < x.num = among_all (λ z. z.num < x.num) xs falls.0 y h in
    let ih = find_one_more q r y xs more no' once.1 falls.1 h in
    go (q x) (r x) (more x ∙ (rw apart (right (q x)))) low ih
  where
    right : (b : Bool) → (b || false) ≡ b
    right true = refl
    right false = refl

    go : (a b : Bool) → b ≡ a → y.num < x.num → find r xs ≡ cond (is_past (find q xs) y) (Some y) (find q xs)
        → cond b (Some x) (find r xs) ≡ cond (is_past (cond a (Some x) (find q xs)) y) (Some y) (cond a (Some x) (find q xs))
    go true true e less ih = let no'' = ltb_no x.num y.num (omega (arith, less)) in rw no'' refl
    go true false e less ih = absurd (both_ways _ refl e)
    go false true e less ih = absurd (both_ways _ refl (sym e))
    go false false e less ih = ih

-- a block that came after a history has an id that is new there
pub newer_lacks : (more older : List Slip) → IsHistory (more ++ older) → (at : ℕ) (s : Slip) → length older ≤ at → slip_at (more ++ older) at ≡ Some s → has_id older s.id ≡ false
newer_lacks [] older history at s le e = absurd (let low = slip_at_within older at s e in omega (arith, low, le))
newer_lacks (x ∷ more) older history at s le e = go (Rattle.std.proofs.Math.Dec.eqb at (length (more ++ older))) e (λ k. newer_lacks more older (IsHistory-rest x (more ++ older) history) at s le k)
  where
    within : (l : List Slip) → has_id (l ++ older) x.id ≡ false → has_id older x.id ≡ false
    within [] k = k
    within (y ∷ l) k = within l (second (same_id y.id x.id) k)
      where
        second : (b : Bool) → (b || has_id (l ++ older) x.id) ≡ false → has_id (l ++ older) x.id ≡ false
        second true m = absurd (both_ways _ m refl)
        second false m = m

    go : (b : Bool) → cond b (Some x) (slip_at (more ++ older) at) ≡ Some s → (slip_at (more ++ older) at ≡ Some s → has_id older s.id ≡ false) → has_id older s.id ≡ false
    go true k ih = subst (λ (z : Slip). has_id older z.id ≡ false) (same_Some x s k) (within more (is_fresh x (more ++ older) history))
    go false k ih = ih k

-- blocks of the older history stand where they stood
pub slip_at_older : (more older : List Slip) (at : ℕ) → at < length older → slip_at (more ++ older) at ≡ slip_at older at
slip_at_older [] older at less = refl
slip_at_older (x ∷ more) older at less =
    slip_at_past x (more ++ older) at (omega (arith, less, Rattle.std.proofs.lemmas.List.length-append more older)) ∙ slip_at_older more older at less

-- so has the final path, its last block first
falls_once : (newest : List Slip) → IsHistory newest → (xs : List Slip) → ((x : Slip) → Among xs x → Among newest x) → Falls xs → HasIdsOnce xs
falls_once newest history [] within f = tt
falls_once newest history (x ∷ xs) within f = (fresh, falls_once newest history xs (λ y h. within y (inr h)) f.1)
  where
    fresh : has_id xs x.id ≡ false
    fresh = false_from_ne_true _ (λ t.
        let p = has_among xs x.id t in
        let same = one_of_id newest history p.0 x (within p.0 (inr p.1)) (within x (inl refl)) p.2 in
        let less : p.0.num < x.num = among_all (λ t. t.num < x.num) xs f.0 p.0 p.1 in
        omega (arith, less, ap (λ (s : Slip). s.num) same))

pub line_once : (newest : List Slip) → IsHistory newest → HasIdsOnce (final_ancestry newest)
line_once newest history =
    falls_once newest history (final_ancestry newest) (λ x h. found_is_among newest x (final_found newest history x h))
    (line_falls newest history (final_ancestry newest) (finals_line newest history))
