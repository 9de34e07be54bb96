-- Facts of counts: one more, one fewer, and those of the blocks of a room that pass a test.
use Rattle.std.proofs.Common.{arith, ◌≡◌, ◌<◌, ◌≤◌, ◌+◌, ℕ, zero, suc, Bool, true, false, cond, ltb, ◌++◌, inl, inr, Option, Some, List, [], ◌∷◌, length, reverse, take, drop, get_or, refl, sym, ◌∙◌, ap, length-append}
use Rattle.std.specs.List.{filter, list_any, remove, slice_get}
use Rattle.std.proofs.lemmas.Bool.{cases_Bool, false_from_ne_true, lt-ltb, ltb-true}
use Rattle.std.proofs.lemmas.List.{length-reverse, map-append, drop_more, take_more}
use Rattle.std.proofs.lemmas.List.Elements.{filter-append}
use Rattle.std.proofs.lemmas.Option.{same_Some}
use Rattle.block_record.specs.declared.blocks.Slip.{Slip}
use Rattle.block_record.specs.Ids.{same_id}
use Rattle.wait_room.specs.declared.waiters.Waiter.{Waiter}
use Rattle.indexmap.specs.IndexSet.{insert_key}
use Rattle.chain_model.specs.Ancestry.{has_id}
use Rattle.wait_room.specs.Keys.{same_key}
use Rattle.wait_room.specs.Rooms.{children_in, slips_of, waiting_of}
use Rattle.wait_room.proofs.public.RoomFacts.{put_last}
use Rattle.wait_room.proofs.TurnedFacts.{filter_turned}

-- what is counted where one count was put
value_put : {V : Type 0} (value : Option V → ℕ) (b : Bool) (w g : Option V) → value (cond b w g) ≡ cond b (value w) (value g)
value_put value true w g = refl
value_put value false w g = refl

pub counted_more : {K V : Type 0} (value : Option V → ℕ) (same : K → K → Bool) (old new : K → Option V) (k : K) (w : Option V) → ((q : K) → same k q ≡ true → k ≡ q) → ((q : K) → new q ≡ cond (same k q) w (old q)) → value w ≡ value (old k) + 1
    → (q : K) → value (new q) ≡ value (old q) + cond (same k q) 1 0
counted_more value same old new k w tells updates more q =
    let at = ap value (updates q) ∙ value_put value (same k q) w (old q) in
    elim (cases_Bool (same k q)) [
      | inl is ↦ at ∙ rw is (more ∙ ap (λ j. value (old j) + 1) (tells q is))
      | inr other ↦ at ∙ rw other (omega arith)
    ]

pub counted_less : {K V : Type 0} (value : Option V → ℕ) (same : K → K → Bool) (old new : K → Option V) (k : K) (w : Option V) → ((q : K) → same k q ≡ true → k ≡ q) → ((q : K) → new q ≡ cond (same k q) w (old q)) → value w + 1 ≡ value (old k)
    → (q : K) → value (old q) ≡ value (new q) + cond (same k q) 1 0
counted_less value same old new k w tells updates less q =
    let at = ap value (updates q) ∙ value_put value (same k q) w (old q) in
    elim (cases_Bool (same k q)) [
      | inl is ↦ sym (ap (λ j. value (old j)) (tells q is)) ∙ sym less ∙ ap (λ n. n + 1) (sym (at ∙ rw is refl)) ∙ rw is refl
      | inr other ↦ sym (at ∙ rw other refl) ∙ rw other (omega arith)
    ]

pub count_first : (p : Slip → Bool) (s : Slip) (xs : List Slip) → length (filter p (s ∷ xs)) ≡ length (filter p xs) + cond (p s) 1 0
count_first p s xs =
    elim (cases_Bool (p s)) [
      | inl passes ↦ rw passes (omega arith)
      | inr other ↦ rw other (omega arith)
    ]

pub one_child : (s : Slip) (xs : List Slip) (id : List ℕ) → children_in (s ∷ xs) id ≡ children_in xs id + cond (same_id s.parent_id id) 1 0
one_child s xs id = count_first (λ t. same_id t.parent_id id) s xs

count_append : (p : Slip → Bool) (xs ys : List Slip) → length (filter p (xs ++ ys)) ≡ length (filter p xs) + length (filter p ys)
count_append p xs ys = ap length (filter-append p xs ys) ∙ length-append _ _

count_push : (p : Slip → Bool) (xs : List Slip) (s : Slip) → length (filter p (xs ++ s ∷ [])) ≡ length (filter p xs) + cond (p s) 1 0
count_push p xs s = count_append p xs (s ∷ []) ∙ omega (arith, count_first p s [])

pub count_turned : (p : Slip → Bool) (xs : List Slip) → length (filter p (reverse xs)) ≡ length (filter p xs)
count_turned p xs = ap length (filter_turned p xs) ∙ length-reverse _

pub children_turned : (xs : List Slip) (id : List ℕ) → children_in (reverse xs) id ≡ children_in xs id
children_turned xs id = count_turned (λ s. same_id s.parent_id id) xs

-- one block fewer, counted by any test
pub removed_one : (p : Slip → Bool) (xs : List Waiter) (i : ℕ) (w : Waiter) → slice_get xs i ≡ Some w → length (filter p (slips_of xs)) ≡ length (filter p (slips_of (remove xs i))) + cond (p w.slip) 1 0
removed_one p [] i w e = absurd (grind (arith, e))
removed_one p (x ∷ xs) zero w e = rw (← (same_Some x w e)) (count_first p x.slip (slips_of xs))
removed_one p (x ∷ xs) (suc i) w e = omega (arith, removed_one p xs i w e, count_first p x.slip (slips_of xs), count_first p x.slip (slips_of (remove xs i)))

-- some block names the id exactly where one is counted
pub any_counted : (xs : List Slip) (id : List ℕ) → list_any (λ (s : Slip). same_id s.parent_id id) xs ≡ ltb 0 (children_in xs id)
any_counted [] id = refl
any_counted (x ∷ xs) id =
    elim (cases_Bool (same_id x.parent_id id)) [
      | inl same ↦ rw same (sym (lt-ltb 0 _ (omega arith)))
      | inr other ↦ rw other (any_counted xs id)
    ]

-- a block that waits is counted
pub one_there : (p : Slip → Bool) (xs : List Waiter) (i : ℕ) (w : Waiter) → slice_get xs i ≡ Some w → p w.slip ≡ true → 0 < length (filter p (slips_of xs))
one_there p xs i w e passes =
    let one : cond (p w.slip) 1 0 + 0 ≡ 0 + 1 = rw passes refl in
    omega (arith, one, removed_one p xs i w e)

-- with a new block there is one more
pub put_one : (p : Slip → Bool) (xs ys : List Waiter) (w : Waiter) → ys ≡ insert_key same_key xs w → has_id (waiting_of xs) w.slip.id ≡ false → length (filter p (slips_of ys)) ≡ length (filter p (slips_of xs)) + cond (p w.slip) 1 0
put_one p xs ys w e fresh =
    ap (λ l. length (filter p (slips_of l))) (put_last xs ys w e fresh) ∙ ap (λ l. length (filter p l)) (map-append (λ (x : Waiter). x.slip) xs (w ∷ [])) ∙ count_push p (slips_of xs) w.slip

-- one block further
drop_one : (p : Slip → Bool) (ws : List Waiter) (i : ℕ) (w : Waiter) → i < length ws → w ≡ get_or ws i w → length (filter p (slips_of (drop i ws))) ≡ length (filter p (slips_of (drop (i + 1) ws))) + cond (p w.slip) 1 0
drop_one p ws i w lt e =
    ap (λ l. length (filter p (slips_of l))) (drop_more ws i w lt) ∙ ap (λ (x : Waiter). length (filter p (x.slip ∷ slips_of (drop (i + 1) ws)))) (sym e) ∙ count_first p w.slip (slips_of (drop (i + 1) ws))

above_more : (p : Slip → Bool) (num : ℕ) (ws : List Waiter) (i : ℕ) (w : Waiter) (b : Bool) → i < length ws → w ≡ get_or ws i w → ltb num w.slip.num ≡ b
    → length (filter p (filter (λ s. ltb num s.num) (slips_of (take (i + 1) ws)))) ≡ length (filter p (filter (λ s. ltb num s.num) (slips_of (take i ws)))) + length (filter p (cond b (w.slip ∷ []) []))
above_more p num ws i w b lt e test =
    let q = λ (s : Slip). ltb num s.num in
    ap (λ l. length (filter p (filter q (slips_of l)))) (take_more ws i w lt) ∙ ap (λ (x : Waiter). length (filter p (filter q (slips_of (take i ws ++ x ∷ []))))) (sym e)
    ∙ ap (λ l. length (filter p (filter q l))) (map-append (λ (x : Waiter). x.slip) (take i ws) (w ∷ []))
    ∙ ap (λ l. length (filter p l)) (filter-append q (slips_of (take i ws)) (w.slip ∷ []))
    ∙ count_append p (filter q (slips_of (take i ws))) (filter q (w.slip ∷ []))
    ∙ ap (λ t. length (filter p (filter q (slips_of (take i ws)))) + length (filter p (cond t (w.slip ∷ []) []))) test

-- a block that stays
pub count_kept : (p : Slip → Bool) (num : ℕ) (ws : List Waiter) (i : ℕ) (w : Waiter) → i < length ws → w ≡ get_or ws i w → num < w.slip.num
    → length (filter p (filter (λ s. ltb num s.num) (slips_of (take (i + 1) ws)))) + length (filter p (slips_of (drop (i + 1) ws)))
    ≡ length (filter p (filter (λ s. ltb num s.num) (slips_of (take i ws)))) + length (filter p (slips_of (drop i ws)))
count_kept p num ws i w lt e less =
    omega (arith, above_more p num ws i w true lt e (lt-ltb num w.slip.num less), count_first p w.slip [], drop_one p ws i w lt e)

-- a block that goes
pub count_dropped : (p : Slip → Bool) (num : ℕ) (ws : List Waiter) (i : ℕ) (w : Waiter) → i < length ws → w ≡ get_or ws i w → w.slip.num ≤ num
    → length (filter p (filter (λ s. ltb num s.num) (slips_of (take (i + 1) ws)))) + length (filter p (slips_of (drop (i + 1) ws))) + cond (p w.slip) 1 0
    ≡ length (filter p (filter (λ s. ltb num s.num) (slips_of (take i ws)))) + length (filter p (slips_of (drop i ws)))
count_dropped p num ws i w lt e most =
    let test : ltb num w.slip.num ≡ false = false_from_ne_true _ (λ t. absurd (omega (arith, ltb-true num w.slip.num t))) in
    omega (arith, above_more p num ws i w false lt e test, drop_one p ws i w lt e)

-- the block at a place is counted among those from there on
pub one_ahead : (p : Slip → Bool) (ws : List Waiter) (i : ℕ) (w : Waiter) → i < length ws → w ≡ get_or ws i w → p w.slip ≡ true → 0 < length (filter p (slips_of (drop i ws)))
one_ahead p ws i w lt e passes =
    let one : cond (p w.slip) 1 0 + 0 ≡ 0 + 1 = rw passes refl in
    omega (arith, one, drop_one p ws i w lt e)
