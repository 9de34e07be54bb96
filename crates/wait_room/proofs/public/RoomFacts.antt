-- Facts of a waiting room: the slips of the blocks that wait, one more, and one fewer.
use Rattle.std.proofs.Common.{arith, ◌≡◌, ◌<◌, ◌≤◌, ◌+◌, ◌-◌, ◌⊎◌, inl, inr, ℕ, zero, suc, Bool, true, false, not, ltb, leb, cond, IsTrue, ◌||◌, ◌&&◌, ◌++◌, Option, Some, None, IfSome, IsSome, List, [], ◌∷◌, map, reverse, length, refl, sym, ◌∙◌, ap, subst}
use Rattle.std.specs.Arc.{arc_value}
use Rattle.std.specs.List.{All, AllByRecursion, AllZip, filter, find, remove, slice_get, list_any}
use Rattle.std.specs.Option.{option_map, option_or}
use Rattle.std.proofs.lemmas.Bool.{and_parts, cases_Bool, leb-true, le-leb, or_parts, both_ways, false_from_ne_true}
use Rattle.std.proofs.lemmas.List.{map-append, map-id, length_push}
use Rattle.std.proofs.lemmas.List.Elements.{recursion_from_All, All-filter, All-push}
use Rattle.std.proofs.lemmas.List.Folds.{find-append, list_any-append}
use Rattle.std.proofs.lemmas.Bool.Decides.{leb_tells}
use Rattle.std.proofs.lemmas.Option.{same_Some}
use Rattle.block_record.specs.declared.blocks.Block.{Block}
use Rattle.block_record.specs.declared.blocks.Slip.{Slip}
use Rattle.block_record.specs.Slips.{slip}
use Rattle.indexmap.specs.IndexSet.{insert_key}
use Rattle.wait_room.specs.Keys.{same_key}
use Rattle.block_record.specs.Ids.{same_id, same_id_equiv, same_id_refl, same_id-true}
use Rattle.chain_model.specs.Ancestry.{find_id, has_id}
use Rattle.relay_model.specs.Soundness.{IsDistinct}
use Rattle.relay_model.proofs.public.Intakes.{distinct_filter}
use Rattle.relay_model.specs.Worlds.{descendants, descends, room_bytes, without}
use Rattle.relay_model.proofs.public.Sound.{swap_ids}
use Rattle.wait_room.specs.declared.waiters.Waiter.{Waiter}
use Rattle.wait_room.specs.Rooms.{slips_of, kept_of, kept_at, kept_beside, waiting_of, held_of, AreKept, HasOwnSlip, IsOwnSlip, Room, fits_in, room_where}
use Rattle.block_record.proofs.public.ListFacts.{all_reverse, map_reverse}
use Rattle.wait_room.proofs.TurnedFacts.{all_of, filter_all, filter_turned, map_filter, turned_cons, turned_push}

abbrev pub room_of : List Slip → List (Option Block) → ℕ → ℕ → Room
room_of w h b n = record { waiting = w; held = h; most_blocks = b; most_bytes = n }

-- the test that keeps all but the block of an id
abbrev pub is_other : List ℕ → Waiter → Bool
is_other id w = not (same_id w.slip.id id)

-- no element has the id, so each is another one
others : (id : List ℕ) (xs : List Waiter) → has_id (slips_of xs) id ≡ false → AllByRecursion (λ w. is_other id w ≡ true) xs
others id [] h = tt
others id (x ∷ xs) h =
    let parts = or_parts (same_id x.slip.id id) (has_id (slips_of xs) id) h in
    (rw parts.0 refl, others id xs parts.1)

-- an element has its id
has_at : {X : Type 0} (key : X → Slip) (xs : List X) (i : ℕ) (w : X) → slice_get xs i ≡ Some w → has_id (map key xs) (key w).id ≡ true
has_at key [] i w e = absurd (grind (arith, e))
has_at key (x ∷ xs) zero w e = rw (same_Some x w e, same_id_refl (key w).id) refl
has_at key (x ∷ xs) (suc i) w e = rw (has_at key xs i w e) (later (same_id (key x).id (key w).id))
  where
    later : (b : Bool) → (b || true) ≡ true
    later true = refl
    later false = refl

-- what is taken out of a room is the one block with its id
pub removed_is : (xs : List Waiter) (i : ℕ) (w : Waiter) → slice_get xs i ≡ Some w → IsDistinct (slips_of xs) → remove xs i ≡ filter (is_other w.slip.id) xs
removed_is [] i w e d = absurd (grind (arith, e))
removed_is (x ∷ xs) zero w e d =
    let lacks : has_id (slips_of xs) w.slip.id ≡ false = ap (λ (v : Waiter). has_id (slips_of xs) v.slip.id) (sym (same_Some x w e)) ∙ d.0 in
    rw (same_Some x w e, same_id_refl w.slip.id) (sym (filter_all (is_other w.slip.id) xs (others w.slip.id xs lacks)))
removed_is (x ∷ xs) (suc i) w e d =
    let other : same_id x.slip.id w.slip.id ≡ false =
    false_from_ne_true _ (λ same. both_ways _ d.0 (ap (has_id (slips_of xs)) (same_id-true x.slip.id w.slip.id same) ∙ has_at (λ (w : Waiter). w.slip) xs i w e)) in
    rw other (ap (λ l. x ∷ l) (removed_is xs i w e d.1))

pub removed_bytes : (xs : List Waiter) (i : ℕ) (w : Waiter) → slice_get xs i ≡ Some w → room_bytes (slips_of (remove xs i)) + w.slip.length ≡ room_bytes (slips_of xs)
removed_bytes [] i w e = absurd (grind (arith, e))
removed_bytes (x ∷ xs) zero w e = let same = same_Some x w e in rw same (omega arith)
removed_bytes (x ∷ xs) (suc i) w e = omega (arith, removed_bytes xs i w e)

bytes_append : (xs ys : List Slip) → room_bytes (xs ++ ys) ≡ room_bytes xs + room_bytes ys
bytes_append [] ys = omega arith
bytes_append (x ∷ xs) ys = omega (arith, bytes_append xs ys)

pub bytes_turned : (xs : List Slip) → room_bytes (reverse xs) ≡ room_bytes xs
bytes_turned [] = refl
bytes_turned (x ∷ xs) = ap room_bytes (turned_cons x xs) ∙ bytes_append (reverse xs) (x ∷ []) ∙ omega (arith, bytes_turned xs)

any_push : (b c : Bool) → (b || (c || false)) ≡ (c || b)
any_push true true = refl
any_push true false = refl
any_push false true = refl
any_push false false = refl

pub any_turned : (p : Slip → Bool) (xs : List Slip) → list_any p (reverse xs) ≡ list_any p xs
any_turned p [] = refl
any_turned p (x ∷ xs) =
    ap (list_any p) (turned_cons x xs) ∙ list_any-append p (reverse xs) (x ∷ []) ∙ ap (λ b. b || list_any p (x ∷ [])) (any_turned p xs) ∙ any_push (list_any p xs) (p x)

pub has_turned : (xs : List Slip) (id : List ℕ) → has_id (reverse xs) id ≡ has_id xs id
has_turned xs id = any_turned (λ s. same_id s.id id) xs

pub distinct_push : (xs : List Slip) (s : Slip) → IsDistinct xs → has_id xs s.id ≡ false → IsDistinct (xs ++ s ∷ [])
distinct_push [] s d fresh = (refl, tt)
distinct_push (x ∷ xs) s d fresh =
    let parts = or_parts (same_id x.id s.id) (has_id xs s.id) fresh in
    (list_any-append (λ t. same_id t.id x.id) xs (s ∷ []) ∙ rw (d.0, swap_ids x.id s.id parts.0) refl, distinct_push xs s d.1 parts.1)

pub distinct_turned : (xs : List Slip) → IsDistinct xs → IsDistinct (reverse xs)
distinct_turned [] d = tt
distinct_turned (x ∷ xs) d = subst IsDistinct (sym (turned_cons x xs)) (distinct_push (reverse xs) x (distinct_turned xs d.1) (has_turned xs x.id ∙ d.0))

find_missing : {X : Type 0} (key : X → Slip) (xs : List X) (id : List ℕ) → has_id (map key xs) id ≡ false → find (λ x. same_id (key x).id id) xs ≡ None
find_missing key [] id h = refl
find_missing key (x ∷ xs) id h =
    let parts = or_parts (same_id (key x).id id) (has_id (map key xs) id) h in
    rw parts.0 (find_missing key xs id parts.1)

-- a search by id finds the same element from either end
pub find_turned : {X : Type 0} (key : X → Slip) (xs : List X) (id : List ℕ) → IsDistinct (map key xs) → find (λ x. same_id (key x).id id) (reverse xs) ≡ find (λ x. same_id (key x).id id) xs
find_turned key [] id d = refl
find_turned key (x ∷ xs) id d =
    let t = λ (y : _). same_id (key y).id id in
    let P : Bool → Type 0 = λ b. same_id (key x).id id ≡ b → option_or (find t xs) (cond b (Some x) None) ≡ cond b (Some x) (find t xs) in
    ap (find t) (turned_cons x xs) ∙ find-append t (reverse xs) (x ∷ []) ∙ ap (λ o. option_or o (find t (x ∷ []))) (find_turned key xs id d.1)
    ∙ (elim (same_id (key x).id id) as P [
      | true ↦ λ same. ap (λ o. option_or o (Some x)) (find_missing key xs id (ap (has_id (map key xs)) (sym (same_id-true (key x).id id same)) ∙ d.0))
      | false ↦ λ _. nothing (find t xs)
    ]) refl
  where
    nothing : {Y : Type 0} (o : Option Y) → option_or o None ≡ o
    nothing None = refl
    nothing (Some s) = refl

-- the block that is found by the key is that of the id
pub found_key : (xs : List Waiter) (id : List ℕ) → option_map (λ (w : Waiter). w.slip) (find (λ (w : Waiter). same_id id w.slip.id) xs) ≡ find_id (slips_of xs) id
found_key [] id = refl
found_key (x ∷ xs) id =
    let P : Bool → Type 0 = λ b. option_map (λ (w : Waiter). w.slip) (cond b (Some x) (find (λ (w : Waiter). same_id id w.slip.id) xs)) ≡ cond b (Some x.slip) (find_id (slips_of xs) id) in
    let at : P (same_id id x.slip.id) = elim (same_id id x.slip.id) as P [ true ↦ refl | false ↦ found_key xs id ] in
    at ∙ ap (λ b. cond b (Some x.slip) (find_id (slips_of xs) id)) (same_id_equiv.symm id x.slip.id)

-- the slips that are left, by a filter of the slips
pub slips_filtered : (p : Waiter → Bool) (q : Slip → Bool) (xs : List Waiter) → ((w : Waiter) → p w ≡ q w.slip) → waiting_of (filter p xs) ≡ filter q (waiting_of xs)
slips_filtered p q xs agree =
    ap reverse (map_filter (λ (w : Waiter). w.slip) p q xs (all_of (λ w. p w ≡ q w.slip) agree xs)) ∙ sym (filter_turned q (slips_of xs))

beside_each : (q : Slip → Bool) (xs : List Waiter) → map kept_of (filter (λ w. q w.slip) xs) ≡ kept_beside q (slips_of xs) (map kept_of xs)
beside_each q [] = refl
beside_each q (x ∷ xs) =
    let P : Bool → Type 0 = λ b. map kept_of (cond b (x ∷ filter (λ w. q w.slip) xs) (filter (λ w. q w.slip) xs)) ≡ cond b (kept_of x ∷ kept_beside q (slips_of xs) (map kept_of xs)) (kept_beside q (slips_of xs) (map kept_of xs)) in
    elim (q x.slip) as P [ true ↦ ap (λ l. kept_of x ∷ l) (beside_each q xs) | false ↦ beside_each q xs ]

-- what is kept of the blocks that are left, by a filter of the slips
pub held_filtered : (q : Slip → Bool) (xs : List Waiter) → held_of (filter (λ w. q w.slip) xs) ≡ kept_beside q (waiting_of xs) (held_of xs)
held_filtered q xs =
    sym (map_reverse kept_of (filter (λ w. q w.slip) xs)) ∙ ap (map kept_of) (sym (filter_turned (λ (w : Waiter). q w.slip) xs)) ∙ beside_each q (reverse xs)
    ∙ ap (λ l. kept_beside q l (map kept_of (reverse xs))) (map_reverse (λ (w : Waiter). w.slip) xs) ∙ ap (kept_beside q (waiting_of xs)) (map_reverse kept_of xs)

kept_each : (xs : List Waiter) (id : List ℕ) → kept_at (slips_of xs) (map kept_of xs) id ≡ option_map kept_of (find (λ (w : Waiter). same_id w.slip.id id) xs)
kept_each [] id = refl
kept_each (x ∷ xs) id =
    let P : Bool → Type 0 = λ b. cond b (Some (kept_of x)) (kept_at (slips_of xs) (map kept_of xs) id) ≡ option_map kept_of (cond b (Some x) (find (λ (w : Waiter). same_id w.slip.id id) xs)) in
    elim (same_id x.slip.id id) as P [ true ↦ refl | false ↦ kept_each xs id ]

-- what is kept beside an id is that of the waiting block with the id
pub kept_found : (xs : List Waiter) (id : List ℕ) → IsDistinct (slips_of xs) → kept_at (waiting_of xs) (held_of xs) id ≡ option_map kept_of (find (λ (w : Waiter). same_id w.slip.id id) xs)
kept_found xs id d =
    ap (λ l. kept_at l (held_of xs) id) (sym (map_reverse (λ (w : Waiter). w.slip) xs)) ∙ ap (λ l. kept_at (map (λ (w : Waiter). w.slip) (reverse xs)) l id) (sym (map_reverse kept_of xs)) ∙ kept_each (reverse xs) id
    ∙ ap (option_map kept_of) (find_turned (λ (w : Waiter). w.slip) xs id d)

-- where each block is kept, each of those that are left is
pub beside_kept : (q : Slip → Bool) (waiting : List Slip) (held : List (Option Block)) → AllByRecursion IsSome held → AllByRecursion IsSome (kept_beside q waiting held)
beside_kept q [] held all = tt
beside_kept q (s ∷ more) [] all = tt
beside_kept q (s ∷ more) (kept ∷ held) all =
    let P : Bool → Type 0 = λ b. AllByRecursion IsSome (cond b (kept ∷ kept_beside q more held) (kept_beside q more held)) in
    elim (q s) as P [ true ↦ (all.0, beside_kept q more held all.1) | false ↦ beside_kept q more held all.1 ]

pub where_kept : (q : Slip → Bool) (old new : Room) → new ≡ room_where q old → AreKept old → AreKept new
where_kept q old new e all = subst AreKept (sym e) (beside_kept q old.waiting old.held all)

found_some : (waiting : List Slip) (held : List (Option Block)) (id : List ℕ) (o : Option Block) → AllByRecursion IsSome held → kept_at waiting held id ≡ Some o → IsSome o
found_some [] held id o all e = absurd (grind (arith, e))
found_some (s ∷ more) [] id o all e = absurd (grind (arith, e))
found_some (s ∷ more) (kept ∷ held) id o all e =
    let P : Bool → Type 0 = λ b. cond b (Some kept) (kept_at more held id) ≡ Some o → IsSome o in
    (elim (same_id s.id id) as P [
      | true ↦ λ f. subst IsSome (same_Some kept o f) all.0
      | false ↦ found_some more held id o all.1
    ]) e

some_mapped : {X Y : Type 0} (f : X → Y) (o : Option X) → IsSome (option_map f o) → IsSome o
some_mapped f None h = h
some_mapped f (Some x) h = refl

-- and so is the one that is found
pub found_kept : {X : Type 0} (f : X → Block) (waiting : List Slip) (held : List (Option Block)) (id : List ℕ) (o : Option X) → AllByRecursion IsSome held → kept_at waiting held id ≡ Some (option_map f o) → IsSome o
found_kept f waiting held id o all e = some_mapped f o (found_some waiting held id (option_map f o) all e)

-- an element is found by its id
find_here : {X : Type 0} (key : X → Slip) (xs : List X) (i : ℕ) (w : X) → slice_get xs i ≡ Some w → IsDistinct (map key xs) → find (λ x. same_id (key x).id (key w).id) xs ≡ Some w
find_here key [] i w e d = absurd (grind (arith, e))
find_here key (x ∷ xs) zero w e d = rw (same_Some x w e, same_id_refl (key w).id) refl
find_here key (x ∷ xs) (suc i) w e d =
    let other : same_id (key x).id (key w).id ≡ false =
    false_from_ne_true _ (λ same. both_ways _ d.0 (ap (has_id (map key xs)) (same_id-true (key x).id (key w).id same) ∙ has_at key xs i w e)) in
    rw other (find_here key xs i w e d.1)

own_each : (xs : List Waiter) → AllByRecursion HasOwnSlip xs → AllZip IsOwnSlip (slips_of xs) (map kept_of xs)
own_each [] own = tt
own_each (x ∷ xs) own = (own_kept arc_value x.slip x.block own.0, own_each xs own.1)
  where
    own_kept : {X : Type 0} (f : X → Block) (s : Slip) (o : Option X) → IfSome o (λ b. s ≡ slip (f b)) → IsOwnSlip s (option_map f o)
    own_kept f s None h = h
    own_kept f s (Some b) h = h

-- each block has its slip
pub own_slips : (xs : List Waiter) → All HasOwnSlip xs → AllZip IsOwnSlip (waiting_of xs) (held_of xs)
own_slips xs own =
    subst (λ l. AllZip IsOwnSlip l (held_of xs)) (map_reverse (λ (w : Waiter). w.slip) xs)
    (subst (λ l. AllZip IsOwnSlip (map (λ (w : Waiter). w.slip) (reverse xs)) l) (map_reverse kept_of xs) (own_each (reverse xs) (all_reverse HasOwnSlip xs (recursion_from_All HasOwnSlip xs own))))

-- what the key finds is the block of the id
pub found_slip : (xs : List Waiter) (id : List ℕ) (o : Option Waiter) → o ≡ find (λ (w : Waiter). same_id id w.slip.id) xs → IsDistinct (slips_of xs)
    → option_map (λ (w : Waiter). w.slip) o ≡ find_id (waiting_of xs) id
found_slip xs id o e d = ap (option_map (λ (w : Waiter). w.slip)) e ∙ found_key xs id ∙ sym (find_turned (λ s. s) (slips_of xs) id (subst IsDistinct (sym (map-id (slips_of xs))) d))

-- no waiting block has the key
pub key_absent : (xs : List Waiter) (id : List ℕ) → has_id (waiting_of xs) id ≡ false → list_any (λ (w : Waiter). same_id id w.slip.id) xs ≡ false
key_absent xs id h = each xs (sym (has_turned (slips_of xs) id) ∙ h)
  where
    each : (ys : List Waiter) → has_id (slips_of ys) id ≡ false → list_any (λ (w : Waiter). same_id id w.slip.id) ys ≡ false
    each [] h = refl
    each (y ∷ ys) h =
        let parts = or_parts (same_id y.slip.id id) (has_id (slips_of ys) id) h in
        rw (swap_ids y.slip.id id parts.0, each ys parts.1) refl

-- a new block goes last
pub put_last : (xs ys : List Waiter) (w : Waiter) → ys ≡ insert_key same_key xs w → has_id (waiting_of xs) w.slip.id ≡ false → ys ≡ xs ++ w ∷ []
put_last xs ys w e h = e ∙ ap (λ b. cond b xs (xs ++ w ∷ [])) (key_absent xs w.slip.id h)

pub waiting_push : (xs : List Waiter) (w : Waiter) → waiting_of (xs ++ w ∷ []) ≡ w.slip ∷ waiting_of xs
waiting_push xs w = ap reverse (map-append (λ (x : Waiter). x.slip) xs (w ∷ [])) ∙ turned_push (slips_of xs) w.slip

pub held_push : (xs : List Waiter) (w : Waiter) → held_of (xs ++ w ∷ []) ≡ kept_of w ∷ held_of xs
held_push xs w = ap reverse (map-append kept_of xs (w ∷ [])) ∙ turned_push (map kept_of xs) (kept_of w)

-- the room without the block at an index
pub record IsTakenOut (xs : List Waiter) (i : ℕ) (w : Waiter) : Type 0 where
  pub waiting : waiting_of (remove xs i) ≡ without w.slip (waiting_of xs)
  pub held : held_of (remove xs i) ≡ kept_beside (λ s. not (same_id s.id w.slip.id)) (waiting_of xs) (held_of xs)
  pub block : kept_at (waiting_of xs) (held_of xs) w.slip.id ≡ Some (kept_of w)
  pub distinct : IsDistinct (slips_of (remove xs i))
  pub mine : HasOwnSlip w

pub all_removed : (P : Waiter → Type 0) (xs : List Waiter) (i : ℕ) (w : Waiter) → slice_get xs i ≡ Some w → IsDistinct (slips_of xs) → All P xs → All P (remove xs i)
all_removed P xs i w e d all = subst (All P) (sym (removed_is xs i w e d)) (All-filter (is_other w.slip.id) P xs all)

pub taken_out : (xs : List Waiter) (i : ℕ) (w : Waiter) → slice_get xs i ≡ Some w → IsDistinct (slips_of xs) → All HasOwnSlip xs → IsTakenOut xs i w
taken_out xs i w e d all =
    let id = w.slip.id in
    let left = removed_is xs i w e d in
    record {
      waiting = ap waiting_of left ∙ slips_filtered (is_other id) (λ s. not (same_id s.id id)) xs (λ _. refl);
      held = ap held_of left ∙ held_filtered (λ s. not (same_id s.id id)) xs;
      block = kept_found xs id d ∙ ap (option_map kept_of) (find_here (λ (x : Waiter). x.slip) xs i w e d);
      distinct = subst IsDistinct (sym (ap slips_of left ∙ map_filter (λ (x : Waiter). x.slip) (is_other id) (λ s. not (same_id s.id id)) xs (all_of (λ x. is_other id x ≡ is_other id x) (λ _. refl) xs))) (distinct_filter (λ s. not (same_id s.id id)) (slips_of xs) d);
      mine = own_at xs i w e (recursion_from_All HasOwnSlip xs all);
    }
  where
    own_at : (ys : List Waiter) (j : ℕ) (x : Waiter) → slice_get ys j ≡ Some x → AllByRecursion HasOwnSlip ys → HasOwnSlip x
    own_at [] j x e all = absurd (grind (arith, e))
    own_at (y ∷ ys) zero x e all = subst HasOwnSlip (same_Some y x e) all.0
    own_at (y ∷ ys) (suc j) x e all = own_at ys j x e all.1

-- what the limits say of one more block
pub fits_parts : (room : Room) (n : ℕ) → IsTrue (fits_in room n) → (length room.waiting + 1 ≤ room.most_blocks) × (room_bytes room.waiting + n ≤ room.most_bytes)
fits_parts room n h =
    let parts = and_parts (leb (length room.waiting + 1) room.most_blocks) (leb (room_bytes room.waiting + n) room.most_bytes) h in
    (leb-true _ _ parts.0, leb-true _ _ parts.1)

pub fits_by : (room : Room) (n m bytes most len : ℕ) → n ≡ length room.waiting → m ≡ room.most_blocks → bytes ≡ room_bytes room.waiting → most ≡ room.most_bytes → bytes ≤ most → n < m
    → leb len (most - bytes) ≡ fits_in room len
fits_by room n m bytes most len n_is m_is bytes_is most_is below less =
    rw (le-leb (length room.waiting + 1) room.most_blocks (omega arith)) (both (leb_tells len (most - bytes)) (leb_tells (room_bytes room.waiting + len) room.most_bytes))
  where
    both : ((leb len (most - bytes) ≡ true) × (len ≤ most - bytes)) ⊎ ((leb len (most - bytes) ≡ false) × (most - bytes < len)) → ((leb (room_bytes room.waiting + len) room.most_bytes ≡ true) × (room_bytes room.waiting + len ≤ room.most_bytes)) ⊎ ((leb (room_bytes room.waiting + len) room.most_bytes ≡ false) × (room.most_bytes < room_bytes room.waiting + len)) → leb len (most - bytes) ≡ leb (room_bytes room.waiting + len) room.most_bytes
    both (inl a) (inl b) = a.0 ∙ sym b.0
    both (inr a) (inr b) = a.0 ∙ sym b.0
    both (inl a) (inr b) = absurd (omega arith)
    both (inr a) (inl b) = absurd (omega arith)

pub fits_not : (room : Room) (n m len : ℕ) → n ≡ length room.waiting → m ≡ room.most_blocks → m ≤ n → false ≡ fits_in room len
fits_not room n m len n_is m_is more = sym (ap (λ b. b && leb (room_bytes room.waiting + len) room.most_bytes) (false_from_ne_true _ (λ (t : leb (length room.waiting + 1) room.most_blocks ≡ true). absurd (omega (arith, leb-true (length room.waiting + 1) room.most_blocks t)))))

-- the blocks above a number
pub above_waiting : (num : ℕ) (xs : List Waiter) → waiting_of (filter (λ w. ltb num w.slip.num) xs) ≡ filter (λ s. ltb num s.num) (waiting_of xs)
above_waiting num xs = slips_filtered (λ w. ltb num w.slip.num) (λ s. ltb num s.num) xs (λ _. refl)

pub above_held : (num : ℕ) (xs : List Waiter) → held_of (filter (λ w. ltb num w.slip.num) xs) ≡ kept_beside (λ s. ltb num s.num) (waiting_of xs) (held_of xs)
above_held num xs = held_filtered (λ s. ltb num s.num) xs

pub above_slips : (num : ℕ) (xs : List Waiter) → slips_of (filter (λ w. ltb num w.slip.num) xs) ≡ filter (λ s. ltb num s.num) (slips_of xs)
above_slips num xs = map_filter (λ (w : Waiter). w.slip) (λ w. ltb num w.slip.num) (λ s. ltb num s.num) xs (all_of (λ w. ltb num w.slip.num ≡ ltb num w.slip.num) (λ _. refl) xs)

pub length_filtered : {X : Type 0} (p : X → Bool) (xs : List X) → length (filter p xs) ≤ length xs
length_filtered p [] = omega arith
length_filtered p (x ∷ xs) =
    let Q : Bool → Type 0 = λ b. length (cond b (x ∷ filter p xs) (filter p xs)) ≤ length (x ∷ xs) in
    elim (p x) as Q [ true ↦ omega (arith, length_filtered p xs) | false ↦ omega (arith, length_filtered p xs) ]

pub bytes_filtered : (p : Slip → Bool) (xs : List Slip) → room_bytes (filter p xs) ≤ room_bytes xs
bytes_filtered p [] = omega arith
bytes_filtered p (x ∷ xs) =
    let Q : Bool → Type 0 = λ b. room_bytes (cond b (x ∷ filter p xs) (filter p xs)) ≤ room_bytes (x ∷ xs) in
    elim (p x) as Q [ true ↦ omega (arith, bytes_filtered p xs) | false ↦ omega (arith, bytes_filtered p xs) ]

pub same_room : (w v : List Slip) (h k : List (Option Block)) (b n : ℕ) → w ≡ v → h ≡ k → room_of w h b n ≡ room_of v k b n
same_room w v h k b n e f = rw (e, f) refl

-- of the parents that are searched for, the one with the id
by_found : (Slip → Bool) → Option Slip → Bool
by_found f None = false
by_found f (Some p) = f p

any_absent : (f : Slip → Bool) (xs : List Slip) (j : List ℕ) → has_id xs j ≡ false → list_any (λ p. same_id p.id j && f p) xs ≡ false
any_absent f [] j h = refl
any_absent f (x ∷ xs) j h =
    let parts = or_parts (same_id x.id j) (has_id xs j) h in
    rw (parts.0, any_absent f xs j parts.1) refl

any_one : (f : Slip → Bool) (xs : List Slip) (j : List ℕ) → IsDistinct xs → (o : Option Slip) → find_id xs j ≡ o → list_any (λ p. same_id p.id j && f p) xs ≡ by_found f o
unfolding by_found
any_one f [] j d o e = rw (← e) refl
any_one f (x ∷ xs) j d o e =
    elim (cases_Bool (same_id x.id j)) [
      | inl same ↦ rw (same, any_absent f xs j (ap (has_id xs) (sym (same_id-true x.id j same)) ∙ d.0), ← e, same) (last (f x))
      | inr other ↦ rw other (any_one f xs j d.1 o (rw other at e))
    ]
  where
    last : (b : Bool) → (b || false) ≡ b
    last true = refl
    last false = refl

-- one link up: the parent has the id
pub descends_hit : (n : ℕ) (room : List Slip) (id : List ℕ) (s : Slip) → 0 < n → same_id s.parent_id id ≡ true → descends n room id s ≡ true
descends_hit zero room id s pos h = absurd (omega arith)
descends_hit (suc n) room id s pos h = rw h refl

-- the parent waits too
pub descends_on : (n m : ℕ) (room : List Slip) (id : List ℕ) (s p : Slip) → n ≡ m + 1 → same_id s.parent_id id ≡ false → find_id room s.parent_id ≡ Some p → IsDistinct room
    → descends n room id s ≡ descends m room id p
unfolding by_found
descends_on zero m room id s p e h found d = absurd (omega arith)
descends_on (suc n) m room id s p e h found d =
    let same : n ≡ m = omega arith in
    rw (h, any_one (descends n room id) room s.parent_id d (Some p) found) (ap (λ k. descends k room id p) same)

-- the parent is somewhere else
pub descends_end : (n : ℕ) (room : List Slip) (id : List ℕ) (s : Slip) → 0 < n → same_id s.parent_id id ≡ false → find_id room s.parent_id ≡ None → IsDistinct room
    → descends n room id s ≡ false
unfolding by_found
descends_end zero room id s pos h found d = absurd (omega arith)
descends_end (suc n) room id s pos h found d = rw (h, any_one (descends n room id) room s.parent_id d None found) refl

nothing_more : (b : Bool) → ((b && false) || false) ≡ false
nothing_more true = refl
nothing_more false = refl

-- no waiting block names the id
pub descends_none : (n : ℕ) (room : List Slip) (id : List ℕ) (s : Slip) → list_any (λ x. same_id x.parent_id id) room ≡ false → same_id s.parent_id id ≡ false → descends n room id s ≡ false
descends_none zero room id s h e = refl
descends_none (suc n) room id s h e = rw e (each (λ x other. descends_none n room id x h other) room h)
  where
    each : ((x : Slip) → same_id x.parent_id id ≡ false → descends n room id x ≡ false) → (xs : List Slip) → list_any (λ x. same_id x.parent_id id) xs ≡ false → list_any (λ p. same_id p.id s.parent_id && descends n room id p) xs ≡ false
    each none [] l = refl
    each none (x ∷ xs) l =
        let parts = or_parts (same_id x.parent_id id) (list_any (λ x. same_id x.parent_id id) xs) l in
        rw (none x parts.0, each none xs parts.1) (nothing_more (same_id x.id s.parent_id))

pub no_descendants : (room : List Slip) (id : List ℕ) → list_any (λ x. same_id x.parent_id id) room ≡ false → descendants room id ≡ 0
no_descendants room id h = each room h
  where
    each : (xs : List Slip) → list_any (λ x. same_id x.parent_id id) xs ≡ false → length (filter (descends (length room) room id) xs) ≡ 0
    each [] l = refl
    each (x ∷ xs) l =
        let parts = or_parts (same_id x.parent_id id) (list_any (λ x. same_id x.parent_id id) xs) l in
        rw (descends_none (length room) room id x h parts.0) (each xs parts.1)

-- the room with one more block
pub record IsPutIn (xs ys : List Waiter) (w : Waiter) : Type 0 where
  pub waiting : waiting_of ys ≡ w.slip ∷ waiting_of xs
  pub held : held_of ys ≡ kept_of w ∷ held_of xs
  pub distinct : IsDistinct (slips_of ys)
  pub own : All HasOwnSlip ys
  pub bytes : room_bytes (slips_of ys) ≡ room_bytes (slips_of xs) + w.slip.length
  pub len : length ys ≡ length xs + 1

pub put_in : (xs ys : List Waiter) (w : Waiter) → ys ≡ insert_key same_key xs w → has_id (waiting_of xs) w.slip.id ≡ false → IsDistinct (slips_of xs) → All HasOwnSlip xs → HasOwnSlip w → IsPutIn xs ys w
put_in xs ys w e fresh d all mine =
    let P : List Waiter → Type 0 = λ l. IsPutIn xs l w in
    let pushed : slips_of (xs ++ w ∷ []) ≡ slips_of xs ++ w.slip ∷ [] = map-append (λ (x : Waiter). x.slip) xs (w ∷ []) in
    subst P (sym (put_last xs ys w e fresh)) record {
      waiting = waiting_push xs w;
      held = held_push xs w;
      distinct = subst IsDistinct (sym pushed) (distinct_push (slips_of xs) w.slip d (sym (has_turned (slips_of xs) w.slip.id) ∙ fresh));
      own = All-push HasOwnSlip xs w all mine;
      bytes = ap room_bytes pushed ∙ bytes_append (slips_of xs) (w.slip ∷ []) ∙ omega arith;
      len = length_push xs w;
    }
