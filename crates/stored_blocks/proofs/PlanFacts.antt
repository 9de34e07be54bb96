-- What an index plans.
use Rattle.std.proofs.Common.{arith, ◌≡◌, ◌≤◌, ◌<◌, ◌+◌, ◌-◌, ◌/◌, ◌%◌, ℕ, suc, Bool, true, false, not, cond, List, [], ◌∷◌, map, take, drop, reverse, Option, Some, None, refl, sym, ◌∙◌, ap, subst, ltb, leb, ◌&&◌, ◌||◌, IsTrue}
use Rattle.std.specs.List.{AllByRecursion, filter, find, list_all, list_any, slice_get}
use Rattle.std.specs.List.Sorted.{IsNonDecreasingBy, IsPermutation}
use Rattle.std.specs.Option.{option_or}
use Rattle.std.proofs.lemmas.Bool.{and_parts, both_ways, le-leb}
use Rattle.std.proofs.lemmas.Option.{same_Some}
use Rattle.block_record.specs.declared.blocks.Slip.{Slip}
use Rattle.block_record.specs.Ids.{same_id}
use Rattle.block_tree.specs.Places.{slip_at}
use Rattle.chain_model.specs.Ancestry.{has_id, IsHistory}
use Rattle.chain_model.specs.Finality.{final_ancestry}
use Rattle.relay_model.specs.Offers.{tip_num}
use Rattle.relay_model.specs.Worlds.{World}
use Rattle.bundle_model.specs.Bundles.{base_of, finals_up, is_size, is_within}
use Rattle.bundle_model.specs.Members.{Among}
use Rattle.bundle_model.specs.Plans.{Plan, dead_below, first_unstored, is_dead, is_stored, last_stored, next_plan, plan_at, plan_dead, plan_first, plan_with}
use Rattle.bundle_model.proofs.public.BundleFacts.{base_is, finals_climb, num_within}
use Rattle.bundle_model.proofs.public.MemberFacts.{among_map, filter_among, among_filter, map_among, reverse-push, all_among}
use Rattle.fork_db.specs.Forks.{Forks}
use Rattle.stored_blocks.specs.declared.places.NumberedPlace.{NumberedPlace}
use Rattle.stored_blocks.specs.BundlePlans.{IsFresh, IsHeldAt, open_until, whole_plan}
use Rattle.stored_blocks.specs.Places.{Rises}
use Rattle.stored_blocks.specs.Stored.{Index, IsIndex, is_given_up, is_off, world_in}
use Rattle.stored_blocks.proofs.BundleLists.{begun_bundle, climbs_drop, from_base, last_begun, new_bundle, open_within}
use Rattle.stored_blocks.proofs.public.HeldFacts.{given_up_at}
use Rattle.stored_blocks.proofs.public.PathFacts.{count_find, filter_same, has_push}
use Rattle.stored_blocks.proofs.RisingFacts.{once_places, places_where, some_same, sorted_is, times_among, times_some, times_sorted, where_has, where_is, where_rises, where_slips}

pub size_some : (size : ℕ) → IsTrue (is_size size) → 0 < size
size_some size t = grind (arith, t)

-- a plan is one of two
pub next_parts : (w : World) → next_plan w ≡ option_or (whole_plan w (first_unstored w)) (plan_dead w (last_stored w))
next_parts w = go (first_unstored w)
  where
    go : (o : Option Slip) → plan_first w o ≡ option_or (whole_plan w o) (plan_dead w (last_stored w))
    go None = refl
    go (Some s) = by (leb p.below (tip_num w.history) && list_all (λ t. not (is_stored w t)) p.finals)
      where
        p : Plan
        p = plan_at w (base_of w.size s.num)

        by : (b : Bool) → cond b (Some p) (plan_dead w (last_stored w)) ≡ option_or (cond b (Some p) None) (plan_dead w (last_stored w))
        by true = refl
        by false = refl

-- the first final block that is not stored
pub first_at : (size : ℕ) (f : Forks) (i : Index) → IsIndex f i → slice_get (finals_up f.history) i.front ≡ first_unstored (world_in size f)
first_at size f i h = ap (slice_get (finals_up f.history)) h.taken.front ∙ count_find (is_given_up f) (finals_up f.history)

pub none_whole : (size : ℕ) (f : Forks) (i : Index) → IsIndex f i → slice_get (finals_up f.history) i.front ≡ None → whole_plan (world_in size f) (first_unstored (world_in size f)) ≡ None
none_whole size f i h e = ap (whole_plan (world_in size f)) (sym (first_at size f i h) ∙ e)

pub early_whole : (size : ℕ) (f : Forks) (i : Index) (s : Slip) → IsIndex f i → slice_get (finals_up f.history) i.front ≡ Some s → leb (base_of size s.num + size) (tip_num f.history) ≡ false
    → whole_plan (world_in size f) (first_unstored (world_in size f)) ≡ None
early_whole size f i s h e early = ap (whole_plan (world_in size f)) (sym (first_at size f i h) ∙ e) ∙ (rw early refl)

-- what is within, from the first that is not stored on
module _ (size : ℕ) (f : Forks) (i : Index) (s : Slip) (some : 0 < size) (history : IsHistory f.history) (h : IsIndex f i) (e : slice_get (finals_up f.history) i.front ≡ Some s) where
  abbrev base : ℕ
  base = base_of size s.num

  abbrev inside : List Slip
  inside = filter (is_within size (base_of size s.num)) (finals_up f.history)

  low : base_of size s.num ≤ s.num
  low = let n = num_within size s.num some in let b = base_is size s.num in omega (arith, n.0, b)

  high : s.num < base_of size s.num + size
  high = let n = num_within size s.num some in let b = base_is size s.num in omega (arith, n.1, b)

  whole_at : (b : Bool) → (leb (base_of size s.num + size) (tip_num f.history) && list_all (λ t. not (is_given_up f t)) inside) ≡ b
      → whole_plan (world_in size f) (first_unstored (world_in size f)) ≡ cond b (Some (plan_at (world_in size f) (base_of size s.num))) None
  whole_at b t = ap (whole_plan (world_in size f)) (sym (first_at size f i h) ∙ e) ∙ (rw t refl)

  pub begun_whole : list_any (λ t. leb (base_of size s.num) t.num) (take i.front (finals_up f.history)) ≡ true → whole_plan (world_in size f) (first_unstored (world_in size f)) ≡ None
  begun_whole any =
      let none = begun_bundle (is_given_up f) size (base_of size s.num) (finals_up f.history) i.front s (finals_climb f.history history) h.taken.front e high any in
      whole_at false (rw none (and_false (leb (base_of size s.num + size) (tip_num f.history))))
    where
      and_false : (b : Bool) → (b && false) ≡ false
      and_false true = refl
      and_false false = refl

  pub open_inside : list_any (λ t. leb (base_of size s.num) t.num) (take i.front (finals_up f.history)) ≡ false
      → open_until (is_given_up f) (base_of size s.num + size) (drop i.front (finals_up f.history)) ≡ cond (list_all (λ t. not (is_given_up f t)) inside) (Some inside) None
  open_inside fresh =
      let c = finals_climb f.history history in
      let same = new_bundle size (base_of size s.num) (finals_up f.history) i.front fresh in
      let r = open_within (is_given_up f) size (base_of size s.num) (drop i.front (finals_up f.history)) (climbs_drop (finals_up f.history) i.front c) (from_base (finals_up f.history) i.front (base_of size s.num) s c e low) in
      subst (λ (l : List Slip). open_until (is_given_up f) (base_of size s.num + size) (drop i.front (finals_up f.history)) ≡ cond (list_all (λ t. not (is_given_up f t)) l) (Some l) None) (sym same) r

  pub broken_whole : list_any (λ t. leb (base_of size s.num) t.num) (take i.front (finals_up f.history)) ≡ false
      → open_until (is_given_up f) (base_of size s.num + size) (drop i.front (finals_up f.history)) ≡ None → whole_plan (world_in size f) (first_unstored (world_in size f)) ≡ None
  broken_whole fresh none = go (list_all (λ t. not (is_given_up f t)) inside) refl
    where
      go : (b : Bool) → list_all (λ t. not (is_given_up f t)) inside ≡ b → whole_plan (world_in size f) (first_unstored (world_in size f)) ≡ None
      go true t = absurd (filled (sym (open_inside fresh ∙ ap (λ (c : Bool). cond c (Some inside) None) t) ∙ none))
        where
          filled : Some inside ≡ None → ⊥
          filled m = grind (arith, m)
      go false t = whole_at false (rw t (and_false (leb (base_of size s.num + size) (tip_num f.history))))
        where
          and_false : (b : Bool) → (b && false) ≡ false
          and_false true = refl
          and_false false = refl

  pub whole_is : (xs : List Slip) → leb (base_of size s.num + size) (tip_num f.history) ≡ true → list_any (λ t. leb (base_of size s.num) t.num) (take i.front (finals_up f.history)) ≡ false
      → open_until (is_given_up f) (base_of size s.num + size) (drop i.front (finals_up f.history)) ≡ Some xs
      → (whole_plan (world_in size f) (first_unstored (world_in size f)) ≡ Some (plan_at (world_in size f) (base_of size s.num))) × (xs ≡ inside)
  whole_is xs due fresh is = go (list_all (λ t. not (is_given_up f t)) inside) refl
    where
      go : (b : Bool) → list_all (λ t. not (is_given_up f t)) inside ≡ b → (whole_plan (world_in size f) (first_unstored (world_in size f)) ≡ Some (plan_at (world_in size f) (base_of size s.num))) × (xs ≡ inside)
      go true t = (whole_at true (rw (due, t) refl), same_Some xs inside (sym is ∙ open_inside fresh ∙ ap (λ (c : Bool). cond c (Some inside) None) t))
      go false t = absurd (filled (sym is ∙ open_inside fresh ∙ ap (λ (c : Bool). cond c (Some inside) None) t))
        where
          filled : Some xs ≡ None → ⊥
          filled m = grind (arith, m)

-- an id on a path that is turned round
has_reverse : (xs : List Slip) (id : List ℕ) → has_id (reverse xs) id ≡ has_id xs id
has_reverse [] id = refl
has_reverse (x ∷ xs) id =
    ap (λ l. has_id l id) (reverse-push x xs) ∙ has_push (reverse xs) x id ∙ ap (λ b. b || same_id x.id id) (has_reverse xs id) ∙ turn (has_id xs id) (same_id x.id id)
  where
    turn : (a b : Bool) → (a || b) ≡ (b || a)
    turn true true = refl
    turn true false = refl
    turn false true = refl
    turn false false = refl

-- the dead blocks below an end
abbrev passing : Forks → ℕ → Slip → Bool
passing f below s = is_off (finals_up f.history) (is_given_up f) s && ltb s.num below

pub dead_passing : (size : ℕ) (f : Forks) (below : ℕ) (s : Slip) → passing f below s ≡ is_dead (world_in size f) below s
dead_passing size f below s =
    let e = has_reverse (final_ancestry f.history) s.id in
    turn (has_id (finals_up f.history) s.id) (has_id (final_ancestry f.history) s.id) (is_given_up f s) (ltb s.num below) e
  where
    turn : (a a' b c : Bool) → a ≡ a' → ((not a && not b) && c) ≡ ((not a' && c) && not b)
    turn true true b c e = refl
    turn true false b c e = absurd (both_ways _ e refl)
    turn false true b c e = absurd (both_ways _ refl e)
    turn false false true true e = refl
    turn false false true false e = refl
    turn false false false true e = refl
    turn false false false false e = refl

abbrev low_places : Index → ℕ → List ℕ
low_places i below = map (λ x. x.place) (filter (λ x. ltb x.num below) i.off)

-- such a place is that of a dead block
place_dead : (f : Forks) (i : Index) (below n : ℕ) → IsIndex f i → Among (low_places i below) n → (t : Slip) × (slip_at f.history n ≡ Some t) × (passing f below t ≡ true)
place_dead f i below n h k =
    let m = map_among (λ (x : NumberedPlace). x.place) (filter (λ x. ltb x.num below) i.off) n k in
    let p = filter_among (λ (x : NumberedPlace). ltb x.num below) i.off m.0 m.1 in
    let o = h.taken.off.own m.0 p.0 in
    let passes = o.passes in
    let num : ltb o.slip.num below ≡ true = ap (λ k. ltb k below) o.num ∙ p.1 in
    (o.slip, ap (slip_at f.history) (sym m.2) ∙ o.here, rw (passes, num) refl)

dead_place : (f : Forks) (i : Index) (below n : ℕ) (t : Slip) → IsIndex f i → slip_at f.history n ≡ Some t → passing f below t ≡ true → Among (low_places i below) n
dead_place f i below n t h here e =
    let parts = and_parts (is_off (finals_up f.history) (is_given_up f) t) (ltb t.num below) e in
    let low = Rattle.block_tree.proofs.public.PlaceFacts.slip_at_within f.history n t here in
    let w = h.whole in
    let there = h.taken.off.all n t (omega (arith, low, w)) here parts.0 in
    among_map (λ (x : NumberedPlace). x.place) (filter (λ x. ltb x.num below) i.off) (record { num = t.num; place = n }) (among_filter (λ (x : NumberedPlace). ltb x.num below) i.off (record { num = t.num; place = n }) there parts.1)

same_nums : (f : Forks) (i : Index) → IsIndex f i → (x y : NumberedPlace) → Among i.off x → Among i.off y → x.place ≡ y.place → x.num ≡ y.num
same_nums f i h x y hx hy e =
    let a = h.taken.off.own x hx in
    let b = h.taken.off.own y hy in
    let same = same_Some a.slip b.slip (sym a.here ∙ ap (slip_at f.history) e ∙ b.here) in
    sym a.num ∙ ap (λ (s : Slip). s.num) same ∙ b.num

-- sorted, they are the places of the dead blocks in the order of the history
pub dead_is : (size : ℕ) (f : Forks) (i : Index) (below : ℕ) (ps : List ℕ) (xs : List Slip) → IsIndex f i → Rises i.off → IsPermutation (low_places i below) ps → IsNonDecreasingBy (λ x. x) ps
    → map Some xs ≡ map (slip_at f.history) ps → xs ≡ dead_below (world_in size f) below
dead_is size f i below ps xs h rises perm up e =
    let once = once_places i.off (λ x. ltb x.num below) rises (same_nums f i h) in
    let is = sorted_is (low_places i below) ps (places_where (passing f below) f.history) once perm up (where_rises (passing f below) f.history)
    (λ n k. let w = where_is (passing f below) f.history n k in dead_place f i below n w.0 h w.1 w.2)
    (λ n k. let w = place_dead f i below n h k in where_has (passing f below) f.history n w.0 w.1 w.2) in
    some_same xs (filter (is_dead (world_in size f) below) (reverse f.history))
    (e ∙ ap (map (slip_at f.history)) is ∙ where_slips (passing f below) f.history ∙ ap (map Some) (filter_same (passing f below) (is_dead (world_in size f) below) (reverse f.history) (λ s k. dead_passing size f below s)))

-- and their payloads are held
pub places_held : (f : Forks) (i : Index) (below : ℕ) (ps : List ℕ) → IsHistory f.history → IsIndex f i → IsPermutation (low_places i below) ps → AllByRecursion (IsHeldAt f) ps
places_held f i below ps history h perm = all_among (IsHeldAt f) ps held
  where
    held : (n : ℕ) → Among ps n → IsHeldAt f n
    held n k =
        let count = times_sorted n (low_places i below) ps perm in
        let there = times_among n (low_places i below) (let s = times_some n ps k in omega (arith, s, count)) in
        let d = place_dead f i below n h there in
        let off = (and_parts (is_off (finals_up f.history) (is_given_up f) d.0) (ltb d.0.num below) d.2).0 in
        let open' = (Rattle.stored_blocks.proofs.IndexFacts.off_parts (finals_up f.history) (is_given_up f) d.0 off).1 in
        record { low = Rattle.block_tree.proofs.public.PlaceFacts.slip_at_within f.history n d.0 d.1; held = sym (given_up_at f n d.0 history d.1) ∙ open' }

-- what is_begun asks
pub begun_is : (f : Forks) (i : Index) (base : ℕ) (y : Slip) → IsHistory f.history → 0 < i.front → slice_get (finals_up f.history) (i.front - 1) ≡ Some y
    → list_any (λ s. leb base s.num) (take i.front (finals_up f.history)) ≡ leb base y.num
begun_is f i base y history some e =
    let m : i.front ≡ suc (i.front - 1) = omega (arith, some) in
    ap (λ n. list_any (λ s. leb base s.num) (take n (finals_up f.history))) m ∙ last_begun base (finals_up f.history) (i.front - 1) y (finals_climb f.history history) e

pub begun_there : (f : Forks) (i : Index) → IsIndex f i → 0 < i.front → slice_get (finals_up f.history) (i.front - 1) ≡ None → ⊥
begun_there f i h some e =
    let le = Rattle.stored_blocks.proofs.IndexFacts.past_finals f (i.front - 1) e in
    let ef = h.taken.front in
    let low = Rattle.stored_blocks.proofs.public.PathFacts.count_low (is_given_up f) (finals_up f.history) in
    omega (arith, le, ef, low, some)

-- the last stored final block
pub last_at : (size : ℕ) (f : Forks) (i : Index) → IsIndex f i → Rattle.block_tree.specs.Places.slip_of f.history i.last ≡ last_stored (world_in size f)
last_at size f i h = h.taken.last ∙ ap (find (is_given_up f)) (Rattle.std.proofs.lemmas.List.reverse-reverse (final_ancestry f.history))

pub base_multiple : (size n : ℕ) → base_of size n % size ≡ 0
base_multiple size n = ap (λ k. k % size) (base_is size n) ∙ Rattle.std.proofs.Math.Nat.mul-mod_left (n / size) size

-- a late plan
pub early_late : (size : ℕ) (f : Forks) (s : Slip) → last_stored (world_in size f) ≡ Some s → leb (base_of size s.num + size) (tip_num f.history) ≡ false → plan_dead (world_in size f) (last_stored (world_in size f)) ≡ None
early_late size f s e early = ap (plan_dead (world_in size f)) e ∙ (rw early refl)

pub late_is : (size : ℕ) (f : Forks) (s : Slip) → last_stored (world_in size f) ≡ Some s → leb (base_of size s.num + size) (tip_num f.history) ≡ true
    → plan_dead (world_in size f) (last_stored (world_in size f)) ≡ plan_with size (base_of size s.num) (dead_below (world_in size f) (base_of size s.num + size))
late_is size f s e due = ap (plan_dead (world_in size f)) e ∙ (rw due refl)

pub late_some : (size base : ℕ) (dead : List Slip) → (dead ≡ [] → ⊥) → plan_with size base dead ≡ Some (record { size = size; base = base; finals = []; dead = dead; below = base + size })
late_some size base [] some = absurd (some refl)
late_some size base (s ∷ dead) some = refl

-- a bundle that is due and fresh: broken, or planned
pub fresh_broken : (size : ℕ) (f : Forks) (i : Index) (base : ℕ) → 0 < size → IsHistory f.history → IsIndex f i → IsFresh (world_in size f) i.front base
    → open_until (is_given_up f) (base + size) (drop i.front (finals_up f.history)) ≡ None → whole_plan (world_in size f) (first_unstored (world_in size f)) ≡ None
fresh_broken size f i base some history h fresh none =
    let s = fresh.first in
    let e = first_at size f i h ∙ fresh.first_is in
    let is = fresh.base_is in
    let new = subst (λ b. list_any (λ t. leb b t.num) (take i.front (finals_up f.history)) ≡ false) is fresh.fresh in
    broken_whole size f i s some history h e new (subst (λ b. open_until (is_given_up f) (b + size) (drop i.front (finals_up f.history)) ≡ None) is none)

pub fresh_whole : (size : ℕ) (f : Forks) (i : Index) (base : ℕ) (xs dead : List Slip) → 0 < size → IsHistory f.history → IsIndex f i → IsFresh (world_in size f) i.front base
    → Some xs ≡ open_until (is_given_up f) (base + size) (drop i.front (finals_up f.history)) → dead ≡ dead_below (world_in 0 f) (base + size)
    → Some (record { size = size; base = base; finals = xs; dead = dead; below = base + size }) ≡ whole_plan (world_in size f) (first_unstored (world_in size f))
fresh_whole size f i base xs dead some history h fresh is all =
    let s = fresh.first in
    let e = first_at size f i h ∙ fresh.first_is in
    let based : base ≡ base_of size s.num = fresh.base_is in
    let new = subst (λ b. list_any (λ t. leb b t.num) (take i.front (finals_up f.history)) ≡ false) based fresh.fresh in
    let due = le-leb (base_of size s.num + size) (tip_num f.history) (subst (λ b. b + size ≤ tip_num f.history) based fresh.due) in
    let r = whole_is size f i s some history h e xs due new (subst (λ b. open_until (is_given_up f) (b + size) (drop i.front (finals_up f.history)) ≡ Some xs) based (sym is)) in
    sym (r.0 ∙ made base (base_of size s.num) xs dead based r.1 all)
  where
    made : (b c : ℕ) (ys ds : List Slip) → b ≡ c → ys ≡ filter (is_within size c) (finals_up f.history) → ds ≡ dead_below (world_in 0 f) (b + size)
        → Some (plan_at (world_in size f) c) ≡ Some (record { size = size; base = b; finals = ys; dead = ds; below = b + size })
    made b c ys ds e1 e2 e3 = rw (e2, e3, e1) refl
