-- A head and its rivals, with one more block.
use Rattle.std.proofs.Common.{arith, ◌≡◌, ◌<◌, ◌≤◌, ◌⊎◌, inl, inr, ℕ, true, false, suc, zero, List, [], ◌∷◌, length, Some, refl, sym, ◌∙◌, ap, subst, IsSomeAnd, slice_index_or}
use Rattle.std.specs.List.{All, Contains}
use Rattle.std.specs.List.Sorted.{IsPermutation}
use Rattle.std.specs.BinaryHeap.{IsUpperBound}
use Rattle.std.specs.Ordering.{is_lt, nat_cmp, ordering_then}
use Rattle.std.proofs.lemmas.List.Elements.{All-cons, All-nil, All-contains, All-from_recursion}
use Rattle.std.proofs.lemmas.List.Sorted.{All-permutation, Contains-permutation}
use Rattle.std.proofs.lemmas.Option.{same_Some}
use Rattle.std.proofs.lemmas.Bool.{both_ways}
use Rattle.block_record.specs.declared.blocks.Slip.{Slip}
use Rattle.chain_model.specs.Ancestry.{IsHistory}
use Rattle.chain_model.specs.Finality.{on_path, ClaimsAgree}
use Rattle.chain_laws.proofs.public.Lines.{IsHistory-rest, some_and}
use Rattle.chain_laws.proofs.public.Roots.{has_tip}
use Rattle.chain_laws.proofs.public.Meeting.{itself_on_path}
use Rattle.block_tree.specs.Places.{slip_at}
use Rattle.block_tree.proofs.public.PlaceFacts.{slip_at_within, slip_at_past, slip_at_top}
use Rattle.block_tree.proofs.public.ParentFacts.{found_at}
use Rattle.fork_db.specs.declared.heads.Rival.{Rival}
use Rattle.fork_db.specs.Heads.{IsBest, holds_final_tip, IsRivalOf, HoldsTipAt, IsUnderRival, RanksAll, IsRanked, rival_cmp}
use Rattle.fork_db.proofs.HeadFacts.{best_greatest, best_new, best_kept, new_or_old, on_path_through, passes_through, passed_before, tip_stays, passes_still, under_num}
use Rattle.fork_db.proofs.public.ClaimFacts.{on_path_past}

-- a fact of the block at a place
pub some_at : (newest : List Slip) (place : ℕ) (P : Slip → Type 0) (y : Slip) → slip_at newest place ≡ Some y → P y → IsSomeAnd (slip_at newest place) P
some_at newest place P y e p = subst (λ o. IsSomeAnd o P) (sym e) p

pub is_at : (newest : List Slip) (place : ℕ) (P : Slip → Type 0) (y : Slip) → slip_at newest place ≡ Some y → IsSomeAnd (slip_at newest place) P → P y
is_at newest place P y e h = subst (λ o. IsSomeAnd o P) e h

-- the rivals of a heap
pub front : (x : Rival) (xs : List Rival) → Contains (x ∷ xs) x
front x xs = (0, omega arith, refl)

pub later : (y x : Rival) (xs : List Rival) → Contains xs x → Contains (y ∷ xs) x
later y x xs h = let lt = h.1 in (suc h.0, omega arith, h.2)

pub front_or_later : (y x : Rival) (xs : List Rival) → Contains (y ∷ xs) x → (y ≡ x) ⊎ Contains xs x
front_or_later y x xs (zero, lt, e) = inl e
front_or_later y x xs (suc k, lt, e) = inr (k, omega arith, e)

pub nothing_in : (x : Rival) → Contains [] x → ⊥
nothing_in x h = let lt = h.1 in omega arith

-- what is not above in the order of rivals
in_order : (a b p q : ℕ) → is_lt (ordering_then (nat_cmp a b) (nat_cmp q p)) ≡ false → (b < a) ⊎ ((b ≡ a) × (p ≤ q))
in_order a b p q e = grind arith

below_best : (r w : Rival) (rest : List Rival) → IsUpperBound rival_cmp r rest → Contains rest w → (w.num < r.num) ⊎ ((w.num ≡ r.num) × (r.place.0 ≤ w.place.0))
below_best r w rest up has =
    in_order r.num w.num r.place.0 w.place.0
    (All-contains (λ (y : Rival). is_lt (rival_cmp r y) ≡ false) rest w (All-from_recursion (λ (y : Rival). is_lt (rival_cmp r y) ≡ false) rest up) has)

-- a rival stays one
own_past : (s : Slip) (older : List Slip) (r : Rival) → IsRivalOf older r → IsRivalOf (s ∷ older) r
own_past s older r h =
    let y = some_and (slip_at older r.place.0) (λ x. x.num ≡ r.num) h in
    some_at (s ∷ older) r.place.0 (λ x. x.num ≡ r.num) y.0 (slip_at_past s older r.place.0 (slip_at_within older r.place.0 y.0 y.1) ∙ y.1) y.2

all_own_past : (s : Slip) (older : List Slip) (rivals : List Rival) → All (IsRivalOf older) rivals → All (IsRivalOf (s ∷ older)) rivals
all_own_past s older rivals h = λ k d lt. own_past s older (slice_index_or rivals k d) (h k d lt)

-- with one more rival
pub own_more : (s : Slip) (older : List Slip) (rivals more : List Rival) (r : Rival) → All (IsRivalOf older) rivals → IsRivalOf (s ∷ older) r → IsPermutation (r ∷ rivals) more → All (IsRivalOf (s ∷ older)) more
own_more s older rivals more r all own moved = All-permutation (IsRivalOf (s ∷ older)) (r ∷ rivals) more moved (All-cons (IsRivalOf (s ∷ older)) r rivals own (all_own_past s older rivals all))

has_new : (rivals more : List Rival) (r : Rival) → IsPermutation (r ∷ rivals) more → Contains more r
has_new rivals more r moved = Contains-permutation (r ∷ rivals) more r moved (front r rivals)

has_old : (rivals more : List Rival) (r w : Rival) → IsPermutation (r ∷ rivals) more → Contains rivals w → Contains more w
has_old rivals more r w moved has = Contains-permutation (r ∷ rivals) more w moved (later r w rivals has)

-- a block under a rival stays under it
under_past : (s : Slip) (older : List Slip) (rivals more : List Rival) (x : Slip) → IsHistory (s ∷ older) → ((w : Rival) → Contains rivals w → Contains more w) → IsUnderRival older rivals x → IsUnderRival (s ∷ older) more x
under_past s older rivals more x history kept u =
    let rest = IsHistory-rest s older history in
    let y = some_and (slip_at older u.0.place.0) (λ z. on_path older x z ≡ true) u.2 in (
      u.0,
      kept u.0 u.1,
      some_at (s ∷ older) u.0.place.0 (λ z. on_path (s ∷ older) x z ≡ true) y.0
          (slip_at_past s older u.0.place.0 (slip_at_within older u.0.place.0 y.0 y.1) ∙ y.1)
          (on_path_past s older x y.0 history (found_at older u.0.place.0 y.0 rest y.1) ∙ y.2),
    )

-- the newest block is on its own path
newest_on : (s : Slip) (older : List Slip) (x : Slip) → IsHistory (s ∷ older) → s ≡ x → on_path (s ∷ older) x s ≡ true
newest_on s older x history same =
    subst (λ (y : Slip). on_path (s ∷ older) y s ≡ true) same (itself_on_path (s ∷ older) s (found_at (s ∷ older) (length older) s history (slip_at_top s older)))

-- the newest block is the head
newest_ranks : (s : Slip) (older : List Slip) (place : ℕ) (rivals more : List Rival) → IsHistory (s ∷ older) → ClaimsAgree (s ∷ older) → (ranks : RanksAll older place rivals)
    → holds_final_tip (s ∷ older) s ≡ true → ranks.top.num < s.num → All (IsRivalOf (s ∷ older)) more
    → ((x : Slip) → on_path (s ∷ older) x ranks.top ≡ true → (on_path (s ∷ older) x s ≡ true) ⊎ IsUnderRival (s ∷ older) more x)
    → ((w : Rival) → Contains rivals w → Contains more w) → RanksAll (s ∷ older) (length older) more
newest_ranks s older place rivals more history agreed ranks good above own under kept =
    let rest = IsHistory-rest s older history in
    let best = best_new (holds_final_tip older) (holds_final_tip (s ∷ older)) s older place ranks.top (passed_before s older history agreed) good above ranks.best in
    let found = found_at older place ranks.top rest ranks.best.here in
    record {
      top = s;
      best = best;
      is_head = best_greatest (holds_final_tip (s ∷ older)) (s ∷ older) (length older) s best;
      own = own;
      covers = λ at x e f. elim (new_or_old s older at x e) [
        | inl same ↦ inl (newest_on s older x history same.1)
        | inr old ↦ elim (ranks.covers at x old (passed_before s older history agreed at x old f)) [
          | inl on ↦ under x (on_path_past s older x ranks.top history found ∙ on)
          | inr u ↦ inr (under_past s older rivals more x history kept u)
        ]
      ];
    }

-- a block on the path of the newest is below it
below_newest : (s : Slip) (older : List Slip) (place : ℕ) (x : Slip) → IsHistory (s ∷ older) → slip_at older place ≡ Some x → on_path (s ∷ older) x s ≡ true → x.num < s.num
below_newest s older place x history e on =
    let lt = slip_at_within older place x e in
    elim (under_num (s ∷ older) place (length older) x s history (slip_at_past s older place lt ∙ e) (slip_at_top s older) on) [
      | inl less ↦ less
      | inr same ↦ absurd (let f : ⊥ = omega (arith, same.1) in f)
    ]

-- a first block is the head
root_ranks : (s : Slip) → IsHistory (s ∷ []) → holds_final_tip (s ∷ []) s ≡ true → RanksAll (s ∷ []) 0 []
root_ranks s history good =
    let best : IsBest (holds_final_tip (s ∷ [])) (s ∷ []) 0 s = record {
      here = refl;
      good = good;
      most = λ at x e f. elim (new_or_old s [] at x e) [
        | inl same ↦ inr (ap (λ (y : Slip). y.num) (sym same.1), omega arith)
        | inr old ↦ absurd (no_slip at x old)
      ];
    } in
    record {
      top = s;
      best = best;
      is_head = best_greatest (holds_final_tip (s ∷ [])) (s ∷ []) 0 s best;
      own = All-nil (IsRivalOf (s ∷ []));
      covers = λ at x e f. elim (new_or_old s [] at x e) [
        | inl same ↦ inl (newest_on s [] x history same.1)
        | inr old ↦ absurd (no_slip at x old)
      ];
    }
  where
    no_slip : (at : ℕ) (x : Slip) → slip_at [] at ≡ Some x → ⊥
    no_slip at x e = grind arith

-- a child of the head becomes the head
pub child_ranks : (s : Slip) (older : List Slip) (place : ℕ) (rivals : List Rival) → IsHistory (s ∷ older) → ClaimsAgree (s ∷ older) → IsRanked older place rivals → holds_final_tip (s ∷ older) s ≡ true
    → ((x y : Slip) → slip_at (s ∷ older) place ≡ Some x → slip_at (s ∷ older) (length older) ≡ Some y → on_path (s ∷ older) x y ≡ true) → IsRanked (s ∷ older) (length older) rivals
child_ranks s [] place rivals history agreed ranked good on = subst (RanksAll (s ∷ []) 0) (sym ranked.1) (root_ranks s history good)
child_ranks s (t ∷ older) place rivals history agreed ranks good on =
    let lt = slip_at_within (t ∷ older) place ranks.top ranks.best.here in
    let top_on = on ranks.top s (slip_at_past s (t ∷ older) place lt ∙ ranks.best.here) (slip_at_top s (t ∷ older)) in
    newest_ranks s (t ∷ older) place rivals rivals history agreed ranks good (below_newest s (t ∷ older) place ranks.top history ranks.best.here top_on) (all_own_past s (t ∷ older) rivals ranks.own)
    (λ x x_on. inl (on_path_through (s ∷ t ∷ older) x ranks.top s history x_on top_on)) (λ w has. has)

-- the number of a rival is that of its block
num_of : (newest : List Slip) (place : ℕ) (r : Rival) (y : Slip) → IsRivalOf newest r → r.place.0 ≡ place → slip_at newest place ≡ Some y → y.num ≡ r.num
num_of newest place r y own same e = is_at newest r.place.0 (λ x. x.num ≡ r.num) y (ap (slip_at newest) same ∙ e) own

-- a higher block becomes the head, and the head before a rival
pub higher_ranks : (s t : Slip) (older : List Slip) (place : ℕ) (rivals more : List Rival) (old new : Rival) → IsHistory (s ∷ t ∷ older) → ClaimsAgree (s ∷ t ∷ older) → IsRanked (t ∷ older) place rivals
    → holds_final_tip (s ∷ t ∷ older) s ≡ true → IsRivalOf (s ∷ t ∷ older) old → old.place.0 ≡ place → IsRivalOf (s ∷ t ∷ older) new → new.place.0 ≡ length (t ∷ older) → old.num < new.num
    → IsPermutation (old ∷ rivals) more → IsRanked (s ∷ t ∷ older) (length (t ∷ older)) more
higher_ranks s t older place rivals more old new history agreed ranks good own at own_new at_new less moved =
    let lt = slip_at_within (t ∷ older) place ranks.top ranks.best.here in
    let here = slip_at_past s (t ∷ older) place lt ∙ ranks.best.here in
    let above : ranks.top.num < s.num = omega (arith, less, num_of (s ∷ t ∷ older) place old ranks.top own at here, num_of (s ∷ t ∷ older) (length (t ∷ older)) new s own_new at_new (slip_at_top s (t ∷ older))) in
    newest_ranks s (t ∷ older) place rivals more history agreed ranks good above (own_more s (t ∷ older) rivals more old ranks.own own moved)
    (λ x on. inr (old, has_new rivals more old moved, some_at (s ∷ t ∷ older) old.place.0 (λ z. on_path (s ∷ t ∷ older) x z ≡ true) ranks.top (ap (slip_at (s ∷ t ∷ older)) at ∙ here) on))
    (λ w has. has_old rivals more old w moved has)

-- the head stays, and the newest block is under a rival where its path has the tip
kept_ranks : (s : Slip) (older : List Slip) (place : ℕ) (rivals more : List Rival) → IsHistory (s ∷ older) → ClaimsAgree (s ∷ older) → (ranks : RanksAll older place rivals)
    → holds_final_tip (s ∷ older) ranks.top ≡ true → (holds_final_tip (s ∷ older) s ≡ true → (s.num ≤ ranks.top.num) × IsUnderRival (s ∷ older) more s) → All (IsRivalOf (s ∷ older)) more
    → ((w : Rival) → Contains rivals w → Contains more w) → RanksAll (s ∷ older) place more
kept_ranks s older place rivals more history agreed ranks good newest own kept =
    let rest = IsHistory-rest s older history in
    let best = best_kept (holds_final_tip older) (holds_final_tip (s ∷ older)) s older place ranks.top (passed_before s older history agreed) good (λ f. (newest f).0) ranks.best in
    let found = found_at older place ranks.top rest ranks.best.here in
    record {
      top = ranks.top;
      best = best;
      is_head = best_greatest (holds_final_tip (s ∷ older)) (s ∷ older) place ranks.top best;
      own = own;
      covers = λ at x e f. elim (new_or_old s older at x e) [
        | inl same ↦ inr (subst (IsUnderRival (s ∷ older) more) same.1 (newest (subst (λ (y : Slip). holds_final_tip (s ∷ older) y ≡ true) (sym same.1) f)).1)
        | inr old ↦ elim (ranks.covers at x old (passed_before s older history agreed at x old f)) [
          | inl on ↦ inl (on_path_past s older x ranks.top history found ∙ on)
          | inr u ↦ inr (under_past s older rivals more x history kept u)
        ]
      ];
    }

-- the newest block is under the rival at its place
newest_under : (s : Slip) (older : List Slip) (rivals more : List Rival) (new : Rival) → IsHistory (s ∷ older) → new.place.0 ≡ length older → IsPermutation (new ∷ rivals) more → IsUnderRival (s ∷ older) more s
newest_under s older rivals more new history at moved =
    (new, has_new rivals more new moved, some_at (s ∷ older) new.place.0 (λ z. on_path (s ∷ older) s z ≡ true) s (ap (slip_at (s ∷ older)) at ∙ slip_at_top s older) (newest_on s older s history refl))

-- a block that is not higher becomes a rival
pub rival_ranks : (s t : Slip) (older : List Slip) (place : ℕ) (rivals more : List Rival) (old new : Rival) → IsHistory (s ∷ t ∷ older) → ClaimsAgree (s ∷ t ∷ older) → IsRanked (t ∷ older) place rivals
    → HoldsTipAt (s ∷ t ∷ older) place → IsRivalOf (s ∷ t ∷ older) old → old.place.0 ≡ place → IsRivalOf (s ∷ t ∷ older) new → new.place.0 ≡ length (t ∷ older) → new.num ≤ old.num
    → IsPermutation (new ∷ rivals) more → IsRanked (s ∷ t ∷ older) place more
rival_ranks s t older place rivals more old new history agreed ranks holds own at own_new at_new less moved =
    let lt = slip_at_within (t ∷ older) place ranks.top ranks.best.here in
    let here = slip_at_past s (t ∷ older) place lt ∙ ranks.best.here in
    let good = is_at (s ∷ t ∷ older) place (λ x. holds_final_tip (s ∷ t ∷ older) x ≡ true) ranks.top here holds in
    let low : s.num ≤ ranks.top.num = omega (arith, less, num_of (s ∷ t ∷ older) place old ranks.top own at here, num_of (s ∷ t ∷ older) (length (t ∷ older)) new s own_new at_new (slip_at_top s (t ∷ older))) in
    kept_ranks s (t ∷ older) place rivals more history agreed ranks good (λ _. (low, newest_under s (t ∷ older) rivals more new history at_new moved)) (own_more s (t ∷ older) rivals more new ranks.own own_new moved)
    (λ w has. has_old rivals more new w moved has)

-- a block whose path has not the tip changes nothing
pub off_ranks : (s : Slip) (older : List Slip) (place : ℕ) (rivals : List Rival) → IsHistory (s ∷ older) → ClaimsAgree (s ∷ older) → IsRanked older place rivals → holds_final_tip (s ∷ older) s ≡ false → IsRanked (s ∷ older) place rivals
off_ranks s [] place rivals history agreed ranked miss = absurd (has_tip s [] history (tip_stays s [] history miss))
off_ranks s (t ∷ older) place rivals history agreed ranks miss =
    let rest = IsHistory-rest s (t ∷ older) history in
    let good = passes_still s (t ∷ older) history (tip_stays s (t ∷ older) history miss) ranks.top (found_at (t ∷ older) place ranks.top rest ranks.best.here) ranks.best.good in
    kept_ranks s (t ∷ older) place rivals rivals history agreed ranks good (λ f. absurd (both_ways _ miss f)) (all_own_past s (t ∷ older) rivals ranks.own) (λ w has. has)

-- where the tip leaves the path of the head, each block whose path has it is under a rival
pub all_under : (s t : Slip) (older : List Slip) (place : ℕ) (rivals more : List Rival) (new : Rival) → IsHistory (s ∷ t ∷ older) → ClaimsAgree (s ∷ t ∷ older) → IsRanked (t ∷ older) place rivals
    → (HoldsTipAt (s ∷ t ∷ older) place → ⊥) → new.place.0 ≡ length (t ∷ older) → IsPermutation (new ∷ rivals) more
    → (at : ℕ) (x : Slip) → slip_at (s ∷ t ∷ older) at ≡ Some x → holds_final_tip (s ∷ t ∷ older) x ≡ true → IsUnderRival (s ∷ t ∷ older) more x
all_under s t older place rivals more new history agreed ranks off at_new moved at x e f =
    let rest = IsHistory-rest s (t ∷ older) history in
    let lt = slip_at_within (t ∷ older) place ranks.top ranks.best.here in
    let here = slip_at_past s (t ∷ older) place lt ∙ ranks.best.here in
    let found = found_at (t ∷ older) place ranks.top rest ranks.best.here in
    elim (new_or_old s (t ∷ older) at x e) [
      | inl same ↦ subst (IsUnderRival (s ∷ t ∷ older) more) same.1 (newest_under s (t ∷ older) rivals more new history at_new moved)
      | inr old ↦ elim (ranks.covers at x old (passed_before s (t ∷ older) history agreed at x old f)) [
        | inl on ↦
            let good = passes_through (s ∷ t ∷ older) x ranks.top history f (on_path_past s (t ∷ older) x ranks.top history found ∙ on) in
            absurd (off (some_at (s ∷ t ∷ older) place (λ y. holds_final_tip (s ∷ t ∷ older) y ≡ true) ranks.top here good))
        | inr u ↦ under_past s (t ∷ older) rivals more x history (λ w has. has_old rivals more new w moved has) u
      ]
    ]

-- the rival that a block is under holds the tip where the block's path has it
under_holds : (newest : List Slip) (x : Slip) (w : Rival) → IsHistory newest → holds_final_tip newest x ≡ true → IsSomeAnd (slip_at newest w.place.0) (λ y. on_path newest x y ≡ true) → HoldsTipAt newest w.place.0
under_holds newest x w history good on =
    let y = some_and (slip_at newest w.place.0) (λ z. on_path newest x z ≡ true) on in
    some_at newest w.place.0 (λ z. holds_final_tip newest z ≡ true) y.0 y.1 (passes_through newest x y.0 history good y.2)

joined : (x v y w p q at : ℕ) → (x < v) ⊎ ((x ≡ v) × (at ≡ q)) → (v < y) ⊎ ((v ≡ y) × (p ≤ q)) → (x < y) ⊎ ((x ≡ y) × (p ≤ at))
joined x v y w p q at (inl a) (inl b) = inl (omega arith)
joined x v y w p q at (inl a) (inr b) = let f : v ≡ y = b.0 in inl (omega arith)
joined x v y w p q at (inr a) (inl b) = let f : x ≡ v = a.0 in inl (omega arith)
joined x v y w p q at (inr a) (inr b) = let f : at ≡ q = a.1 in let g : p ≤ q = b.1 in inr (a.0 ∙ b.0, omega arith)

-- the best rival that holds the tip is the head
pub taken_ranks : (newest : List Slip) (more rest : List Rival) (r : Rival) → IsHistory newest
    → ((at : ℕ) (x : Slip) → slip_at newest at ≡ Some x → holds_final_tip newest x ≡ true → IsUnderRival newest more x)
    → All (IsRivalOf newest) rest → IsRivalOf newest r → HoldsTipAt newest r.place.0 → IsUpperBound rival_cmp r rest
    → ((w : Rival) → Contains more w → HoldsTipAt newest w.place.0 → (Some r ≡ Some w) ⊎ Contains rest w)
    → RanksAll newest r.place.0 rest
taken_ranks newest more rest r history under own_rest own holds up others =
    let y = some_and (slip_at newest r.place.0) (λ z. holds_final_tip newest z ≡ true) holds in
    let num : y.0.num ≡ r.num = is_at newest r.place.0 (λ z. z.num ≡ r.num) y.0 y.1 own in
    let best : IsBest (holds_final_tip newest) newest r.place.0 y.0 = record {
      here = y.1;
      good = y.2;
      most = λ at x e f.
          let u = under at x e f in
          let v = some_and (slip_at newest u.0.place.0) (λ z. on_path newest x z ≡ true) u.2 in
          let first = under_num newest at u.0.place.0 x v.0 history e v.1 v.2 in
          elim (others u.0 u.1 (under_holds newest x u.0 history f u.2)) [
            | inl same ↦
                let one : r ≡ u.0 = same_rival r u.0 same in
                let slips : v.0 ≡ y.0 = same_Some v.0 y.0 (sym v.1 ∙ ap (λ (w : Rival). slip_at newest w.place.0) (sym one) ∙ y.1) in
                let places : r.place.0 ≡ u.0.place.0 = ap (λ (w : Rival). w.place.0) one in
                joined x.num v.0.num y.0.num 0 r.place.0 u.0.place.0 at first (inr (ap (λ (z : Slip). z.num) slips, omega (arith, places)))
            | inr has ↦
                let own_w = All-contains (IsRivalOf newest) rest u.0 own_rest has in
                let num_w : v.0.num ≡ u.0.num = is_at newest u.0.place.0 (λ z. z.num ≡ u.0.num) v.0 v.1 own_w in
                joined x.num v.0.num y.0.num 0 r.place.0 u.0.place.0 at first (renamed v.0.num u.0.num y.0.num r.num r.place.0 u.0.place.0 num_w num (below_best r u.0 rest up has))
          ];
    } in
    record {
      top = y.0;
      best = best;
      is_head = best_greatest (holds_final_tip newest) newest r.place.0 y.0 best;
      own = own_rest;
      covers = λ at x e f.
          let u = under at x e f in
          elim (others u.0 u.1 (under_holds newest x u.0 history f u.2)) [
            | inl same ↦
                let one : r ≡ u.0 = same_rival r u.0 same in
                inl (is_at newest r.place.0 (λ z. on_path newest x z ≡ true) y.0 y.1 (subst (λ (w : Rival). IsSomeAnd (slip_at newest w.place.0) (λ z. on_path newest x z ≡ true)) (sym one) u.2))
            | inr has ↦ inr (u.0, has, u.2)
          ];
    }
  where
    same_rival : (a b : Rival) → Some a ≡ Some b → a ≡ b
    same_rival a b e = grind arith

    renamed : (v w y r p q : ℕ) → v ≡ w → y ≡ r → (w < r) ⊎ ((w ≡ r) × (p ≤ q)) → (v < y) ⊎ ((v ≡ y) × (p ≤ q))
    renamed v w y r p q ev ey (inl h) = inl (omega (arith, ev, ey))
    renamed v w y r p q ev ey (inr h) = inr (ev ∙ h.0 ∙ sym ey, h.1)
