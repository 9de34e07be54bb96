-- Facts of the waiting blocks whose parents are known: how many there are, and the only one.
use Rattle.std.proofs.Common.{arith, ◌≡◌, ◌<◌, ◌+◌, ℕ, zero, suc, Bool, true, inl, inr, None, Option, Some, nat_lt, List, [], ◌∷◌, length, reverse, refl, sym, ◌∙◌, ap, cond, false}
use Rattle.std.specs.List.{AllByRecursion, filter, slice_get}
use Rattle.std.proofs.lemmas.Bool.{cases_Bool}
use Rattle.std.proofs.lemmas.List.{length-reverse}
use Rattle.std.proofs.lemmas.Option.{same_Some, slice_get-map}
use Rattle.block_record.specs.declared.blocks.Slip.{Slip}
use Rattle.block_tree.specs.Places.{slip_at}
use Rattle.chain_model.specs.Ancestry.{has_id}
use Rattle.relay_model.specs.Worlds.{least, lesser, next_waiting}
use Rattle.wait_room.specs.declared.waiters.Waiter.{Waiter}
use Rattle.wait_room.specs.Rooms.{children_in, linked_in, slips_of, waiting_of}
use Rattle.block_record.specs.Ids.{same_id, same_id_equiv, same_id-true}
use Rattle.relay_model.proofs.public.Intakes.{next_is}
use Rattle.relay_model.proofs.public.Sound.{swap_ids}
use Rattle.wait_room.proofs.CountFacts.{count_first, one_child}
use Rattle.wait_room.proofs.ScanFacts.{slip_at_slices}
use Rattle.wait_room.proofs.TurnedFacts.{filter_turned}

-- an element that passes is counted
counted : {X : Type 0} (p : X → Bool) (xs : List X) (i : ℕ) (x : X) → slice_get xs i ≡ Some x → p x ≡ true → 0 < length (filter p xs)
counted p [] i x e pass = absurd (grind (arith, e))
counted p (y ∷ ys) zero x e pass = rw (same_Some y x e, pass) (omega arith)
counted p (y ∷ ys) (suc i) x e pass =
    elim (cases_Bool (p y)) [
      | inl first ↦ rw first (omega arith)
      | inr other ↦ rw other (counted p ys i x e pass)
    ]

none_left : {X : Type 0} (xs : List X) → length xs + 1 ≡ 1 → xs ≡ []
none_left [] e = refl
none_left (x ∷ xs) e = absurd (omega arith)

-- where one element passes, it is the only one
only_passes : {X : Type 0} (p : X → Bool) (xs : List X) (i : ℕ) (x : X) → slice_get xs i ≡ Some x → p x ≡ true → length (filter p xs) ≡ 1 → filter p xs ≡ x ∷ []
only_passes p [] i x e pass one = absurd (grind (arith, e))
only_passes p (y ∷ ys) zero x e pass one =
    let same = same_Some y x e in
    let first : p y ≡ true = ap p same ∙ pass in
    rw (first, same) (ap (λ l. x ∷ l) (none_left (filter p ys) (omega (arith, rw first at one))))
only_passes p (y ∷ ys) (suc i) x e pass one =
    elim (cases_Bool (p y)) [
      | inl first ↦ absurd (omega (arith, counted p ys i x e pass, rw first at one))
      | inr other ↦ rw other (only_passes p ys i x e pass (rw other at one))
    ]

-- the block at a place is the next one, where no other's parent is known
pub only_next : (known : List Slip) (ws : List Waiter) (i : ℕ) (s : Slip) → slip_at (waiting_of ws) i ≡ Some s → has_id known s.parent_id ≡ true → linked_in known (waiting_of ws) ≡ 1 → Some s ≡ next_waiting known (waiting_of ws)
only_next known ws i s e linked one =
    let p = λ (t : Slip). has_id known t.parent_id in
    let turned = filter_turned p (slips_of ws) in
    let at : slice_get (slips_of ws) i ≡ Some s = slice_get-map (λ (w : Waiter). w.slip) ws i ∙ sym (slip_at_slices ws i) ∙ e in
    let here : length (filter p (slips_of ws)) ≡ 1 = sym (length-reverse (filter p (slips_of ws))) ∙ sym (ap length turned) ∙ one in
    sym (ap least (turned ∙ ap reverse (only_passes p (slips_of ws) i s at linked here)))

-- none is linked where there is no next one
pub none_linked : (known waiting : List Slip) → next_waiting known waiting ≡ None → linked_in known waiting ≡ 0
none_linked known waiting e = ap length (none_least (filter (λ (s : Slip). has_id known s.parent_id) waiting) e)
  where
    some_lesser : (o : Option Slip) (s : Slip) → lesser o s ≡ None → ⊥
    some_lesser None s e = absurd (grind (arith, e))
    some_lesser (Some t) s e = by (nat_lt s.num t.num) e
      where
        by : (b : Bool) → cond b (Some s) (Some t) ≡ None → ⊥
        by true e = absurd (grind (arith, e))
        by false e = absurd (grind (arith, e))

    none_least : (xs : List Slip) → least xs ≡ None → xs ≡ []
    none_least [] e = refl
    none_least (s ∷ older) e = absurd (some_lesser (least older) s e)

-- and there is no next one where none is linked
pub none_next : (known waiting : List Slip) → linked_in known waiting ≡ 0 → next_waiting known waiting ≡ None
none_next known waiting e = ap least (nothing (filter (λ (s : Slip). has_id known s.parent_id) waiting) e)
  where
    nothing : (xs : List Slip) → length xs ≡ 0 → xs ≡ []
    nothing [] e = refl
    nothing (x ∷ xs) e = absurd (omega (arith, e))

-- none is linked where no block's parent is known
pub none_held : (known waiting : List Slip) → AllByRecursion (λ s. has_id known s.parent_id ≡ false) waiting → linked_in known waiting ≡ 0
none_held known [] apart = refl
none_held known (s ∷ older) apart = rw apart.0 (none_held known older apart.1)

swap_true : (a b : List ℕ) → same_id a b ≡ true → same_id b a ≡ true
swap_true a b same = sym (same_id_equiv.symm a b) ∙ same

-- how many are left once the next one is taken
pub linked_taken : (known before after : List Slip) (s : Slip) → Some s ≡ next_waiting known before
    → ((p : Slip → Bool) → length (filter p before) ≡ length (filter p after) + cond (p s) 1 0)
    → linked_in known before ≡ linked_in known after + 1
linked_taken known before after s e counts =
    let p = λ (t : Slip). has_id known t.parent_id in
    let one = (next_is known before s (sym e)).parent in
    counts p ∙ rw one refl

-- one more block of the history brings its children
pub linked_more : (known : List Slip) (s : Slip) (waiting : List Slip) → has_id known s.id ≡ false → linked_in (s ∷ known) waiting ≡ linked_in known waiting + children_in waiting s.id
linked_more known s [] fresh = omega arith
linked_more known s (t ∷ ts) fresh =
    let all = count_first (λ (x : Slip). has_id (s ∷ known) x.parent_id) t ts in
    let old = count_first (λ (x : Slip). has_id known x.parent_id) t ts in
    let new = one_child t ts s.id in
    let here : cond (has_id (s ∷ known) t.parent_id) 1 0 ≡ cond (has_id known t.parent_id) 1 0 + cond (same_id t.parent_id s.id) 1 0 =
    elim (cases_Bool (same_id s.id t.parent_id)) [
      | inl same ↦ rw (same, swap_true s.id t.parent_id same, ← (same_id-true s.id t.parent_id same), fresh) (omega arith)
      | inr other ↦ rw (other, swap_ids s.id t.parent_id other) (omega arith)
    ] in
    omega (arith, all, old, new, here, linked_more known s ts fresh)
