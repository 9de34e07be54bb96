-- Link times.
use Rattle.std.proofs.Common.{arith, ◌≡◌, ◌≤◌, ◌<◌, ◌⊎◌, inl, inr, ℕ, zero, suc, max, Bool, true, false, List, [], ◌∷◌, Option, Some, None, refl, sym, ◌∙◌, ap, ltb, ◌&&◌}
use Rattle.std.proofs.Math.Dec.{eqb}
use Rattle.std.specs.List.{find}
use Rattle.std.proofs.lemmas.Bool.{and_parts, cases_Bool, both_ways, false_from_ne_true, ltb-true, lt-ltb, eqb-true, eq-eqb}
use Rattle.std.proofs.lemmas.Option.{same_Some}
use Rattle.block_record.proofs.public.SlipFacts.{same_slip_is, same_slip_refl}
use Rattle.block_record.specs.declared.blocks.Slip.{Slip}
use Rattle.block_record.specs.Ids.{same_id, same_id_refl, same_id-true}
use Rattle.chain_laws.proofs.public.Lines.{find_id_at, find_id_past}
use Rattle.chain_laws.proofs.public.Growth.{IsFound, find_passes}
use Rattle.block_record.specs.Slips.{same_slip}
use Rattle.relay_model.specs.Orders.{position, is_parent, later, time_by, link_time_in, link_time}
use Rattle.relay_model.specs.Soundness.{IsDistinct}
use Rattle.relay_model.proofs.public.Entries.{distinct_found}

find_true : (p : Slip → Bool) (xs : List Slip) (x : Slip) → find p xs ≡ Some x → p x ≡ true
find_true p [] x e = absurd (grind (arith, e))
find_true p (y ∷ ys) x e =
    elim (cases_Bool (p y)) [
      | inl hit ↦ let same : y ≡ x = grind (arith, e, hit) in ap p (sym same) ∙ hit
      | inr miss ↦ find_true p ys x (rw miss at e)
    ]

pub record IsParent (s p : Slip) : Type 0 where
  pub id : p.id ≡ s.parent_id
  pub num : p.num ≡ s.parent_num
  pub less : p.num < s.num

pub parent_is : (s p : Slip) → is_parent s p ≡ true → IsParent s p
parent_is s p e =
    let a = and_parts (same_id p.id s.parent_id && eqb p.num s.parent_num) (ltb p.num s.num) e in
    let b = and_parts (same_id p.id s.parent_id) (eqb p.num s.parent_num) a.0 in
    record { id = same_id-true p.id s.parent_id b.0; num = eqb-true _ _ b.1; less = ltb-true _ _ a.1 }

pub is_parent_of : (s p : Slip) → IsParent s p → is_parent s p ≡ true
is_parent_of s p h =
    let a : same_id p.id s.parent_id ≡ true = rw h.id (same_id_refl s.parent_id) in
    rw (a, eq-eqb p.num s.parent_num h.num, lt-ltb p.num s.num h.less) refl

-- the parent among distinct blocks is found
pub find_parent : (received : List Slip) → IsDistinct received → (s p : Slip) → IsFound received p → IsParent s p → find (is_parent s) received ≡ Some p
find_parent [] d s p found h = absurd (grind (arith, found))
find_parent (x ∷ xs) d s p found h =
    elim (cases_Bool (is_parent s x)) [
      | inl hit ↦
          let same : x.id ≡ p.id = (parent_is s x hit).id ∙ sym h.id in
          let here : same_id x.id p.id ≡ true = rw same (same_id_refl p.id) in
          let one : x ≡ p = same_Some x p (sym (find_id_at x xs p.id here) ∙ found) in
          rw hit (ap (λ z. Some z) one)
      | inr miss ↦
          let past : same_id x.id p.id ≡ false = false_from_ne_true _ (λ here.
          let one : x ≡ p = same_Some x p (sym (find_id_at x xs p.id here) ∙ found) in
          both_ways _ miss (ap (is_parent s) one ∙ is_parent_of s p h)) in
          rw miss (find_parent xs d.1 s p (sym (find_id_past x xs p.id past) ∙ found) h)
    ]

-- what is enough for the chain makes no difference
pub link_fuel : (received : List Slip) (root : Slip) (n m : ℕ) (s : Slip) → s.num < n → s.num < m → link_time_in n received root s ≡ link_time_in m received root s
link_fuel received root zero m s a b = absurd (omega (arith, a))
link_fuel received root (suc n) zero s a b = absurd (omega (arith, b))
link_fuel received root (suc n) (suc m) s a b =
    elim (cases_Bool (same_slip s root)) [
      | inl same ↦ rw same refl
      | inr other ↦ rw other (ap (later (position received s)) (go (find (is_parent s) received) refl (λ p l r. link_fuel received root n m p l r)))
    ]
  where
    go : (o : Option Slip) → find (is_parent s) received ≡ o → ((p : Slip) → p.num < n → p.num < m → link_time_in n received root p ≡ link_time_in m received root p)
        → time_by (link_time_in n received root) o ≡ time_by (link_time_in m received root) o
    go None e ih = refl
    go (Some p) e ih =
        let less = (parent_is s p (find_true (is_parent s) received p e)).less in
        ih p (omega (arith, less, a)) (omega (arith, less, b))

-- the link time of a block by that of its parent
pub record IsLinkedBy (received : List Slip) (root s : Slip) (time : ℕ) (p : Slip) (before : ℕ) : Type 0 where
  pub found : IsFound received p
  pub parent : IsParent s p
  pub linked : link_time received root p ≡ Some before
  pub most : time ≡ max (position received s) before

pub root_time : (received : List Slip) (root : Slip) → link_time received root root ≡ Some (position received root)
root_time received root = rw (same_slip_refl root) refl

pub link_down : (received : List Slip) → IsDistinct received → (root s : Slip) (time : ℕ) → link_time received root s ≡ Some time
    → ((s ≡ root) × (time ≡ position received s)) ⊎ ((p : Slip) × (before : ℕ) × IsLinkedBy received root s time p before)
link_down received d root s time e =
    elim (cases_Bool (same_slip s root)) [
      | inl same ↦ inl (same_slip_is s root same, sym (same_Some (position received s) time (rw same at e)))
      | inr other ↦ inr (go (find (is_parent s) received) refl (rw other at e))
    ]
  where
    by_time : (at time' : ℕ) (o : Option ℕ) → later at o ≡ Some time' → (before : ℕ) × (o ≡ Some before) × (time' ≡ max at before)
    by_time at time' None h = absurd (grind (arith, h))
    by_time at time' (Some n) h = (n, refl, sym (same_Some (max at n) time' h))

    go : (o : Option Slip) → find (is_parent s) received ≡ o → later (position received s) (time_by (link_time_in s.num received root) o) ≡ Some time
        → (p : Slip) × (before : ℕ) × IsLinkedBy received root s time p before
    go None f h = absurd (grind (arith, h))
    go (Some p) f h =
        let parent = parent_is s p (find_true (is_parent s) received p f) in
        let b = by_time (position received s) time (link_time_in s.num received root p) h in (
          p,
          b.0,
          record {
            found = find_passes (IsFound received) (is_parent s) received p (distinct_found received d) f;
            parent = parent;
            linked = link_fuel received root (suc p.num) s.num p (omega arith) parent.less ∙ b.1;
            most = b.2;
          },
        )

pub link_up : (received : List Slip) → IsDistinct received → (root s p : Slip) (before : ℕ) → IsFound received p → IsParent s p → link_time received root p ≡ Some before
    → (s ≡ root → ⊥) → link_time received root s ≡ Some (max (position received s) before)
link_up received d root s p before found parent linked apart =
    let other : same_slip s root ≡ false = false_from_ne_true _ (λ same. apart (same_slip_is s root same)) in
    let inside : link_time_in s.num received root p ≡ Some before = link_fuel received root s.num (suc p.num) p parent.less (omega arith) ∙ linked in
    let e : time_by (link_time_in s.num received root) (find (is_parent s) received) ≡ Some before = ap (time_by (link_time_in s.num received root)) (find_parent received d s p found parent) ∙ inside in
    rw other (ap (later (position received s)) e)

-- the root has the least number and the least time
pub record IsAboveRoot (received : List Slip) (root s : Slip) (time : ℕ) : Type 0 where
  pub num : root.num < s.num
  pub late : position received root ≤ time

root_go : (n : ℕ) (received : List Slip) → IsDistinct received → (root s : Slip) (time : ℕ) → s.num < n → link_time received root s ≡ Some time → (s ≡ root) ⊎ IsAboveRoot received root s time
root_go zero received d root s time less e = absurd (omega (arith, less))
root_go (suc n) received d root s time less e =
    elim (link_down received d root s time e) [
      | inl is ↦ inl is.0
      | inr x ↦
          let p = x.0 in
          let l = x.2 in
          elim (root_go n received d root p x.1 (small p.num s.num n l.parent.less less) l.linked) [
            | inl same ↦
                let at : x.1 ≡ position received root = same_Some x.1 (position received root) (sym l.linked ∙ ap (link_time received root) same ∙ root_time received root) in
                inr (record { num = low p.num root.num s.num (ap (λ y. y.num) same) l.parent.less; late = most (position received root) x.1 (position received s) time at l.most })
            | inr above ↦ inr (record { num = between root.num p.num s.num above.num l.parent.less; late = most_of (position received root) x.1 (position received s) time above.late l.most })
          ]
    ]
  where
    small : (a b c : ℕ) → a < b → b < suc c → a < c
    small a b c h k = omega (arith, h, k)

    low : (a b c : ℕ) → a ≡ b → a < c → b < c
    low a b c h k = omega (arith, h, k)

    between : (a b c : ℕ) → a < b → b < c → a < c
    between a b c h k = omega (arith, h, k)

    most_of : (r b a t : ℕ) → r ≤ b → t ≡ max a b → r ≤ t
    most_of r b a t h k = omega (arith, h, k)

    most : (r b a t : ℕ) → b ≡ r → t ≡ max a b → r ≤ t
    most r b a t h k = omega (arith, h, k)

pub above_root : (received : List Slip) → IsDistinct received → (root s : Slip) (time : ℕ) → link_time received root s ≡ Some time → (s ≡ root) ⊎ IsAboveRoot received root s time
above_root received d root s time e = root_go (suc s.num) received d root s time (omega arith) e
