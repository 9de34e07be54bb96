-- The root of a history, and the parents of its other blocks.
use Rattle.std.proofs.Common.{arith, ◌≡◌, ◌≤◌, ◌<◌, ◌⊎◌, inl, inr, ℕ, false, List, [], ◌∷◌, ◌++◌, Option, Some, None, refl, sym, ◌∙◌, ap, subst, leb}
use Rattle.std.proofs.lemmas.Bool.{cases_Bool, leb-true}
use Rattle.std.proofs.lemmas.Option.{same_Some}
use Rattle.block_record.specs.declared.blocks.Slip.{Slip}
use Rattle.block_record.specs.Ids.{same_id_refl}
use Rattle.chain_model.specs.Ancestry.{find_id, IsHistory}
use Rattle.chain_model.specs.Finality.{root_num}
use Rattle.chain_laws.proofs.public.Lines.{IsHistory-rest, has_id-find_id, id-find_id, find_id_past, find_id_at, other_id, some_and}
use Rattle.chain_laws.proofs.public.Growth.{IsFound, found_cases, found_past}
use Rattle.relay_model.specs.Orders.{root_or, root_of}
use Rattle.relay_model.specs.Runs.{OneEach}
use Rattle.bundle_model.specs.Members.{Among}
use Rattle.bundle_model.proofs.public.MemberFacts.{among_all}
use Rattle.store_model.specs.Clean.{root}

pub no_found : (s : Slip) → IsFound [] s → ⊥
no_found s f = grind (arith, f)

pub root_some : (t : Slip) (older : List Slip) → (r : Slip) × (root (t ∷ older) ≡ Some r)
root_some t [] = (t, refl)
root_some t (x ∷ older) = root_some x older

pub root_num_is : (newest : List Slip) (r : Slip) → root newest ≡ Some r → root_num newest ≡ r.num
root_num_is [] r e = absurd (grind (arith, e))
root_num_is (s ∷ []) r e = ap (λ (x : Slip). x.num) (same_Some s r e)
root_num_is (s ∷ t ∷ older) r e = root_num_is (t ∷ older) r e

pub root_in : (newest : List Slip) → IsHistory newest → (r : Slip) → root newest ≡ Some r → IsFound newest r
root_in [] history r e = absurd (grind (arith, e))
root_in (s ∷ []) history r e = subst (IsFound (s ∷ [])) (same_Some s r e) (find_id_at s [] s.id (same_id_refl s.id))
root_in (s ∷ t ∷ older) history r e = found_past s (t ∷ older) history r (root_in (t ∷ older) (IsHistory-rest s (t ∷ older) history) r e)

-- the parent of a block that is not the root
pub record IsParentOf (newest : List Slip) (s p : Slip) : Type 0 where
  pub named : find_id newest s.parent_id ≡ Some p
  pub num : p.num ≡ s.parent_num
  pub less : p.num < s.num
  pub found : IsFound newest p

parent_past : (x : Slip) (older : List Slip) → IsHistory (x ∷ older) → (s p : Slip) → IsParentOf older s p → IsParentOf (x ∷ older) s p
parent_past x older history s p h = record {
  named = find_id_past x older s.parent_id (other_id x older history s.parent_id (has_id-find_id older s.parent_id p h.named)) ∙ h.named;
  num = h.num;
  less = h.less;
  found = found_past x older history p h.found;
}

parent_newest : (s t : Slip) (older : List Slip) → IsHistory (s ∷ t ∷ older) → (p : Slip) × IsParentOf (s ∷ t ∷ older) s p
parent_newest s t older history =
    let p = some_and (find_id (t ∷ older) s.parent_id) (λ q. q.num ≡ s.parent_num) history.0.parent in
    let above : s.parent_num < s.num = history.0.above in
    let own : IsFound (t ∷ older) p.0 = ap (find_id (t ∷ older)) (id-find_id (t ∷ older) s.parent_id p.0 p.1) ∙ p.1 in (
      p.0,
      record {
        named = find_id_past s (t ∷ older) s.parent_id (other_id s (t ∷ older) history s.parent_id (has_id-find_id (t ∷ older) s.parent_id p.0 p.1)) ∙ p.1;
        num = p.2;
        less = omega (arith, p.2, above);
        found = found_past s (t ∷ older) history p.0 own;
      },
    )

pub root_or_parent : (newest : List Slip) → IsHistory newest → (s : Slip) → IsFound newest s → (root newest ≡ Some s) ⊎ ((p : Slip) × IsParentOf newest s p)
root_or_parent [] history s f = absurd (no_found s f)
root_or_parent (x ∷ []) history s f =
    elim (found_cases x [] s f) [ inl same ↦ inl (ap (λ (y : Slip). Some y) same) | inr below ↦ absurd (no_found s below) ]
root_or_parent (x ∷ t ∷ older) history s f =
    elim (found_cases x (t ∷ older) s f) [
      | inl same ↦ let p = parent_newest x t older history in inr (p.0, subst (λ (y : Slip). IsParentOf (x ∷ t ∷ older) y p.0) same p.1)
      | inr below ↦ elim (root_or_parent (t ∷ older) (IsHistory-rest x (t ∷ older) history) s below) [
        | inl r ↦ inl r
        | inr p ↦ inr (p.0, parent_past x (t ∷ older) history s p.0 p.1)
      ]
    ]

-- the root of what is taken stays
pub root_stays : (first : ℕ) (more earlier : List Slip) (r : Slip) → root_of first earlier ≡ Some r → root_of first (more ++ earlier) ≡ Some r
root_stays first [] earlier r e = e
root_stays first (s ∷ more) earlier r e = let h = root_stays first more earlier r e in rw h refl

or_late : (o : Option Slip) (first : ℕ) (s r : Slip) → ((q : Slip) → o ≡ Some q → first ≤ q.num) → root_or o first s ≡ Some r → first ≤ r.num
or_late (Some q) first s r h e = subst (λ (x : Slip). first ≤ x.num) (same_Some q r e) (h q refl)
or_late None first s r h e =
    elim (cases_Bool (leb first s.num)) [
      | inl fits ↦ let same : s ≡ r = same_Some s r (rw fits at e) in subst (λ (x : Slip). first ≤ x.num) same (leb-true first s.num fits)
      | inr low ↦ absurd (none low (rw low at e))
    ]
  where
    none : leb first s.num ≡ false → None ≡ Some r → ⊥
    none low k = grind (arith, k)

pub root_late : (first : ℕ) (blocks : List Slip) (r : Slip) → root_of first blocks ≡ Some r → first ≤ r.num
root_late first [] r e = absurd (grind (arith, e))
root_late first (s ∷ earlier) r e = or_late (root_of first earlier) first s r (λ q h. root_late first earlier q h) e

-- blocks of which no id has two slips
pub one_is : (xs : List Slip) → OneEach xs → (a b : Slip) → Among xs a → Among xs b → a.id ≡ b.id → a ≡ b
one_is [] one a b ha hb e = absurd ha
one_is (x ∷ xs) one a b (inl ea) (inl eb) e = sym ea ∙ eb
one_is (x ∷ xs) one a b (inl ea) (inr hb) e =
    let same : b.id ≡ x.id → b ≡ x = among_all (λ t. t.id ≡ x.id → t ≡ x) xs one.0 b hb in
    sym ea ∙ sym (same (sym e ∙ ap (λ (y : Slip). y.id) (sym ea)))
one_is (x ∷ xs) one a b (inr ha) (inl eb) e =
    let same : a.id ≡ x.id → a ≡ x = among_all (λ t. t.id ≡ x.id → t ≡ x) xs one.0 a ha in
    same (e ∙ ap (λ (y : Slip). y.id) (sym eb)) ∙ eb
one_is (x ∷ xs) one a b (inr ha) (inr hb) e = one_is xs one.1 a b ha hb e
