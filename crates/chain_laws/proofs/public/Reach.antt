-- Lines of a history: ancestries, and what is left of one after a cut.
use Rattle.std.proofs.Common.{arith, ◌≡◌, inl, inr, ℕ, Bool, true, false, cond, List, [], ◌∷◌, ◌++◌, map, Some, None, refl, sym, ◌∙◌, ap, subst}
use Rattle.std.specs.List.{AllByRecursion}
use Rattle.std.proofs.lemmas.Bool.{cases_Bool, both_ways, false_from_ne_true, eq-eqb}
use mathlib.Core.List.{IsSuffix}
use Rattle.block_record.specs.declared.blocks.Slip.{Slip}
use Rattle.block_record.specs.Ids.{same_id, same_id-true, same_id_refl}
use Rattle.chain_model.specs.Ancestry.{find_id, has_id, ancestry, IsHistory}
use Rattle.chain_model.specs.Steps.{drop_while, ref_of}
use Rattle.chain_model.specs.Fold.{follows_last}
use Rattle.chain_model.proofs.public.ScanFacts.{ancestry_past, ancestry_met}
use Rattle.chain_laws.proofs.public.Lines.{IsHistory-rest, has_id-find_id, id-find_id, find_id_past, find_id_at, other_id, some_and, is_above}
use Rattle.chain_laws.proofs.public.Growth.{IsFound, found_past, ancestry_found}
use Rattle.chain_laws.proofs.public.LinkedLists.{Linked}

-- the ancestry of a block of the history
pub record IsAncestryOf (newest line : List Slip) (s : Slip) : Type 0 where
  pub found : IsFound newest s
  pub is : line ≡ ancestry newest s.id

-- nothing, or the ancestry of a block
pub data IsLine (newest : List Slip) : List Slip → Type 0 where
  Nothing : IsLine newest []
  From : (line : List Slip) (s : Slip) → IsAncestryOf newest line s → IsLine newest line

-- a line stays one when a block follows
pub IsLine_past : (s : Slip) (older : List Slip) → IsHistory (s ∷ older) → (line : List Slip) → IsLine older line → IsLine (s ∷ older) line
IsLine_past s older history line Nothing = Nothing
IsLine_past s older history line (From l x a) =
    From l x (record { found = found_past s older history x a.found; is = a.is ∙ sym (ancestry_past s older x.id (other_id s older history x.id (has_id-find_id older x.id x a.found))) })

-- what is left of an ancestry is a line
cut_line : (newest : List Slip) → IsHistory newest → (p : Slip → Bool) (id : List ℕ) → IsLine newest (drop_while p (ancestry newest id))
cut_line [] history p id = Nothing
cut_line (s ∷ older) history p id =
    let rest = IsHistory-rest s older history in
    let lift = λ (i : List ℕ). IsLine_past s older history (drop_while p (ancestry older i)) (cut_line older rest p i) in
    let whole : IsLine (s ∷ older) (s ∷ ancestry older s.parent_id) =
    From _ s (record { found = find_id_at s older s.id (same_id_refl s.id); is = sym (ancestry_met s older s.id (same_id_refl s.id)) }) in
    let Q : Bool → Type 0 = λ t. IsLine (s ∷ older) (cond t (drop_while p (ancestry older s.parent_id)) (s ∷ ancestry older s.parent_id)) in
    let at : IsLine (s ∷ older) (drop_while p (s ∷ ancestry older s.parent_id)) = elim (p s) as Q [ true ↦ lift s.parent_id | false ↦ whole ] in
    let P : Bool → Type 0 = λ t. IsLine (s ∷ older) (drop_while p (cond t (s ∷ ancestry older s.parent_id) (ancestry older id))) in
    elim (same_id s.id id) as P [ true ↦ at | false ↦ lift id ]

drop_nothing : (xs : List Slip) → drop_while (λ s. false) xs ≡ xs
drop_nothing [] = refl
drop_nothing (x ∷ xs) = refl

-- an ancestry is a line, and so is what is left of a line
pub ancestry_line : (newest : List Slip) → IsHistory newest → (id : List ℕ) → IsLine newest (ancestry newest id)
ancestry_line newest history id = subst (IsLine newest) (drop_nothing (ancestry newest id)) (cut_line newest history (λ s. false) id)

pub drop_line : (newest : List Slip) → IsHistory newest → (p : Slip → Bool) (line : List Slip) → IsLine newest line → IsLine newest (drop_while p line)
drop_line newest history p line Nothing = Nothing
drop_line newest history p line (From l s a) = subst (λ (x : List Slip). IsLine newest (drop_while p x)) (sym a.is) (cut_line newest history p s.id)

-- the ancestors of a block of a line are on the line
pub line_under : (newest : List Slip) → IsHistory newest → (line : List Slip) → IsLine newest line → (j : List ℕ) → has_id line j ≡ true → IsSuffix (ancestry newest j) line
line_under newest history line Nothing j h = absurd (both_ways _ refl h)
line_under newest history line (From l s a) j h =
    subst (IsSuffix (ancestry newest j)) (sym a.is) (is_above newest history s.id j (rw a.is at h)).line

-- each block of a line is a child of the one after it
pub head_is_found : (newest : List Slip) (id : List ℕ) (p : Slip) → find_id newest id ≡ Some p → (rest : List Slip) × (ancestry newest id ≡ p ∷ rest)
head_is_found [] id p e = absurd (grind arith)
head_is_found (s ∷ older) id p e =
    elim (cases_Bool (same_id s.id id)) [
      | inl here ↦ let same : s ≡ p = grind (arith, e, here) in (ancestry older s.parent_id, ancestry_met s older id here ∙ ap (λ x. x ∷ ancestry older s.parent_id) same)
      | inr past ↦ let found : find_id older id ≡ Some p = sym (find_id_past s older id past) ∙ e in
          let r = head_is_found older id p found in (r.0, ancestry_past s older id past ∙ r.1)
    ]

follows_parent : (s : Slip) (older : List Slip) → IsHistory (s ∷ older) → follows_last None (map ref_of (ancestry older s.parent_id)) s ≡ true
follows_parent s [] history = refl
follows_parent s (t ∷ older) history =
    let p = some_and (find_id (t ∷ older) s.parent_id) (λ q. q.num ≡ s.parent_num) history.0.parent in
    let r = head_is_found (t ∷ older) s.parent_id p.0 p.1 in
    let id : p.0.id ≡ s.parent_id = id-find_id (t ∷ older) s.parent_id p.0 p.1 in
    rw (r.1, id, same_id_refl s.parent_id, eq-eqb _ _ (sym p.2)) refl

pub ancestry_linked : (newest : List Slip) → IsHistory newest → (id : List ℕ) → Linked (ancestry newest id)
ancestry_linked [] history id = tt
ancestry_linked (s ∷ older) history id =
    let rest = IsHistory-rest s older history in
    let P : Bool → Type 0 = λ t. Linked (cond t (s ∷ ancestry older s.parent_id) (ancestry older id)) in
    elim (same_id s.id id) as P [ true ↦ (follows_parent s older history, ancestry_linked older rest s.parent_id) | false ↦ ancestry_linked older rest id ]

pub line_linked : (newest : List Slip) → IsHistory newest → (line : List Slip) → IsLine newest line → Linked line
line_linked newest history line Nothing = tt
line_linked newest history line (From l s a) = subst Linked (sym a.is) (ancestry_linked newest history s.id)

pub line_found : (newest : List Slip) → IsHistory newest → (line : List Slip) → IsLine newest line → AllByRecursion (IsFound newest) line
line_found newest history line Nothing = tt
line_found newest history line (From l s a) = subst (AllByRecursion (IsFound newest)) (sym a.is) (ancestry_found newest history s.id)

-- what is not cut off stays
pub has_id-drop : (p : Slip → Bool) (xs : List Slip) (j : List ℕ) → AllByRecursion (λ s. same_id s.id j ≡ true → p s ≡ false) xs → has_id xs j ≡ true → has_id (drop_while p xs) j ≡ true
has_id-drop p [] j all h = h
has_id-drop p (x ∷ xs) j all h =
    let P : Bool → Type 0 = λ t. p x ≡ t → has_id (cond t (drop_while p xs) (x ∷ xs)) j ≡ true in
    let both : P (p x) = elim (p x) as P [
      | true ↦ λ dropped. let other : same_id x.id j ≡ false = false_from_ne_true _ (λ same. both_ways _ (all.0 same) dropped) in
          let below : has_id xs j ≡ true = grind (arith, h, other) in has_id-drop p xs j all.1 below
      | false ↦ λ kept. h
    ] in
    both refl

-- a test of the id alone
pub has_id-drop_by_id : (t : List ℕ → Bool) (xs : List Slip) (j : List ℕ) → t j ≡ false → has_id xs j ≡ true → has_id (drop_while (λ s. t s.id) xs) j ≡ true
has_id-drop_by_id t xs j e h =
    has_id-drop (λ s. t s.id) xs j (each xs) h
  where
    each : (ys : List Slip) → AllByRecursion (λ s. same_id s.id j ≡ true → t s.id ≡ false) ys
    each [] = tt
    each (y ∷ ys) = (λ same. ap t (same_id-true y.id j same) ∙ e, each ys)

-- what stands first after a cut does not pass
pub first_fails : (p : Slip → Bool) (xs : List Slip) (y : Slip) (ys : List Slip) → drop_while p xs ≡ y ∷ ys → p y ≡ false
first_fails p [] y ys e = absurd (cc)
first_fails p (x ∷ xs) y ys e =
    elim (cases_Bool (p x)) [
      | inl dropped ↦ first_fails p xs y ys (rw dropped at e)
      | inr kept ↦ let same : x ≡ y = grind (arith, e, kept) in subst (λ (s : Slip). p s ≡ false) same kept
    ]

pub has_id-append_right : (xs ys : List Slip) (j : List ℕ) → has_id ys j ≡ true → has_id (xs ++ ys) j ≡ true
has_id-append_right [] ys j h = h
has_id-append_right (x ∷ xs) ys j h = grind (arith, has_id-append_right xs ys j h)

pub has_id-suffix : (xs ys : List Slip) (j : List ℕ) → IsSuffix xs ys → has_id xs j ≡ true → has_id ys j ≡ true
has_id-suffix xs ys j h e = subst (λ (l : List Slip). has_id l j ≡ true) h.1 (has_id-append_right h.0 xs j e)
