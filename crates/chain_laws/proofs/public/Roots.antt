-- The root stands last on each line, and is final.
use Rattle.std.proofs.Common.{arith, ◌≡◌, inl, inr, ℕ, Bool, true, false, leb, List, [], ◌∷◌, ◌++◌, Option, Some, None, refl, sym, ◌∙◌, ap, subst, max}
use Rattle.std.specs.List.{filter, find, filter_map}
use Rattle.std.proofs.lemmas.Bool.{cases_Bool, le-leb}
use mathlib.Core.List.{IsSuffix}
use Rattle.block_record.specs.declared.blocks.Slip.{Slip}
use Rattle.block_record.specs.Ids.{same_id, same_id_refl}
use Rattle.chain_model.specs.Ancestry.{find_id, ancestry, IsHistory}
use Rattle.chain_model.specs.Finality.{root_num, claim, greatest, final_tip, ancestry_of, final_ancestry}
use Rattle.chain_model.proofs.public.ScanFacts.{ancestry_past, ancestry_met}
use Rattle.chain_laws.proofs.public.Lines.{IsHistory-rest, some_and, suffix_cons}
use Rattle.chain_laws.proofs.public.Growth.{claim_found, tip_claimed}
use Rattle.chain_laws.proofs.public.Reach.{IsLine, Nothing, From, head_is_found, has_id-suffix}
use Rattle.chain_laws.proofs.public.Meeting.{greater_is_some, has_first}
use Rattle.chain_laws.proofs.public.Walks.{is_final, Begins}

-- the root alone
abbrev pub root_line : List Slip → List Slip
root_line [] = []
root_line (s ∷ []) = s ∷ []
root_line (s ∷ t ∷ older) = root_line (t ∷ older)

-- the newest block's ancestry goes on to its parent
parent_line : (s t : Slip) (older : List Slip) → IsHistory (s ∷ t ∷ older) → Begins (ancestry (t ∷ older) s.parent_id)
parent_line s t older history =
    let p = some_and (find_id (t ∷ older) s.parent_id) (λ q. q.num ≡ s.parent_num) history.0.parent in
    let r = head_is_found (t ∷ older) s.parent_id p.0 p.1 in
    (p.0, r.0, r.1)

pub root_last : (newest : List Slip) → IsHistory newest → (id : List ℕ) → Begins (ancestry newest id) → IsSuffix (root_line newest) (ancestry newest id)
root_last [] history id b = ([], refl)
root_last (s ∷ []) history id b =
    elim (cases_Bool (same_id s.id id)) [
      | inl here ↦ ([], sym (ancestry_met s [] id here))
      | inr past ↦ absurd (no_line s id past b)
    ]
  where
    no_line : (x : Slip) (i : List ℕ) → same_id x.id i ≡ false → Begins (ancestry (x ∷ []) i) → ⊥
    no_line x i past h = let e : [] ≡ h.0 ∷ h.1 = sym (ancestry_past x [] i past) ∙ h.2 in cc
root_last (s ∷ t ∷ older) history id b =
    let rest = IsHistory-rest s (t ∷ older) history in
    elim (cases_Bool (same_id s.id id)) [
      | inl here ↦ subst (IsSuffix (root_line (t ∷ older))) (sym (ancestry_met s (t ∷ older) id here))
          (suffix_cons s _ _ (root_last (t ∷ older) rest s.parent_id (parent_line s t older history)))
      | inr past ↦ subst (IsSuffix (root_line (t ∷ older))) (sym (ancestry_past s (t ∷ older) id past))
          (root_last (t ∷ older) rest id (subst Begins (ancestry_past s (t ∷ older) id past) b))
    ]

-- the root's number is the number of the root
pub record IsRoot (newest : List Slip) : Type 0 where
  pub root : Slip
  pub is : root_line newest ≡ root ∷ []
  pub num : root_num newest ≡ root.num

pub root_there : (s : Slip) (older : List Slip) → IsRoot (s ∷ older)
root_there s [] = record { root = s; is = refl; num = refl }
root_there s (t ∷ older) = let r = root_there t older in record { root = r.root; is = r.is; num = r.num }

find_last : (p : Slip → Bool) (xs : List Slip) (r : Slip) → p r ≡ true → (c : Slip) × (find p (xs ++ r ∷ []) ≡ Some c)
find_last p [] r hit = (r, rw hit refl)
find_last p (x ∷ xs) r hit =
    elim (cases_Bool (p x)) [
      | inl here ↦ (x, rw here refl)
      | inr past ↦ let rest = find_last p xs r hit in (rest.0, rw past rest.1)
    ]

-- the newest block has a claim
newest_claims : (s : Slip) (older : List Slip) → IsHistory (s ∷ older) → (c : Slip) × (claim (s ∷ older) s ≡ Some c)
newest_claims s older history =
    let r = root_there s older in
    let line : Begins (ancestry (s ∷ older) s.id) = (s, ancestry older s.parent_id, ancestry_met s older s.id (same_id_refl s.id)) in
    let last = root_last (s ∷ older) history s.id line in
    let p = λ (x : Slip). leb x.num (max s.lib_num (root_num (s ∷ older))) in
    let hit : p r.root ≡ true = le-leb _ _ (omega (arith, r.num)) in
    let ends : ancestry (s ∷ older) s.id ≡ last.0 ++ r.root ∷ [] = sym last.1 ∙ ap (λ l. last.0 ++ l) r.is in
    let found = find_last p last.0 r.root hit in
    (found.0, ap (find p) ends ∙ found.1)

pub has_tip : (s : Slip) (older : List Slip) → IsHistory (s ∷ older) → final_tip (s ∷ older) ≡ None → ⊥
has_tip s older history e =
    let c = newest_claims s older history in
    let some : greatest (c.0 ∷ filter_map (claim (s ∷ older)) older) ≡ None = rw c.1 at e in
    greater_is_some (greatest (filter_map (claim (s ∷ older)) older)) c.0 some

finals_begin : (s : Slip) (older : List Slip) → IsHistory (s ∷ older) → (o : Option Slip) → final_tip (s ∷ older) ≡ o → Begins (ancestry_of (s ∷ older) o)
finals_begin s older history None e = absurd (has_tip s older history e)
finals_begin s older history (Some t) e =
    let claimed = tip_claimed (s ∷ older) history t e in
    let r = head_is_found (s ∷ older) t.id t (claim_found (s ∷ older) history claimed.by t claimed.claimed) in
    (t, r.0, r.1)

root_of_finals : (s : Slip) (older : List Slip) → IsHistory (s ∷ older) → (o : Option Slip) → final_tip (s ∷ older) ≡ o → IsSuffix (root_line (s ∷ older)) (ancestry_of (s ∷ older) o)
root_of_finals s older history None e = absurd (has_tip s older history e)
root_of_finals s older history (Some t) e = root_last (s ∷ older) history t.id (finals_begin s older history (Some t) e)

root_is_final : (s : Slip) (older : List Slip) → IsHistory (s ∷ older) → is_final (s ∷ older) (root_there s older).root ≡ true
root_is_final s older history =
    let r = root_there s older in
    has_id-suffix (root_line (s ∷ older)) (final_ancestry (s ∷ older)) r.root.id (root_of_finals s older history (final_tip (s ∷ older)) refl)
    (has_first (root_line (s ∷ older)) r.root [] r.is)

filter_last : (f : Slip → Bool) (xs : List Slip) (r : Slip) → f r ≡ true → filter f (xs ++ r ∷ []) ≡ [] → ⊥
filter_last f [] r hit e = let some : r ∷ [] ≡ [] = rw hit at e in absurd (cc)
filter_last f (x ∷ xs) r hit e =
    elim (cases_Bool (f x)) [
      | inl here ↦ absurd (grind (arith, e, here))
      | inr past ↦ filter_last f xs r hit (rw past at e)
    ]

-- a line that is not empty has a final block
pub line_has_final : (newest line : List Slip) → IsHistory newest → IsLine newest line → filter (is_final newest) line ≡ [] → line ≡ []
line_has_final newest line history Nothing none = refl
line_has_final [] line history (From l x a) none = a.is
line_has_final (s ∷ older) line history (From l x a) none =
    let r = root_there s older in
    let h = head_is_found (s ∷ older) x.id x a.found in
    let last = root_last (s ∷ older) history x.id (x, h.0, h.1) in
    let ends : line ≡ last.0 ++ r.root ∷ [] = a.is ∙ sym last.1 ∙ ap (λ l. last.0 ++ l) r.is in
    absurd (filter_last (is_final (s ∷ older)) last.0 r.root (root_is_final s older history) (sym (ap (filter (is_final (s ∷ older))) ends) ∙ none))
