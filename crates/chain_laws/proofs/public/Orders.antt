-- Whether claims agree does not depend on the order of the blocks.
use Rattle.std.proofs.Common.{arith, ◌≡◌, ◌≤◌, ◌<◌, inl, inr, true, false, List, [], ◌∷◌, ◌++◌, Some, None, refl, sym, ◌∙◌, ap, subst}
use Rattle.std.proofs.lemmas.Bool.{cases_Bool}
use Rattle.std.proofs.lemmas.Option.{same_Some}
use Rattle.block_record.specs.declared.blocks.Slip.{Slip}
use Rattle.block_record.specs.Ids.{same_id, same_id_refl}
use Rattle.chain_model.specs.Ancestry.{find_id, has_id, ancestry, IsHistory}
use Rattle.chain_model.specs.Finality.{root_num, claim}
use Rattle.chain_laws.proofs.public.Lines.{IsHistory-rest, has_parent, id-find_id, find_id_at, find_id_past}
use Rattle.chain_laws.proofs.public.Growth.{IsFound, claim_found, found_past}
use Rattle.chain_laws.proofs.public.Reach.{head_is_found}
use Rattle.chain_laws.specs.Laws.{SameBlocks, ClaimsAgreeInAnyOrder}
use Rattle.chain_laws.proofs.public.LineFacts.{parent_at}
use Rattle.chain_laws.proofs.public.Roots.{root_last, root_there}

-- the root has the least number
parent_found : (s t : Slip) (older : List Slip) → IsHistory (s ∷ t ∷ older) → (p : Slip) × IsFound (t ∷ older) p × (p.num < s.num)
parent_found s t older history =
    let own : has_id (t ∷ older) t.id ≡ true = rw (same_id_refl t.id) refl in
    let p = has_parent s (t ∷ older) history t.id own in
    (p.0, ap (find_id (t ∷ older)) (id-find_id (t ∷ older) s.parent_id p.0 p.1) ∙ p.1, p.2)

pub root_least : (newest : List Slip) → IsHistory newest → (s : Slip) → IsFound newest s → root_num newest ≤ s.num
root_least [] history s found = absurd (grind arith)
root_least (x ∷ []) history s found =
    elim (cases_Bool (same_id x.id s.id)) [
      | inl here ↦ let same : x ≡ s = same_Some x s (sym (find_id_at x [] s.id here) ∙ found) in omega (arith, ap (λ y. y.num) same)
      | inr past ↦ absurd (nothing x s past found)
    ]
  where
    nothing : (y z : Slip) → same_id y.id z.id ≡ false → IsFound (y ∷ []) z → ⊥
    nothing y z past f = let e : None ≡ Some z = sym (find_id_past y [] z.id past) ∙ f in cc
root_least (x ∷ t ∷ older) history s found =
    let rest = IsHistory-rest x (t ∷ older) history in
    elim (cases_Bool (same_id x.id s.id)) [
      | inl here ↦
          let same : x ≡ s = same_Some x s (sym (find_id_at x (t ∷ older) s.id here) ∙ found) in
          let p = parent_found x t older history in
          let low = root_least (t ∷ older) rest p.0 p.1 in
          omega (arith, ap (λ y. y.num) same, low, p.2)
      | inr past ↦ root_least (t ∷ older) rest s (sym (find_id_past x (t ∷ older) s.id past) ∙ found)
    ]

-- the root is there
pub root_found : (s : Slip) (older : List Slip) → IsHistory (s ∷ older) → (r : Slip) × IsFound (s ∷ older) r × (r.num ≡ root_num (s ∷ older))
root_found s [] history = (s, find_id_at s [] s.id (same_id_refl s.id), refl)
root_found s (t ∷ older) history =
    let r = root_found t older (IsHistory-rest s (t ∷ older) history) in
    (r.0, found_past s (t ∷ older) history r.0 r.1, r.2)

not_in_none : (s : Slip) → IsFound [] s → ⊥
not_in_none s found = grind arith

pub same_root : (a b : List Slip) → IsHistory a → IsHistory b → SameBlocks a b → root_num a ≡ root_num b
same_root [] [] ha hb same = refl
same_root [] (y ∷ b) ha hb same = absurd (not_in_none y (same.back y (find_id_at y b y.id (same_id_refl y.id))))
same_root (x ∷ a) [] ha hb same = absurd (not_in_none x (same.there x (find_id_at x a x.id (same_id_refl x.id))))
same_root (x ∷ a) (y ∷ b) ha hb same =
    let r = root_found x a ha in
    let q = root_found y b hb in
    let down = root_least (y ∷ b) hb r.0 (same.there r.0 r.1) in
    let up = root_least (x ∷ a) ha q.0 (same.back q.0 q.1) in
    omega (arith, down, up, r.2, q.2)

-- a block alone on its line is the root
pub alone_is_root : (newest : List Slip) → IsHistory newest → (s : Slip) → ancestry newest s.id ≡ s ∷ [] → s.num ≡ root_num newest
alone_is_root [] history s e = absurd (cc)
alone_is_root (x ∷ older) history s e =
    let r = root_there x older in
    let last = root_last (x ∷ older) history s.id (s, [], e) in
    let ends : last.0 ++ r.root ∷ [] ≡ s ∷ [] = ap (λ l. last.0 ++ l) (sym r.is) ∙ last.1 ∙ e in
    ap (λ y. y.num) (sym (one last.0 r.root s ends)) ∙ sym r.num
  where
    one : (xs : List Slip) (y z : Slip) → xs ++ y ∷ [] ≡ z ∷ [] → y ≡ z
    one [] y z h = grind (arith, h)
    one (w ∷ []) y z h = absurd (grind (arith, h))
    one (w ∷ v ∷ xs) y z h = absurd (grind (arith, h))

-- the two lines of a block
lines_go : (a b : List Slip) → IsHistory a → IsHistory b → SameBlocks a b → (line : List Slip) (s : Slip) → IsFound a s → ancestry a s.id ≡ s ∷ line
    → (other : List Slip) → ancestry b s.id ≡ s ∷ other → line ≡ other
lines_go a b ha hb same [] s found e [] e' = refl
lines_go a b ha hb same [] s found e (q ∷ qs) e' =
    let p = parent_at b hb s q qs e' in
    let low = root_least a ha q (same.back q p.found) in
    absurd (omega (arith, alone_is_root a ha s e, low, p.less))
lines_go a b ha hb same (p ∷ ps) s found e [] e' =
    let q = parent_at a ha s p ps e in
    let low = root_least b hb p (same.there p q.found) in
    absurd (omega (arith, alone_is_root b hb s e', low, q.less))
lines_go a b ha hb same (p ∷ ps) s found e (q ∷ qs) e' =
    let x = parent_at a ha s p ps e in
    let y = parent_at b hb s q qs e' in
    let named : find_id a s.parent_id ≡ Some q = ap (find_id a) (sym (id-find_id b s.parent_id q y.named)) ∙ same.back q y.found in
    let one : p ≡ q = same_Some p q (sym x.named ∙ named) in
    let line : ancestry b p.id ≡ p ∷ qs = subst (λ (z : Slip). ancestry b z.id ≡ z ∷ qs) (sym one) y.line in
    let rest = lines_go a b ha hb same ps p x.found x.line qs line in
    rw (one, rest) refl

pub same_lines : (a b : List Slip) → IsHistory a → IsHistory b → SameBlocks a b → (s : Slip) → IsFound b s → ancestry a s.id ≡ ancestry b s.id
same_lines a b ha hb same s found =
    let f = same.back s found in
    let x = head_is_found a s.id s f in
    let y = head_is_found b s.id s found in
    x.1 ∙ ap (λ l. s ∷ l) (lines_go a b ha hb same x.0 s f x.1 y.0 y.1) ∙ sym y.1

pub claims_agree_in_any_order : ClaimsAgreeInAnyOrder
claims_agree_in_any_order a b ha hb same agreed c d x y fc fd cx cy =
    let claims = λ (s : Slip) (f : IsFound b s). claim_same s f in
    let says = agreed c d x y (same.back c fc) (same.back d fd) (claim_same c fc ∙ cx) (claim_same d fd ∙ cy) in
    let lx = same_lines a b ha hb same x (claim_found b hb c x cx) in
    let ly = same_lines a b ha hb same y (claim_found b hb d y cy) in
    rw (← lx, ← ly) says
  where
    claim_same : (s : Slip) → IsFound b s → claim a s ≡ claim b s
    claim_same s f = rw (same_lines a b ha hb same s f, same_root a b ha hb same) refl
