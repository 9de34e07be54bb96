-- Lines of a history: their tails, their last block, and no block twice.
use Rattle.std.proofs.Common.{arith, ◌==◌, ◌≡◌, ◌≤◌, ◌<◌, inl, inr, ℕ, Bool, true, false, cond, List, [], ◌∷◌, ◌++◌, Option, Some, None, refl, sym, ◌∙◌, ap, subst}
use Rattle.std.specs.Option.{option_map}
use Rattle.std.proofs.lemmas.Bool.{and_parts, eqb-true, cases_Bool, both_ways, false_from_ne_true, or_parts}
use Rattle.std.proofs.lemmas.List.{append-nil}
use Rattle.std.proofs.lemmas.Option.{same_Some}
use Rattle.block_record.specs.declared.blocks.Slip.{Slip}
use Rattle.block_record.specs.declared.blocks.BlockRef.{BlockRef}
use Rattle.block_record.specs.Ids.{same_id, same_id-true, same_id_refl}
use Rattle.chain_model.specs.Ancestry.{find_id, has_id, ancestry, IsHistory}
use Rattle.chain_model.specs.Steps.{keep_while, is_not, ref_of, parent_of, ancestry_at}
use Rattle.chain_model.proofs.public.ScanFacts.{keep_while-all, ancestry_past, ancestry_met}
use Rattle.chain_laws.proofs.public.Lines.{is_above, IsHistory-rest, has_parent, is_fresh, has_id-ancestry, has_id-find_id, find_id_past, find_id_at, other_id}
use Rattle.chain_laws.proofs.public.Growth.{IsFound}
use Rattle.chain_laws.proofs.public.Reach.{line_linked, IsLine, Nothing, From, IsLine_past, ancestry_line, head_is_found}
use Rattle.chain_laws.specs.Standing.{first_of, after_base}

abbrev pub ref_first : List Slip → Option BlockRef
ref_first line = option_map ref_of (first_of line)

-- no id twice
abbrev pub Distinct : List Slip → Type 0
Distinct [] = Unit {0}
Distinct (s ∷ rest) = (has_id rest s.id ≡ false) × Distinct rest

ancestry_distinct : (newest : List Slip) → IsHistory newest → (id : List ℕ) → Distinct (ancestry newest id)
ancestry_distinct [] history id = tt
ancestry_distinct (s ∷ older) history id =
    let rest = IsHistory-rest s older history in
    let new : has_id (ancestry older s.parent_id) s.id ≡ false =
    false_from_ne_true _ (λ h. both_ways _ (is_fresh s older history) (has_id-ancestry older s.parent_id s.id h)) in
    let P : Bool → Type 0 = λ t. Distinct (cond t (s ∷ ancestry older s.parent_id) (ancestry older id)) in
    elim (same_id s.id id) as P [ true ↦ (new, ancestry_distinct older rest s.parent_id) | false ↦ ancestry_distinct older rest id ]

pub line_distinct : (newest : List Slip) → IsHistory newest → (line : List Slip) → IsLine newest line → Distinct line
line_distinct newest history line Nothing = tt
line_distinct newest history line (From l s a) = subst Distinct (sym a.is) (ancestry_distinct newest history s.id)

-- before a block of a line there is none with its id
not_before : (xs : List Slip) (s : Slip) (ys : List Slip) → Distinct (xs ++ s ∷ ys) → has_id xs s.id ≡ false
not_before [] s ys d = refl
not_before (x ∷ xs) s ys d =
    let below = not_before xs s ys d.1 in
    let other : same_id x.id s.id ≡ false = false_from_ne_true _ (λ same. both_ways _ (rw (same_id-true x.id s.id same) at d.0) (has_mid xs s ys)) in
    rw (other, below) refl
  where
    has_mid : (zs : List Slip) (b : Slip) (cs : List Slip) → has_id (zs ++ b ∷ cs) b.id ≡ true
    has_mid [] b cs = rw (same_id_refl b.id) refl
    has_mid (a ∷ zs) b cs = grind (arith, has_mid zs b cs)

-- the tail of an ancestry is that of the parent
pub record Tail (newest rest : List Slip) (s : Slip) : Type 0 where
  pub line : IsLine newest rest
  pub parent : (p : Slip) (ps : List Slip) → rest ≡ p ∷ ps → find_id newest s.parent_id ≡ Some p
  pub less : (p : Slip) (ps : List Slip) → rest ≡ p ∷ ps → p.num < s.num

first_found : (newest : List Slip) (id : List ℕ) (p : Slip) (ps : List Slip) → ancestry newest id ≡ p ∷ ps → find_id newest id ≡ Some p
first_found [] id p ps e = absurd (cc)
first_found (s ∷ older) id p ps e =
    elim (cases_Bool (same_id s.id id)) [
      | inl here ↦ let same : s ≡ p = grind (arith, e, here) in find_id_at s older id here ∙ ap (λ x. Some x) same
      | inr past ↦ find_id_past s older id past ∙ first_found older id p ps (sym (ancestry_past s older id past) ∙ e)
    ]

tail_same : (newest a b : List Slip) (s t : Slip) → a ≡ b → s ≡ t → Tail newest a s → Tail newest b t
tail_same newest a b s t e f h = subst (λ (x : Slip). Tail newest b x) f (subst (λ (x : List Slip). Tail newest x s) e h)

ancestry_tail : (newest : List Slip) → IsHistory newest → (id : List ℕ) (s : Slip) (rest : List Slip) → ancestry newest id ≡ s ∷ rest → Tail newest rest s
ancestry_tail [] history id s rest e = absurd (cc)
ancestry_tail (t ∷ older) history id s rest e =
    let before = IsHistory-rest t older history in
    elim (cases_Bool (same_id t.id id)) [
      | inl here ↦
          let cut : (t ∷ ancestry older t.parent_id) ≡ s ∷ rest = sym (ancestry_met t older id here) ∙ e in
          let same : t ≡ s = grind (arith, cut) in
          let below : ancestry older t.parent_id ≡ rest = grind (arith, cut) in
          tail_same (t ∷ older) (ancestry older t.parent_id) rest t s below same (record {
            line = IsLine_past t older history _ (ancestry_line older before t.parent_id);
            parent = λ p ps is.
                let found = first_found older t.parent_id p ps is in
                find_id_past t older t.parent_id (other_id t older history t.parent_id (has_id-find_id older t.parent_id p found)) ∙ found;
            less = λ p ps is.
                let found = first_found older t.parent_id p ps is in
                let parent = has_parent t older history t.parent_id (has_id-find_id older t.parent_id p found) in
                let one : parent.0 ≡ p = same_Some parent.0 p (sym parent.1 ∙ found) in
                subst (λ (q : Slip). q.num < t.num) one parent.2;
          })
      | inr past ↦
          let r = ancestry_tail older before id s rest (sym (ancestry_past t older id past) ∙ e) in
          record {
            line = IsLine_past t older history rest r.line;
            parent = λ p ps is.
                let found = r.parent p ps is in
                find_id_past t older s.parent_id (other_id t older history s.parent_id (has_id-find_id older s.parent_id p found)) ∙ found;
            less = r.less;
          }
    ]

line_end : (newest : List Slip) (l : List Slip) → IsLine newest l → (s : Slip) (rest : List Slip) → l ≡ s ∷ rest → (ancestry newest s.id ≡ s ∷ rest) × IsFound newest s
line_end newest l Nothing s rest e = absurd (cc)
line_end newest l (From k x a) s rest e =
    let r = head_is_found newest x.id x a.found in
    let cut : (x ∷ r.0) ≡ s ∷ rest = sym r.1 ∙ sym a.is ∙ e in
    let same : x ≡ s = grind (arith, cut) in
    (subst (λ (y : Slip). ancestry newest y.id ≡ s ∷ rest) same (sym a.is ∙ e), subst (IsFound newest) same a.found)

-- a line is the ancestry of its first block, which is found
pub line_is : (newest : List Slip) (s : Slip) (rest : List Slip) → IsLine newest (s ∷ rest) → ancestry newest s.id ≡ s ∷ rest
line_is newest s rest l = (line_end newest (s ∷ rest) l s rest refl).0

pub first_is_found : (newest : List Slip) (s : Slip) (rest : List Slip) → IsLine newest (s ∷ rest) → IsFound newest s
first_is_found newest s rest l = (line_end newest (s ∷ rest) l s rest refl).1

pub line_tail : (newest : List Slip) → IsHistory newest → (s : Slip) (rest : List Slip) → IsLine newest (s ∷ rest) → IsLine newest rest
line_tail newest history s rest l = (ancestry_tail newest history s.id s rest (line_is newest s rest l)).line

pub line_suffix : (newest : List Slip) → IsHistory newest → (xs ys : List Slip) → IsLine newest (xs ++ ys) → IsLine newest ys
line_suffix newest history [] ys l = l
line_suffix newest history (x ∷ xs) ys l = line_suffix newest history xs ys (line_tail newest history x (xs ++ ys) l)

-- the parent that a block of a line names is the next, by number and id
pub parent_next : (newest : List Slip) → IsHistory newest → (s p : Slip) (ps : List Slip) → IsLine newest (s ∷ p ∷ ps) → parent_of s ≡ ref_of p
parent_next newest history s p ps l =
    let child = and_parts (same_id s.parent_id p.id) (s.parent_num == p.num) (line_linked newest history (s ∷ p ∷ ps) l).0 in
    same_parts (parent_of s) p (eqb-true s.parent_num p.num child.1) (same_id-true s.parent_id p.id child.0)
  where
    same_parts : (r : BlockRef) (x : Slip) → r.num ≡ x.num → r.id ≡ x.id → r ≡ ref_of x
    same_parts r x e f = let y : record { num = r.num; id = r.id } ≡ ref_of x = rw (e, f) refl in y

-- the line of a first block is the line
pub line_back : (newest line : List Slip) → IsLine newest line → ancestry_at newest (ref_first line) ≡ line
line_back newest [] l = refl
line_back newest (s ∷ rest) l = line_is newest s rest l

-- a block and its parent
pub record Parent (newest : List Slip) (s p : Slip) (ps : List Slip) : Type 0 where
  pub found : IsFound newest p
  pub named : find_id newest s.parent_id ≡ Some p
  pub less : p.num < s.num
  pub line : ancestry newest p.id ≡ p ∷ ps

pub parent_at : (newest : List Slip) → IsHistory newest → (s p : Slip) (ps : List Slip) → ancestry newest s.id ≡ s ∷ p ∷ ps → Parent newest s p ps
parent_at newest history s p ps e =
    let t = ancestry_tail newest history s.id s (p ∷ ps) e in
    record {
      found = first_is_found newest p ps t.line;
      named = t.parent p ps refl;
      less = t.less p ps refl;
      line = line_is newest p ps t.line;
    }

-- a block with the number of one on whose path it is, is that one
pub not_below : (newest : List Slip) → IsHistory newest → (x y : Slip) (rest : List Slip) → ancestry newest y.id ≡ y ∷ rest → has_id rest x.id ≡ true → IsFound newest x → y.num ≤ x.num → ⊥
not_below newest history x y [] line on fx le = both_ways _ refl on
not_below newest history x y (p ∷ ps) line on fx le =
    let parent = parent_at newest history y p ps line in
    let on' : has_id (ancestry newest p.id) x.id ≡ true = rw parent.line on in
    let low = (is_above newest history p.id x.id on').nums x p fx parent.found in
    omega (arith, low, parent.less, le)

pub same_number : (newest : List Slip) → IsHistory newest → (x y : Slip) → IsFound newest x → IsFound newest y → has_id (ancestry newest y.id) x.id ≡ true → y.num ≤ x.num → x ≡ y
same_number newest history x y fx fy on le =
    let r = head_is_found newest y.id y fy in
    elim (cases_Bool (same_id y.id x.id)) [
      | inl same ↦
          let id : y.id ≡ x.id = same_id-true y.id x.id same in
          let fx' : find_id newest y.id ≡ Some x = ap (find_id newest) id ∙ fx in
          same_Some x y (sym fx' ∙ fy)
      | inr other ↦
          let cons : has_id (y ∷ r.0) x.id ≡ true = rw r.1 at on in
          let rest : has_id r.0 x.id ≡ true = grind (arith, cons, other) in
          absurd (not_below newest history x y r.0 r.1 rest fx le)
    ]

-- what stands after the base: before its line, which has no block twice
keep_before : (r : BlockRef) (xs : List Slip) (s : Slip) (ys : List Slip) → s.id ≡ r.id → has_id xs s.id ≡ false → keep_while (is_not (Some r)) (xs ++ s ∷ ys) ≡ xs
keep_before r [] s ys same none = let e : same_id s.id r.id ≡ true = rw same (same_id_refl r.id) in rw e refl
keep_before r (x ∷ xs) s ys same none =
    let parts = or_parts (same_id x.id s.id) (has_id xs s.id) none in
    let e : same_id x.id r.id ≡ false = subst (λ (i : List ℕ). same_id x.id i ≡ false) same parts.0 in
    rw e (ap (λ l. x ∷ l) (keep_before r xs s ys same parts.1))

-- the line of the base
abbrev pub IsBase : Option BlockRef → List Slip → Type 0
IsBase None ys = ys ≡ []
IsBase (Some r) [] = ⊥
IsBase (Some r) (s ∷ ys) = (s.id ≡ r.id) × (s.num ≡ r.num)

pub after_base_of : (base : Option BlockRef) (xs ys : List Slip) → IsBase base ys → Distinct (xs ++ ys) → after_base base (xs ++ ys) ≡ xs
after_base_of None xs ys none d = rw none (keep_while-all (xs ++ []) ∙ append-nil xs)
after_base_of (Some r) xs [] at d = absurd at
after_base_of (Some r) xs (s ∷ ys) at d = keep_before r xs s ys at.0 (not_before xs s ys d)
