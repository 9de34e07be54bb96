-- Ancestries in a history.
use Rattle.std.proofs.Common.{arith, ◌≡◌, ◌<◌, ◌≤◌, inl, inr, ℕ, true, false, List, [], ◌∷◌, ◌++◌, Option, Some, None, refl, sym, ◌∙◌, ap, subst, IsSomeAnd}
use Rattle.std.proofs.lemmas.Bool.{cases_Bool, both_ways, false_from_ne_true}
use mathlib.Core.List.{IsSuffix}
use Rattle.block_record.specs.declared.blocks.Slip.{Slip}
use Rattle.block_record.specs.Ids.{same_id, same_id-true}
use Rattle.chain_model.specs.Ancestry.{find_id, has_id, ancestry, IsHistory}
use Rattle.chain_model.proofs.public.ScanFacts.{ancestry_met, ancestry_past}

-- a block of an ancestry is in the history
pub has_id-ancestry : (newest : List Slip) (id j : List ℕ) → has_id (ancestry newest id) j ≡ true → has_id newest j ≡ true
has_id-ancestry [] id j h = h
has_id-ancestry (s ∷ older) id j h = grind (arith, has_id-ancestry older s.parent_id j, has_id-ancestry older id j)

-- a block that is found is there
pub has_id-find_id : (newest : List Slip) (id : List ℕ) (y : Slip) → find_id newest id ≡ Some y → has_id newest id ≡ true
has_id-find_id [] id y h = grind arith
has_id-find_id (s ∷ older) id y h = grind (arith, has_id-find_id older id y)

-- and has the id
pub id-find_id : (newest : List Slip) (id : List ℕ) (y : Slip) → find_id newest id ≡ Some y → y.id ≡ id
id-find_id [] id y h = grind arith
id-find_id (s ∷ older) id y h = grind (arith, id-find_id older id y, same_id-true s.id id)

-- what a history says of its newest block
pub IsHistory-rest : (s : Slip) (older : List Slip) → IsHistory (s ∷ older) → IsHistory older
IsHistory-rest s [] h = tt
IsHistory-rest s (t ∷ older) h = h.1

pub is_fresh : (s : Slip) (older : List Slip) → IsHistory (s ∷ older) → has_id older s.id ≡ false
is_fresh s [] h = refl
is_fresh s (t ∷ older) h = false_from_ne_true _ h.0.fresh

pub some_and : {X : Type 0} (o : Option X) (P : X → Type 0) → IsSomeAnd o P → (x : X) × (o ≡ Some x) × P x
some_and None P h = absurd h
some_and (Some x) P h = (x, refl, h)

pub has_parent : (s : Slip) (older : List Slip) → IsHistory (s ∷ older) → (j : List ℕ) → has_id older j ≡ true
    → (p : Slip) × (find_id older s.parent_id ≡ Some p) × (p.num < s.num)
has_parent s [] h j e = absurd (both_ways _ refl e)
has_parent s (t ∷ older) h j e =
    let p = some_and (find_id (t ∷ older) s.parent_id) (λ q. q.num ≡ s.parent_num) h.0.parent in
    let above : s.parent_num < s.num = h.0.above in
    (p.0, p.1, omega (arith, p.2))

-- one block is passed, or met
pub find_id_past : (s : Slip) (older : List Slip) (id : List ℕ) → same_id s.id id ≡ false → find_id (s ∷ older) id ≡ find_id older id
find_id_past s older id e = rw e refl

pub find_id_at : (s : Slip) (older : List Slip) (id : List ℕ) → same_id s.id id ≡ true → find_id (s ∷ older) id ≡ Some s
find_id_at s older id e = rw e refl

-- what is in the history is not its next block
pub other_id : (s : Slip) (older : List Slip) → IsHistory (s ∷ older) → (j : List ℕ) → has_id older j ≡ true → same_id s.id j ≡ false
other_id s older h j e = false_from_ne_true _ (λ same. both_ways _ (is_fresh s older h) (subst (λ (i : List ℕ). has_id older i ≡ true) (sym (same_id-true s.id j same)) e))

-- what an ancestor of a block is to it
pub record IsAbove (newest : List Slip) (id j : List ℕ) : Type 0 where
  pub line : IsSuffix (ancestry newest j) (ancestry newest id)
  pub nums : (x y : Slip) → find_id newest j ≡ Some x → find_id newest id ≡ Some y → x.num ≤ y.num

-- what stands at the end of a list stands at that of a longer one
pub suffix_cons : (s : Slip) (a b : List Slip) → IsSuffix a b → IsSuffix a (s ∷ b)
suffix_cons s a b h = (s ∷ h.0, ap (λ l. s ∷ l) h.1)

suffix_same : (a b c d : List Slip) → a ≡ c → b ≡ d → IsSuffix c d → IsSuffix a b
suffix_same a b c d e f h = (h.0, ap (λ l. h.0 ++ l) e ∙ h.1 ∙ sym f)

-- the block itself
above_itself : (s : Slip) (older : List Slip) (id j : List ℕ) → same_id s.id id ≡ true → same_id s.id j ≡ true → IsAbove (s ∷ older) id j
above_itself s older id j at same = record {
  line = ([], ancestry_met s older j same ∙ sym (ancestry_met s older id at));
  nums = λ x y fx fy. grind (arith, find_id_at s older id at, find_id_at s older j same);
}

-- a block above the newest
above_newest : (s : Slip) (older : List Slip) (id j : List ℕ) (p : Slip) → same_id s.id id ≡ true → same_id s.id j ≡ false
    → find_id older s.parent_id ≡ Some p → p.num < s.num → IsAbove older s.parent_id j → IsAbove (s ∷ older) id j
above_newest s older id j p at other found less h = record {
  line = suffix_same _ _ _ _ (ancestry_past s older j other) (ancestry_met s older id at) (suffix_cons s _ _ h.line);
  nums = λ x y fx fy.
      let low : x.num ≤ p.num = h.nums x p (sym (find_id_past s older j other) ∙ fx) found in
      let same : Some s ≡ Some y = sym (find_id_at s older id at) ∙ fy in
      grind (arith, low, less, same);
}

-- the newest block makes no difference
above_past : (s : Slip) (older : List Slip) (id j : List ℕ) → same_id s.id id ≡ false → same_id s.id j ≡ false → IsAbove older id j → IsAbove (s ∷ older) id j
above_past s older id j past other h = record {
  line = suffix_same _ _ _ _ (ancestry_past s older j other) (ancestry_past s older id past) h.line;
  nums = λ x y fx fy. h.nums x y (sym (find_id_past s older j other) ∙ fx) (sym (find_id_past s older id past) ∙ fy);
}

has_id_at : (s : Slip) (older : List Slip) (id j : List ℕ) → same_id s.id id ≡ true → same_id s.id j ≡ false → has_id (ancestry (s ∷ older) id) j ≡ true → has_id (ancestry older s.parent_id) j ≡ true
has_id_at s older id j at other h = grind (arith, h)

has_id_past : (s : Slip) (older : List Slip) (id j : List ℕ) → same_id s.id id ≡ false → has_id (ancestry (s ∷ older) id) j ≡ true → has_id (ancestry older id) j ≡ true
has_id_past s older id j past h = grind (arith, h)

pub is_above : (newest : List Slip) → IsHistory newest → (id j : List ℕ) → has_id (ancestry newest id) j ≡ true → IsAbove newest id j
is_above [] history id j h = absurd (both_ways _ refl h)
is_above (s ∷ older) history id j h =
    elim (cases_Bool (same_id s.id id)) [
      | inl at ↦ elim (cases_Bool (same_id s.id j)) [
        | inl same ↦ above_itself s older id j at same
        | inr other ↦
            let below = has_id_at s older id j at other h in
            let p = has_parent s older history j (has_id-ancestry older s.parent_id j below) in
            above_newest s older id j p.0 at other p.1 p.2 (is_above older (IsHistory-rest s older history) s.parent_id j below)
      ]
      | inr past ↦
          let below = has_id_past s older id j past h in
          above_past s older id j past (other_id s older history j (has_id-ancestry older id j below)) (is_above older (IsHistory-rest s older history) id j below)
    ]
