-- Lines of a history fall, and paths climb.
use Rattle.std.proofs.Common.{arith, ◌≡◌, ◌≤◌, ◌<◌, ◌+◌, ◌⊎◌, inl, inr, ℕ, Bool, true, false, List, [], ◌∷◌, ◌++◌, reverse, Option, Some, None, refl, sym, ◌∙◌, ap, subst, ltb, leb}
use Rattle.std.specs.List.{AllByRecursion, filter}
use Rattle.std.proofs.lemmas.Bool.{cases_lt, lt-ltb, le-leb, false_from_ne_true, ltb-true, leb-true}
use mathlib.Core.List.{IsPrefix}
use Rattle.block_record.specs.declared.blocks.Slip.{Slip}
use Rattle.chain_model.specs.Ancestry.{IsHistory}
use Rattle.chain_model.specs.Finality.{final_tip, ancestry_of, final_ancestry}
use Rattle.chain_laws.proofs.public.Growth.{all_weaker, claim_found, tip_claimed}
use Rattle.chain_laws.proofs.public.Reach.{IsLine, head_is_found}
use Rattle.chain_laws.proofs.public.LineFacts.{line_is, line_tail, parent_at}
use Rattle.chain_laws.proofs.public.Roots.{has_tip}
use Rattle.relay_model.specs.Offers.{tip_num, num_of}
use Rattle.bundle_model.specs.Bundles.{is_within}
use Rattle.bundle_model.proofs.public.MemberFacts.{all_append, among_all, among_right, reverse-push, filter_none}

pub leb_no : (a b : ℕ) → b < a → leb a b ≡ false
leb_no a b h = false_from_ne_true _ (λ e. let le = leb-true a b e in omega (arith, le, h))

pub ltb_no : (a b : ℕ) → b ≤ a → ltb a b ≡ false
ltb_no a b h = false_from_ne_true _ (λ e. let less = ltb-true a b e in omega (arith, less, h))

-- each number is greater than all after it
abbrev pub Falls : List Slip → Type 0
Falls [] = Unit {0}
Falls (s ∷ rest) = AllByRecursion (λ t. t.num < s.num) rest × Falls rest

-- each number is less than all after it
abbrev pub Climbs : List Slip → Type 0
Climbs [] = Unit {0}
Climbs (s ∷ rest) = AllByRecursion (λ t. s.num < t.num) rest × Climbs rest

climbs_push : (xs : List Slip) (s : Slip) → Climbs xs → AllByRecursion (λ t. t.num < s.num) xs → Climbs (xs ++ s ∷ [])
climbs_push [] s c all = (tt, tt)
climbs_push (x ∷ xs) s c all = (all_append (λ t. x.num < t.num) xs (s ∷ []) c.0 (all.0, tt), climbs_push xs s c.1 all.1)

all_reverse : (P : Slip → Type 0) (xs : List Slip) → AllByRecursion P xs → AllByRecursion P (reverse xs)
all_reverse P [] all = tt
all_reverse P (x ∷ xs) all = subst (AllByRecursion P) (sym (reverse-push x xs)) (all_append P (reverse xs) (x ∷ []) (all_reverse P xs all.1) (all.0, tt))

pub falls_reverse : (xs : List Slip) → Falls xs → Climbs (reverse xs)
falls_reverse [] f = tt
falls_reverse (x ∷ xs) f = subst Climbs (sym (reverse-push x xs)) (climbs_push (reverse xs) x (falls_reverse xs f.1) (all_reverse (λ t. t.num < x.num) xs f.0))

below_first : (s p : Slip) (ps : List Slip) → p.num < s.num → Falls (p ∷ ps) → AllByRecursion (λ t. t.num < s.num) (p ∷ ps)
below_first s p ps less f = (less, all_weaker (λ t. t.num < p.num) (λ t. t.num < s.num) (λ t h. omega (arith, h, less)) ps f.0)

pub line_falls : (newest : List Slip) → IsHistory newest → (line : List Slip) → IsLine newest line → Falls line
line_falls newest history [] l = tt
line_falls newest history (s ∷ []) l = (tt, tt)
line_falls newest history (s ∷ p ∷ ps) l =
    let rest = line_falls newest history (p ∷ ps) (line_tail newest history s (p ∷ ps) l) in
    let less = (parent_at newest history s p ps (line_is newest s (p ∷ ps) l)).less in
    (below_first s p ps less rest, rest)

-- what stands before a block of a falling line is above it
pub falls_above : (xs : List Slip) (s : Slip) (rest : List Slip) → Falls (xs ++ s ∷ rest) → AllByRecursion (λ t. s.num < t.num) xs
falls_above [] s rest f = tt
falls_above (x ∷ xs) s rest f = (among_all (λ t. t.num < x.num) (xs ++ s ∷ rest) f.0 s (among_right xs (s ∷ rest) s (inl refl)), falls_above xs s rest f.1)

-- whether a number is below a bound
abbrev pub is_below : ℕ → Slip → Bool
is_below k s = ltb s.num k

-- what is below a base and what is within it are what is below its end
pub climb_split : (size base : ℕ) (xs : List Slip) → Climbs xs → filter (is_below base) xs ++ filter (is_within size base) xs ≡ filter (is_below (base + size)) xs
climb_split size base [] c = refl
climb_split size base (x ∷ xs) c =
    let ih = climb_split size base xs c.1 in
    elim (cases_lt x.num base) [
      | inl low ↦
          let e1 = lt-ltb x.num base low in
          let e2 = leb_no base x.num low in
          let e3 : ltb x.num (base + size) ≡ true = lt-ltb x.num (base + size) (omega (arith, low)) in
          rw (e1, e2, e3) (ap (λ l. x ∷ l) ih)
      | inr in' ↦
          let e1 = ltb_no x.num base in' in
          let none : filter (is_below base) xs ≡ [] =
          filter_none (is_below base) xs (all_weaker (λ t. x.num < t.num) (λ t. ltb t.num base ≡ false) (λ t h. ltb_no t.num base (omega (arith, h, in'))) xs c.0) in
          let ih' : filter (is_within size base) xs ≡ filter (is_below (base + size)) xs = ap (λ l. l ++ filter (is_within size base) xs) (sym none) ∙ ih in
          elim (cases_lt x.num (base + size)) [
            | inl less ↦
                let e2 = le-leb base x.num in' in
                let e3 = lt-ltb x.num (base + size) less in
                rw (e1, none, e2, e3) (ap (λ l. x ∷ l) ih')
            | inr high ↦
                let e2 = le-leb base x.num in' in
                let e3 = ltb_no x.num (base + size) high in
                rw (e1, none, e2, e3) ih'
          ]
    ]

pub below_prefix : (k : ℕ) (xs : List Slip) → Climbs xs → IsPrefix (filter (is_below k) xs) xs
below_prefix k [] c = ([], refl)
below_prefix k (x ∷ xs) c =
    elim (cases_lt x.num k) [
      | inl low ↦
          let e = lt-ltb x.num k low in
          let r = below_prefix k xs c.1 in
          rw e (r.0, ap (λ l. x ∷ l) r.1)
      | inr high ↦
          let e = ltb_no x.num k high in
          let none : filter (is_below k) xs ≡ [] =
          filter_none (is_below k) xs (all_weaker (λ t. x.num < t.num) (λ t. ltb t.num k ≡ false) (λ t h. ltb_no t.num k (omega (arith, h, high))) xs c.0) in
          rw (e, none) (x ∷ xs, refl)
    ]

-- the final path and its tip
pub record TipLine (newest : List Slip) : Type 0 where
  pub tip : Slip
  pub rest : List Slip
  pub line : final_ancestry newest ≡ tip ∷ rest
  pub is : final_tip newest ≡ Some tip

pub record NoTip (newest : List Slip) : Type 0 where
  pub none : newest ≡ []
  pub line : final_ancestry newest ≡ []
  pub num : tip_num newest ≡ 0

pub tip_line : (newest : List Slip) → IsHistory newest → NoTip newest ⊎ TipLine newest
tip_line newest history = go (final_tip newest) refl
  where
    nothing : (xs : List Slip) → IsHistory xs → final_tip xs ≡ None → xs ≡ []
    nothing [] h e = refl
    nothing (x ∷ xs) h e = absurd (has_tip x xs h e)

    go : (o : Option Slip) → final_tip newest ≡ o → NoTip newest ⊎ TipLine newest
    go None e = inl (record { none = nothing newest history e; line = ap (ancestry_of newest) e; num = ap num_of e })
    go (Some t) e =
        let x = tip_claimed newest history t e in
        let r = head_is_found newest t.id t (claim_found newest history x.by t x.claimed) in
        inr (record { tip = t; rest = r.0; line = ap (ancestry_of newest) e ∙ r.1; is = e })
