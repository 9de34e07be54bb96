-- The tickets that the seats drew, and a seat that is the only one.
use Rattle.std.proofs.Common.{◌≡◌, ℕ, zero, suc, ◌+◌, ◌≤◌, true, false, List, [], ◌∷◌, ◌++◌, length, set, sym, ap, ◌∙◌, ⊎_elim, arith, true≢false}
use Rattle.std.proofs.lemmas.List.{length-set}
use mathlib.Core.Option.{some, some-injective, some-ne-none}
use lib.ListN.{get_elem?}
use Rattle.atomic_table.proofs.Lists.{at_snoc}
use Rattle.hub_history.specs.declared.view.View.{View}
use Rattle.hub_history.specs.Turns.{drawn_by, AreSole}
use Rattle.hub_history.proofs.Stays.{seats_stay}

module _ {E : Type 0} where
  -- what one seat drew is all that changes
  pub drawn_set : (vs : List (View E)) (id : ℕ) (v w : View E) → get_elem? vs id ≡ some v → drawn_by (set vs id w) + v.drawn ≡ drawn_by vs + w.drawn
  drawn_set [] id v w e = absurd (some-ne-none v (sym e))
  drawn_set (x ∷ xs) zero v w e = let same : x.drawn ≡ v.drawn = ap (λ (u : View E). u.drawn) (some-injective x v e) in omega (arith, same)
  drawn_set (x ∷ xs) (suc i) v w e = let more : drawn_by (set xs i w) + v.drawn ≡ drawn_by xs + w.drawn = drawn_set xs i v w e in omega (arith, more)

  pub drawn_same : (vs : List (View E)) (id : ℕ) (v w : View E) → get_elem? vs id ≡ some v → w.drawn ≡ v.drawn → drawn_by vs ≡ drawn_by (set vs id w)
  drawn_same vs id v w at same = let all : drawn_by (set vs id w) + v.drawn ≡ drawn_by vs + w.drawn = drawn_set vs id v w at in omega (arith, all, same)

  pub drawn_more : (vs : List (View E)) (id : ℕ) (v w : View E) → get_elem? vs id ≡ some v → w.drawn ≡ v.drawn + 1 → drawn_by vs + 1 ≡ drawn_by (set vs id w)
  drawn_more vs id v w at more = let all : drawn_by (set vs id w) + v.drawn ≡ drawn_by vs + w.drawn = drawn_set vs id v w at in omega (arith, all, more)

  -- a new seat drew none
  pub drawn_longer : (vs : List (View E)) (w : View E) → w.drawn ≡ 0 → drawn_by vs ≡ drawn_by (vs ++ w ∷ [])
  drawn_longer [] w none = omega (arith, none)
  drawn_longer (x ∷ xs) w none = ap (λ n. x.drawn + n) (drawn_longer xs w none)

  -- what one seat took in of another was moved
  pub drawn_joined : (vs : List (View E)) (id other : ℕ) (v w both spent : View E) → get_elem? vs id ≡ some v → get_elem? (set vs id both) other ≡ some w → both.drawn ≡ v.drawn + w.drawn → spent.drawn ≡ 0
      → drawn_by vs ≡ drawn_by (set (set vs id both) other spent)
  drawn_joined vs id other v w both spent at at' sums none =
      let first : drawn_by (set vs id both) + v.drawn ≡ drawn_by vs + both.drawn = drawn_set vs id v both at in
      let second : drawn_by (set (set vs id both) other spent) + w.drawn ≡ drawn_by (set vs id both) + spent.drawn = drawn_set (set vs id both) other w spent at' in
      omega (arith, first, second, sums, none)

  pub drawn_at_most : (vs : List (View E)) (id : ℕ) (v : View E) → get_elem? vs id ≡ some v → v.drawn ≤ drawn_by vs
  drawn_at_most [] id v e = absurd (some-ne-none v (sym e))
  drawn_at_most (x ∷ xs) zero v e = let same : x.drawn ≡ v.drawn = ap (λ (u : View E). u.drawn) (some-injective x v e) in omega (arith, same)
  drawn_at_most (x ∷ xs) (suc i) v e = let more : v.drawn ≤ drawn_by xs = drawn_at_most xs i v e in omega (arith, more)

  -- there is one seat
  pub one_seat : (vs : List (View E)) (i j : ℕ) (v w : View E) → length vs ≡ 1 → get_elem? vs i ≡ some v → get_elem? vs j ≡ some w → v ≡ w
  one_seat [] i j v w one at at' = absurd (some-ne-none v (sym at))
  one_seat (x ∷ []) zero zero v w one at at' = sym (some-injective x v at) ∙ some-injective x w at'
  one_seat (x ∷ []) (suc i) j v w one at at' = absurd (some-ne-none v (sym at))
  one_seat (x ∷ []) zero (suc j) v w one at at' = absurd (some-ne-none w (sym at'))
  one_seat (x ∷ y ∷ zs) i j v w one at at' = absurd (omega (arith, one))

  -- and it drew all
  pub drawn_alone : (vs : List (View E)) (id : ℕ) (v : View E) → get_elem? vs id ≡ some v → length vs ≡ 1 → v.drawn ≡ drawn_by vs
  drawn_alone [] id v at one = absurd (some-ne-none v (sym at))
  drawn_alone (x ∷ []) id v at one = let same : x.drawn ≡ v.drawn = ap (λ (u : View E). u.drawn) (one_seat (x ∷ []) 0 id x v one (λ _. some x) at) in omega (arith, same)
  drawn_alone (x ∷ y ∷ zs) id v at one = absurd (omega (arith, one))

  -- a seat that changed its view is the only one only where it was
  pub sole_stays : (vs : List (View E)) (id : ℕ) (v w : View E) → get_elem? vs id ≡ some v → (w.sole ≡ true → v.sole ≡ true) → AreSole vs → AreSole (set vs id w)
  sole_stays vs id v w at was alone = λ j u e sole.
      length-set vs id w ∙ seats_stay (λ i x. x.sole ≡ true → length vs ≡ 1) vs id w (λ s. alone id v at (was s)) (λ i x _ ex s. alone i x ex s) j u e sole

  -- of two seats none is the only one
  pub sole_longer : (vs : List (View E)) (id : ℕ) (v w : View E) → get_elem? vs id ≡ some v → v.sole ≡ false → w.sole ≡ false → AreSole vs → AreSole (vs ++ w ∷ [])
  sole_longer vs id v w at shared fresh alone = λ j u e sole.
      ⊎_elim
      (λ (old : get_elem? vs j ≡ some u). let same : v ≡ u = one_seat vs id j v u (alone j u old sole) at old in
      absurd (true≢false (sym sole ∙ (ap (λ (x : View E). x.sole) (sym same) ∙ shared))))
      (λ (is : w ≡ u). absurd (true≢false (sym sole ∙ (ap (λ (x : View E). x.sole) (sym is) ∙ fresh))))
      (at_snoc vs w u j e)
