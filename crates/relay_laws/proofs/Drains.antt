-- In which order waiting blocks are taken in.
use Rattle.std.proofs.Common.{arith, ◌≡◌, ◌≤◌, ◌<◌, ◌⊎◌, inl, inr, ℕ, zero, suc, Bool, true, false, not, cond, List, [], ◌∷◌, ◌++◌, Option, Some, None, refl, sym, ◌∙◌, ap, subst, ltb}
use Rattle.std.specs.List.{AllByRecursion, filter}
use Rattle.std.proofs.lemmas.Bool.{cases_Bool, both_ways, or_cases, ltb-true, ltb-false}
use Rattle.std.proofs.lemmas.Option.{same_Some}
use Rattle.block_record.specs.declared.blocks.Slip.{Slip}
use Rattle.block_record.specs.Ids.{same_id, same_id_refl}
use Rattle.chain_model.specs.Ancestry.{has_id}
use Rattle.chain_laws.proofs.public.Lines.{find_id_at}
use Rattle.chain_laws.proofs.public.Growth.{IsFound, all_weaker}
use Rattle.relay_model.specs.declared.answers.Conflict.{Conflict as Clash}
use Rattle.relay_model.specs.Worlds.{lesser, least, next_waiting, without}
use Rattle.relay_model.specs.Offers.{Intake, clash, take_judged, take_one, take_in}
use Rattle.relay_model.specs.Orders.{position}
use Rattle.relay_model.proofs.public.Intakes.{all_filter, all_pass, all_both, least_is, no_least, next_is, IsTaking, keeps_one}
use Rattle.relay_laws.proofs.Moves.{moves}

abbrev pub Pairs : (Slip → Slip → Type 0) → List Slip → Type 0
Pairs P [] = Unit {0}
Pairs P (x ∷ rest) = AllByRecursion (P x) rest × Pairs P rest

pub pairs_filter : (P : Slip → Slip → Type 0) (p : Slip → Bool) (xs : List Slip) → Pairs P xs → Pairs P (filter p xs)
pairs_filter P p [] d = tt
pairs_filter P p (x ∷ xs) d =
    let rest = pairs_filter P p xs d.1 in
    let Q : Bool → Type 0 = λ t. Pairs P (cond t (x ∷ filter p xs) (filter p xs)) in
    elim (p x) as Q [ true ↦ (all_filter (P x) p xs d.0, rest) | false ↦ rest ]

-- received later
abbrev pub Later : List Slip → Slip → Slip → Type 0
Later received x y = position received y < position received x

-- with a greater number, or the same number and received later
abbrev pub Above : List Slip → Slip → Slip → Type 0
Above received x y = (y.num < x.num) ⊎ ((x.num ≡ y.num) × (position received y < position received x))

above_trans : (received : List Slip) (x y z : Slip) → Above received x y → Above received y z → Above received x z
above_trans received x y z (inl a) (inl b) = inl (omega (arith, a, b))
above_trans received x y z (inl a) (inr b) = inl (let e = b.0 in omega (arith, a, e))
above_trans received x y z (inr a) (inl b) = inl (let e = a.0 in omega (arith, e, b))
above_trans received x y z (inr a) (inr b) = inr (a.0 ∙ b.0, let p = a.1 in let q = b.1 in omega (arith, p, q))

above_all : (received : List Slip) (x y : Slip) (ys : List Slip) → Above received x y → AllByRecursion (Above received y) ys → AllByRecursion (Above received x) ys
above_all received x y [] a all = tt
above_all received x y (z ∷ zs) a all = (above_trans received x y z a all.0, above_all received x y zs a all.1)

-- the least is before the others
least_first : (received xs : List Slip) → Pairs (Later received) xs → (x : Slip) → least xs ≡ Some x → AllByRecursion (λ y. (y ≡ x) ⊎ Above received y x) xs
least_first received [] d x e = tt
least_first received (z ∷ older) d x e = go (least older) refl e (λ u h. least_first received older d.1 u h)
  where
    lower : (u : Slip) → z.num < u.num → z ≡ x → (ys : List Slip) → AllByRecursion (λ y. (y ≡ u) ⊎ Above received y u) ys → AllByRecursion (λ y. (y ≡ x) ⊎ Above received y x) ys
    lower u less same [] all = tt
    lower u less same (y ∷ ys) all = (inr (inl (subst (λ (v : Slip). v.num < y.num) same (one all.0))), lower u less same ys all.1)
      where
        one : (y ≡ u) ⊎ Above received y u → z.num < y.num
        one (inl is) = subst (λ (v : Slip). z.num < v.num) (sym is) less
        one (inr (inl a)) = omega (arith, less, a)
        one (inr (inr a)) = let k = a.0 in omega (arith, less, k)

    go : (o : Option Slip) → least older ≡ o → lesser o z ≡ Some x → ((u : Slip) → least older ≡ Some u → AllByRecursion (λ y. (y ≡ u) ⊎ Above received y u) older)
        → AllByRecursion (λ y. (y ≡ x) ⊎ Above received y x) (z ∷ older)
    go None is h ih = (inl (same_Some z x h), subst (AllByRecursion (λ y. (y ≡ x) ⊎ Above received y x)) (sym (no_least older is)) tt)
    go (Some u) is h ih =
        elim (cases_Bool (ltb z.num u.num)) [
          | inl less ↦ let same : z ≡ x = grind (arith, h, less) in (inl same, lower u (ltb-true _ _ less) same older (ih u is))
          | inr more ↦
              let same : u ≡ x = grind (arith, h, more) in
              let later : Later received z u = least_is (λ y. position received y < position received z) older u d.0 is in
              (inr (subst (Above received z) same (up (ltb-false _ _ more) later)), subst (λ (v : Slip). AllByRecursion (λ y. (y ≡ v) ⊎ Above received y v) older) same (ih u is))
        ]
      where
        up : u.num ≤ z.num → Later received z u → Above received z u
        up le later = elim (cases_Bool (ltb u.num z.num)) [ inl less ↦ inl (ltb-true _ _ less) | inr not' ↦ let ge = ltb-false _ _ not' in inr (omega (arith, le, ge), later) ]

pub unfilter : (P : Slip → Type 0) (p : Slip → Bool) (xs : List Slip) → AllByRecursion P (filter p xs) → AllByRecursion (λ y. p y ≡ true → P y) xs
unfilter P p [] all = tt
unfilter P p (x ∷ xs) all = go (p x) refl all (λ h. unfilter P p xs h)
  where
    go : (b : Bool) → p x ≡ b → AllByRecursion P (cond b (x ∷ filter p xs) (filter p xs)) → (AllByRecursion P (filter p xs) → AllByRecursion (λ y. p y ≡ true → P y) xs) → AllByRecursion (λ y. p y ≡ true → P y) (x ∷ xs)
    go true e h ih = ((λ hit. h.0), ih h.1)
    go false e h ih = ((λ hit. absurd (both_ways _ e hit)), ih h)

-- while blocks are taken in: those taken, the last of them, and that each block that may be taken is above it
pub record IsDraining (received base : List Slip) (d : Intake) (last : Slip) : Type 0 where
  pub rest : List Slip
  pub is : (last ∷ rest) ++ base ≡ d.history
  pub pairs : Pairs (Above received) (last ∷ rest)
  pub places : Pairs (Later received) d.waiting
  pub ahead : AllByRecursion (λ y. has_id d.history y.parent_id ≡ true → Above received y last) d.waiting

-- where a block's parent is in the history, its number is below the block's
abbrev pub Honest : List Slip → Slip → Type 0
Honest newest y = (x : Slip) → IsFound newest x → same_id x.id y.parent_id ≡ true → x.num < y.num

drain_judged : (received base : List Slip) (d : Intake) (last x : Slip) → next_waiting d.history d.waiting ≡ Some x → IsDraining received base d last
    → AllByRecursion (λ y. same_id x.id y.parent_id ≡ true → x.num < y.num) d.waiting → IsDraining received base (take_judged d x None) x
drain_judged received base d last x e r honest =
    let is = next_is d.history d.waiting x e in
    let keep = λ (y : Slip). not (same_id y.id x.id) in
    let p = λ (y : Slip). has_id d.history y.parent_id in
    let own : Above received x last = is.has (λ y. has_id d.history y.parent_id ≡ true → Above received y last) r.ahead is.parent in
    let first = least_first received (filter p d.waiting) (pairs_filter (Later received) p d.waiting r.places) x e in
    let open' = unfilter (λ y. (y ≡ x) ⊎ Above received y x) p d.waiting first in
    record {
      rest = last ∷ r.rest;
      is = ap (λ l. x ∷ l) r.is;
      pairs = ((own, above_all received x last r.rest own r.pairs.0), r.pairs);
      places = pairs_filter (Later received) keep d.waiting r.places;
      ahead = all_both (λ y. keep y ≡ true) (λ y. keep y ≡ true → has_id (x ∷ d.history) y.parent_id ≡ true → Above received y x) (λ y. has_id (x ∷ d.history) y.parent_id ≡ true → Above received y x) (λ y k h. h k)
          (without x d.waiting) (all_pass keep d.waiting) (all_filter _ keep d.waiting
          (all_both (λ y. same_id x.id y.parent_id ≡ true → x.num < y.num) (λ y. p y ≡ true → (y ≡ x) ⊎ Above received y x) (λ y. keep y ≡ true → has_id (x ∷ d.history) y.parent_id ≡ true → Above received y x) (λ y h f. each y h f) d.waiting honest open'));
    }
  where
    each : (y : Slip) → (same_id x.id y.parent_id ≡ true → x.num < y.num) → (has_id d.history y.parent_id ≡ true → (y ≡ x) ⊎ Above received y x) → not (same_id y.id x.id) ≡ true → has_id (x ∷ d.history) y.parent_id ≡ true → Above received y x
    each y honest' first' kept on =
        elim (or_cases (same_id x.id y.parent_id) (has_id d.history y.parent_id) on) [
          | inl child ↦ inl (honest' child)
          | inr old ↦ elim (first' old) [
            | inl same ↦ absurd (itself same kept)
            | inr above ↦ above
          ]
        ]
      where
        itself : y ≡ x → not (same_id y.id x.id) ≡ true → ⊥
        itself same k = let h : same_id y.id x.id ≡ true = ap (λ (z : Slip). same_id z.id x.id) same ∙ same_id_refl x.id in both_ways _ (ap not h) k

drain_one : (received base : List Slip) (d : Intake) (last : Slip) (o : Option Slip) → next_waiting d.history d.waiting ≡ o → IsTaking d → IsDraining received base d last → (F : List Slip)
    → ((x : Slip) → IsFound (take_one d o).history x → IsFound F x) → AllByRecursion (Honest F) d.waiting → (take_one d o).dropped ≡ [] → (l : Slip) × IsDraining received base (take_one d o) l
drain_one received base d last None e t r F there honest none = (last, r)
drain_one received base d last (Some x) e t r F there honest none = go (clash d.history x) refl there none
  where
    go : (o : Option Clash) → clash d.history x ≡ o → ((y : Slip) → IsFound (take_judged d x o).history y → IsFound F y) → (take_judged d x o).dropped ≡ [] → (l : Slip) × IsDraining received base (take_judged d x o) l
    go None k in_F none' =
        let fx : IsFound F x = in_F x (find_id_at x d.history x.id (same_id_refl x.id)) in
        (x, drain_judged received base d last x e r (all_weaker (Honest F) (λ y. same_id x.id y.parent_id ≡ true → x.num < y.num) (λ y h child. h x fx child) d.waiting honest))
    go (Some c) k in_F none' = absurd (filled none')
      where
        filled : c ∷ d.dropped ≡ [] → ⊥
        filled h = cc

waiting_all : (P : Slip → Type 0) (d : Intake) (o : Option Slip) → AllByRecursion P d.waiting → AllByRecursion P (take_one d o).waiting
waiting_all P d None all = all
waiting_all P d (Some x) all = go (clash d.history x)
  where
    go : (o : Option Clash) → AllByRecursion P (take_judged d x o).waiting
    go None = all_filter P _ d.waiting all
    go (Some c) = all_filter P _ d.waiting all

pub drain : (received base : List Slip) (n : ℕ) (d : Intake) (last : Slip) → IsTaking d → IsDraining received base d last → AllByRecursion (Honest (take_in n d).history) d.waiting
    → (take_in n d).dropped ≡ [] → (l : Slip) × IsDraining received base (take_in n d) l
drain received base zero d last t r honest none = (last, r)
drain received base (suc n) d last t r honest none =
    let next = next_waiting d.history d.waiting in
    let after = take_one d next in
    let t' = keeps_one d t next refl in
    let m = moves n after t' in
    let one = drain_one received base d last next refl t r (take_in n after).history m.keeps honest (m.drops none) in
    drain received base n after one.0 t' one.1 (waiting_all (Honest (take_in n after).history) d next honest) none
