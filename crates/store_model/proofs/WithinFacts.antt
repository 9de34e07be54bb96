-- A history within another: its final path is the front of the other's; and two histories of the same blocks.
use Rattle.std.proofs.Common.{arith, ◌≡◌, ◌≤◌, inl, inr, true, List, [], ◌∷◌, Option, Some, None, refl, sym, ◌∙◌, ap, subst, ltb}
use Rattle.std.specs.List.{AllByRecursion, filter}
use Rattle.std.proofs.lemmas.Bool.{cases_Bool, or_cases, ltb-true, ltb-false}
use Rattle.std.proofs.lemmas.Option.{same_Some}
use Rattle.std.proofs.lemmas.List.{append-nil}
use mathlib.Core.List.{IsSuffix}
use Rattle.block_record.specs.declared.blocks.Slip.{Slip}
use Rattle.chain_model.specs.Ancestry.{has_id, ancestry, IsHistory}
use Rattle.chain_model.specs.Finality.{claim, ClaimsAgree, greater, greatest, final_tip, ancestry_of, final_ancestry}
use Rattle.chain_model.specs.Steps.{holds_tip}
use Rattle.chain_laws.specs.Laws.{SameBlocks}
use Rattle.chain_laws.proofs.public.Lines.{is_above}
use Rattle.chain_laws.proofs.public.Growth.{IsFound, claim_found, tip_claimed, all_weaker, greater_cases}
use Rattle.chain_laws.proofs.public.LineFacts.{same_number}
use Rattle.chain_laws.proofs.public.Meeting.{itself_on_path, greater_is_some}
use Rattle.chain_laws.proofs.public.Roots.{has_tip}
use Rattle.chain_laws.proofs.public.Tips.{claim_final, greatest_most, final_in_any_order}
use Rattle.relay_model.specs.Offers.{num_of}
use Rattle.relay_laws.proofs.public.TwoHistories.{IsWithin, same_lines, same_claim}
use Rattle.bundle_model.specs.Members.{Among}
use Rattle.bundle_model.proofs.public.MemberFacts.{among_all, among_filter, filter_among, all_among}
use Rattle.store_model.specs.Laws.{IsSame}
use Rattle.store_model.proofs.RootFacts.{no_found}
use Rattle.bundle_model.proofs.public.StoredFacts.{among_found, found_is_among}

pub within_finals : (a b : List Slip) → IsWithin a b → ClaimsAgree b → IsSuffix (final_ancestry a) (final_ancestry b)
within_finals a b w agreed = go (final_tip a) refl
  where
    other : (t : Slip) → IsFound a t → IsFound b t → (o : Option Slip) → final_tip b ≡ o → ((u : Slip) → final_tip b ≡ Some u → has_id (ancestry b u.id) t.id ≡ true) → IsSuffix (ancestry a t.id) (ancestry_of b o)
    other t fa fb None e on = absurd (empty b w.whole e fb)
      where
        empty : (xs : List Slip) → IsHistory xs → final_tip xs ≡ None → IsFound xs t → ⊥
        empty [] h e' f = no_found t f
        empty (x ∷ xs) h e' f = has_tip x xs h e'
    other t fa fb (Some u) e on = subst (λ (l : List Slip). IsSuffix l (ancestry b u.id)) (sym (same_lines a b w t fa)) (is_above b w.whole u.id t.id (on u e)).line

    go : (o : Option Slip) → final_tip a ≡ o → IsSuffix (final_ancestry a) (final_ancestry b)
    go None e = subst (λ (l : List Slip). IsSuffix l (final_ancestry b)) (sym (ap (ancestry_of a) e)) (final_ancestry b, append-nil (final_ancestry b))
    go (Some t) e =
        let x = tip_claimed a w.history t e in
        let ct : claim b x.by ≡ Some t = sym (same_claim a b w x.by x.found) ∙ x.claimed in
        let fx = w.there x.by x.found in
        let fa = claim_found a w.history x.by t x.claimed in
        let fb = claim_found b w.whole x.by t ct in
        let s = other t fa fb (final_tip b) refl (λ u is. claim_final b w.whole agreed u x.by t is fx ct) in
        subst (λ (l : List Slip). IsSuffix l (final_ancestry b)) (sym (ap (ancestry_of a) e)) s

-- the greatest of a list
greatest_in : (xs : List Slip) (h : Slip) → greatest xs ≡ Some h → Among xs h
greatest_in [] h e = absurd (none e)
  where
    none : None ≡ Some h → ⊥
    none k = grind (arith, k)
greatest_in (x ∷ xs) h e = elim (greater_cases (greatest xs) x h e) [ inl older ↦ inr (greatest_in xs h older) | inr same ↦ inl same ]

greater_most : (o : Option Slip) (x h : Slip) → greater o x ≡ Some h → (x.num ≤ h.num) × ((t : Slip) → o ≡ Some t → t.num ≤ h.num)
greater_most None x h e = let same : x ≡ h = same_Some x h e in (omega (arith, ap (λ (y : Slip). y.num) same), λ t k. absurd (none t k))
  where
    none : (t : Slip) → None ≡ Some t → ⊥
    none t k = grind (arith, k)
greater_most (Some u) x h e =
    elim (cases_Bool (ltb u.num x.num)) [
      | inl less ↦
          let same : x ≡ h = same_Some x h (rw less at e) in
          let l = ltb-true _ _ less in
          (omega (arith, ap (λ (y : Slip). y.num) same), λ t k. omega (arith, ap (λ (y : Slip). y.num) same, l, ap (λ (y : Slip). y.num) (same_Some u t k)))
      | inr more ↦
          let same : u ≡ h = same_Some u h (rw more at e) in
          let l = ltb-false _ _ more in
          (omega (arith, ap (λ (y : Slip). y.num) same, l), λ t k. omega (arith, ap (λ (y : Slip). y.num) same, ap (λ (y : Slip). y.num) (same_Some u t k)))
    ]

greatest_none : (xs : List Slip) (x : Slip) → greatest xs ≡ None → Among xs x → ⊥
greatest_none [] x e h = h
greatest_none (y ∷ xs) x e h = greater_is_some (greatest xs) y e

-- the greatest number of two lists with the same members
nums_same : (xs ys : List Slip) → ((x : Slip) → Among xs x → Among ys x) → ((x : Slip) → Among ys x → Among xs x) → num_of (greatest xs) ≡ num_of (greatest ys)
nums_same xs ys there back = go (greatest xs) (greatest ys) refl refl
  where
    go : (a b : Option Slip) → greatest xs ≡ a → greatest ys ≡ b → num_of a ≡ num_of b
    go None None ea eb = refl
    go None (Some h) ea eb = absurd (greatest_none xs h ea (back h (greatest_in ys h eb)))
    go (Some g) None ea eb = absurd (greatest_none ys g eb (there g (greatest_in xs g ea)))
    go (Some g) (Some h) ea eb =
        let up : g.num ≤ h.num = among_all (λ x. x.num ≤ h.num) ys (greatest_most ys h eb) g (there g (greatest_in xs g ea)) in
        let down : h.num ≤ g.num = among_all (λ x. x.num ≤ g.num) xs (greatest_most xs g ea) h (back h (greatest_in ys h eb)) in
        omega (arith, up, down)

holds_same : (a b : List Slip) (o : Option Slip) (x : Slip) → ancestry a x.id ≡ ancestry b x.id → holds_tip a o x ≡ holds_tip b o x
holds_same a b None x e = refl
holds_same a b (Some t) x e = ap (λ (l : List Slip). has_id l t.id) e

above_there : (a b : List Slip) → IsWithin a b → final_tip a ≡ final_tip b → (x : Slip) → Among (filter (holds_tip a (final_tip a)) a) x → Among (filter (holds_tip b (final_tip b)) b) x
above_there a b w tips x h =
    let p = filter_among (holds_tip a (final_tip a)) a x h in
    let f = among_found a w.history x p.0 in
    let e : holds_tip b (final_tip b) x ≡ true = ap (λ (o : Option Slip). holds_tip b o x) (sym tips) ∙ sym (holds_same a b (final_tip a) x (same_lines a b w x f)) ∙ p.1 in
    among_filter (holds_tip b (final_tip b)) b x (found_is_among b x (w.there x f)) e

-- two histories with the same blocks have one final path, and heads of one number
pub same_heads : (a b : List Slip) → IsWithin a b → ClaimsAgree a → ((x : Slip) → IsFound b x → IsFound a x) → IsSame a b
same_heads a b w agreed back =
    let same : SameBlocks a b = record { there = w.there; back = back } in
    let e = final_in_any_order a b w.history w.whole same agreed in
    let w' : IsWithin b a = record { history = w.whole; whole = w.history; there = back; root = sym w.root } in
    record {
      finals = sym e.1;
      heads = nums_same (filter (holds_tip b (final_tip b)) b) (filter (holds_tip a (final_tip a)) a) (above_there b a w' (sym e.0)) (above_there a b w e.0);
    }
