-- Blocks that are passed stay so while the final path goes on.
use Rattle.std.proofs.Common.{arith, ◌≡◌, ◌≤◌, ◌<◌, ◌+◌, inl, inr, ℕ, List, [], ◌∷◌, ◌++◌, Some, refl, sym, ◌∙◌, ap, subst, IsSomeAnd}
use mathlib.Core.List.{IsSuffix}
use Rattle.block_record.specs.declared.blocks.Slip.{Slip}
use Rattle.chain_model.specs.Ancestry.{IsHistory}
use Rattle.chain_model.specs.Finality.{final_tip, final_ancestry}
use Rattle.chain_laws.proofs.public.Lines.{some_and}
use Rattle.relay_model.specs.Offers.{tip_num, num_of}
use Rattle.bundle_model.specs.Members.{Among}
use Rattle.bundle_model.proofs.public.MemberFacts.{among_all, among_parts}
use Rattle.bundle_model.proofs.public.Climbs.{TipLine, tip_line}
use Rattle.bundle_model.proofs.public.BundleFacts.{goes_on}
use Rattle.store_model.specs.Shown.{IsPassed}

tip_of : (newest : List Slip) → IsHistory newest → (t : Slip) → final_tip newest ≡ Some t → TipLine newest
tip_of newest history t e =
    elim (tip_line newest history) [
      | inl none ↦ absurd (nothing (ap final_tip (sym none.none) ∙ e))
      | inr u ↦ u
    ]
  where
    nothing : final_tip [] ≡ Some t → ⊥
    nothing k = grind (arith, k)

pub at_tip : (newest : List Slip) → TipLine newest → (n : ℕ) → n ≤ tip_num newest → IsSomeAnd (final_tip newest) (λ tip. n ≤ tip.num)
at_tip newest t n le =
    let num : tip_num newest ≡ t.tip.num = ap num_of t.is in
    rw t.is (omega (arith, le, num))

higher_tip : (older newer : List Slip) → IsHistory older → IsHistory newer → (t : TipLine older) → IsSuffix (final_ancestry older) (final_ancestry newer) → TipLine newer
higher_tip older newer ho hn t h =
    elim (tip_line newer hn) [
      | inl none ↦ absurd (empty h.0 (ap (λ l. h.0 ++ l) (sym t.line) ∙ h.1 ∙ none.line))
      | inr u ↦ u
    ]
  where
    empty : (xs : List Slip) → xs ++ t.tip ∷ t.rest ≡ [] → ⊥
    empty [] e = grind (arith, e)
    empty (x ∷ xs) e = grind (arith, e)

-- a block that was passed is passed
pub passed_later : (older newer : List Slip) → IsHistory older → IsHistory newer → IsSuffix (final_ancestry older) (final_ancestry newer) → (s : Slip) → IsPassed older s → IsPassed newer s
passed_later older newer ho hn h s p =
    let low = some_and (final_tip older) (λ tip. s.num ≤ tip.num) p.low in
    let t = tip_of older ho low.0 low.1 in
    let under : s.num ≤ tip_num older = let num : tip_num older ≡ low.0.num = ap num_of low.1 in omega (arith, low.2, num) in
    let on = goes_on older newer ho hn t h in
    record {
      off = λ a. elim (among_parts h.0 (final_ancestry older) s (subst (λ (l : List Slip). Among l s) (sym h.1) a)) [
        | inl above ↦ let more : tip_num older < s.num = among_all (λ x. tip_num older < x.num) h.0 on.above s above in omega (arith, more, under)
        | inr old ↦ p.off old
      ];
      low = at_tip newer (higher_tip older newer ho hn t h) s.num (omega (arith, under, on.higher));
    }
