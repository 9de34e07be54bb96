-- Why a block that does not clash goes on with the history.
use Rattle.std.proofs.Common.{arith, ◌≡◌, ◌<◌, inl, inr, true, false, List, [], ◌∷◌, Some, None, sym, ◌∙◌, ap, if◌then◌else◌}
use Rattle.std.proofs.lemmas.Bool.{cases_Bool, both_ways}
use Rattle.block_record.specs.declared.blocks.Slip.{Slip}
use Rattle.chain_model.specs.Ancestry.{find_id, has_id, IsHistory}
use Rattle.chain_model.specs.Finality.{claim, agrees, ClaimsAgree, final_tip}
use Rattle.chain_laws.proofs.public.Growth.{IsFound}
use Rattle.chain_laws.proofs.public.Tips.{claims_go_on_to_agree}
use Rattle.relay_model.specs.declared.answers.ConflictKind.TheVariants as kind
use Rattle.relay_model.specs.Offers.{clash, parent_clash, finality_clash, conflict}

-- a parent's number, and the claim against the tip
no_clash : (newest : List Slip) (s p : Slip) → find_id newest s.parent_id ≡ Some p → clash newest s ≡ None
    → (p.num ≡ s.parent_num) × (finality_clash newest s (final_tip newest) ≡ None)
no_clash newest s p found e =
    let e' : parent_clash newest s (Some p) ≡ None = ap (parent_clash newest s) (sym found) ∙ e in
    grind (arith, e')

claim_fits : (newest : List Slip) (s t c : Slip) → finality_clash newest s (Some t) ≡ None → claim (s ∷ newest) s ≡ Some c → agrees (s ∷ newest) c t ≡ true
claim_fits newest s t c e own =
    elim (cases_Bool (agrees (s ∷ newest) c t)) [
      | inl fits ↦ fits
      | inr apart ↦ absurd (differs (rw own at e) apart)
    ]
  where
    differs : (if agrees (s ∷ newest) c t then None else Some (conflict kind.Finality t s)) ≡ None → agrees (s ∷ newest) c t ≡ false → ⊥
    differs h apart = let h' : Some (conflict kind.Finality t s) ≡ None = rw apart at h in cc

pub record IsNext (s : Slip) (newest : List Slip) : Type 0 where
  pub history : IsHistory (s ∷ newest)
  pub agreed : ClaimsAgree (s ∷ newest)

-- a block that does not clash goes on with the history
pub admits : (newest : List Slip) (s p : Slip) → IsHistory newest → ClaimsAgree newest → has_id newest s.id ≡ false
    → find_id newest s.parent_id ≡ Some p → s.parent_num < s.num → clash newest s ≡ None → IsNext s newest
admits [] s p history agreed new found rises e = absurd (grind (arith, found))
admits (x ∷ older) s p history agreed new found rises e =
    let facts = no_clash (x ∷ older) s p found e in
    let next : IsHistory (s ∷ x ∷ older) = (
      record {
        fresh = λ h. both_ways _ new h;
        parent = rw found facts.0;
        above = rises;
      },
      history,
    ) in
    record {
      history = next;
      agreed = claims_go_on_to_agree s (x ∷ older) next agreed
          (λ t c is own. claim_fits (x ∷ older) s t c (ap (finality_clash (x ∷ older) s) (sym is) ∙ facts.1) own);
    }

-- the root alone agrees with itself
pub admits_root : (s : Slip) → IsNext s []
admits_root s = record {
  history = tt;
  agreed = claims_go_on_to_agree s [] tt (λ a b x y fa fb cx cy. absurd (nothing a fa)) (λ t c is own. absurd (none t is));
}
  where
    nothing : (a : Slip) → IsFound [] a → ⊥
    nothing a f = grind arith

    none : (t : Slip) → final_tip [] ≡ Some t → ⊥
    none t is = grind (arith, is)
