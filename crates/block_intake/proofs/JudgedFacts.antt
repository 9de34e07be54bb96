-- The rule that decides an offer, step by step.
use Rattle.std.proofs.Common.{arith, ◌≡◌, ◌<◌, ◌≤◌, ◌==◌, ◌&&◌, ℕ, Bool, true, false, cond, List, [], ◌∷◌, ◌++◌, length, Option, Some, None, refl, sym, ◌∙◌, ap, subst, inl, inr, is_some, IsSome, nat_le, nat_lt}
use Rattle.std.specs.Option.{option_or}
use Rattle.std.proofs.lemmas.List.Folds.{find-append}
use Rattle.std.proofs.lemmas.Bool.{both_ways, cases_Bool, cases_eq}
use Rattle.std.proofs.lemmas.Option.{same_Some}
use Rattle.relay_model.specs.declared.answers.Conflict.{Conflict as Clash}
use Rattle.block_record.specs.declared.blocks.Slip.{Slip}
use Rattle.block_record.specs.Ids.{same_id}
use Rattle.block_record.specs.Slips.{same_slip}
use Rattle.block_record.proofs.public.SlipFacts.{same_slip_is, same_slip_refl}
use Rattle.chain_model.specs.Ancestry.{find_id, has_id, IsHistory}
use Rattle.chain_model.specs.Finality.{root_num, claim, final_tip}
use Rattle.block_tree.specs.Places.{slip_at, slip_of}
use Rattle.block_tree.proofs.public.PlaceFacts.{slip_at_past}
use Rattle.fork_db.specs.Verdicts.{verdict_of, fits, agrees_with, agrees_next, claim_verdict, parent_verdict}
use Rattle.fork_db.specs.declared.db.Verdict.TheVariants as forks
use Rattle.fork_db.proofs.public.ClaimFacts.{root_claim, tip_there}
use Rattle.fork_db.specs.Claims.{IsLinkOf}
use Rattle.relay_model.specs.declared.answers.ConflictKind.TheVariants as kind
use Rattle.relay_model.specs.Worlds.{World}
use Rattle.relay_model.specs.Offers.{clash, conflict, claim_agrees, finality_clash, judge_linked, judge_parent, parent_clash}
use Rattle.relay_model.specs.Verdicts as verdict

-- a history with blocks has a final tip
pub tip_place : (newest : List Slip) (o : Option ℕ) → IsHistory newest → 0 < length newest → slip_of newest o ≡ final_tip newest → IsSome o
tip_place newest None h lt e = by (final_tip newest) e (tip_there newest h lt)
  where
    by : (t : Option Slip) → None ≡ t → IsSome t → IsSome {T = ℕ} None
    by None e some = absurd (grind arith)
    by (Some t) e some = absurd (grind arith)
tip_place newest (Some at) h lt e = refl

-- the first block is the root
pub root_first : (newest : List Slip) (r : Slip) → slip_at newest 0 ≡ Some r → r.num ≡ root_num newest
root_first [] r e = absurd (grind arith)
root_first (s ∷ []) r e = ap (λ (x : Slip). x.num) (sym (same_Some s r e))
root_first (s ∷ t ∷ older) r e = root_first (t ∷ older) r (sym (slip_at_past s (t ∷ older) 0 (omega arith)) ∙ e)

-- the parent has another number than the block names
pub clash_num : (newest : List Slip) (s p : Slip) → find_id newest s.parent_id ≡ Some p → (p.num ≡ s.parent_num → ⊥) → clash newest s ≡ Some (conflict kind.Parent p s)
clash_num newest s p found other = ap (parent_clash newest s) found ∙ ap (λ b. cond b (finality_clash newest s (final_tip newest)) (Some (conflict kind.Parent p s))) (differs p.num s.parent_num other)
  where
    differs : (a b : ℕ) → (a ≡ b → ⊥) → (a == b) ≡ false
    differs a b ne = grind arith

-- with the parent's number the claims decide
verdict_is : (newest : List Slip) (s p : Slip) → find_id newest s.parent_id ≡ Some p → p.num ≡ s.parent_num → s.parent_num < s.num → has_id newest s.id ≡ false → verdict_of newest s ≡ claim_verdict newest s
verdict_is [] s p found same less fresh = absurd (grind arith)
verdict_is (t ∷ older) s p found same less fresh =
    ap (λ b. cond b forks.IdHeld (parent_verdict (t ∷ older) s (find_id (t ∷ older) s.parent_id))) fresh ∙ ap (parent_verdict (t ∷ older) s) found
    ∙ ap (λ b. cond b (claim_verdict (t ∷ older) s) forks.ParentNumber) (both p.num s.parent_num s.num same less)
  where
    both : (a b c : ℕ) → a ≡ b → b < c → ((a == b) && nat_lt a c) ≡ true
    both a b c e lt = grind arith

clash_is : (newest : List Slip) (s p : Slip) → find_id newest s.parent_id ≡ Some p → p.num ≡ s.parent_num → clash newest s ≡ finality_clash newest s (final_tip newest)
clash_is newest s p found same = ap (parent_clash newest s) found ∙ ap (λ b. cond b (finality_clash newest s (final_tip newest)) (Some (conflict kind.Parent p s))) (equal p.num s.parent_num same)
  where
    equal : (a b : ℕ) → a ≡ b → (a == b) ≡ true
    equal a b e = grind arith

same_test : (newest : List Slip) (t : Slip) (c : Option Slip) → agrees_with newest (Some t) c ≡ claim_agrees newest c (Some t)
same_test newest t None = refl
same_test newest t (Some c) = refl

-- the test of the claims, and what each side makes of it
by_test : (newest : List Slip) (s : Slip) → agrees_next newest s ≡ true → finality_clash newest s (final_tip newest) ≡ None
by_test newest s e = by (final_tip newest) e
  where
    by : (o : Option Slip) → agrees_with (s ∷ newest) o (claim (s ∷ newest) s) ≡ true → finality_clash newest s o ≡ None
    by None e = refl
    by (Some t) e = ap (λ b. cond b None (Some (conflict kind.Finality t s))) (sym (same_test (s ∷ newest) t (claim (s ∷ newest) s)) ∙ e)

by_fault : (newest : List Slip) (s t : Slip) → final_tip newest ≡ Some t → agrees_next newest s ≡ false → finality_clash newest s (final_tip newest) ≡ Some (conflict kind.Finality t s)
by_fault newest s t tip e =
    let test : agrees_with (s ∷ newest) (Some t) (claim (s ∷ newest) s) ≡ false = ap (λ o. agrees_with (s ∷ newest) o (claim (s ∷ newest) s)) (sym tip) ∙ e in
    ap (finality_clash newest s) tip ∙ ap (λ b. cond b None (Some (conflict kind.Finality t s))) (sym (same_test (s ∷ newest) t (claim (s ∷ newest) s)) ∙ test)

tells_false : (b : Bool) → cond b forks.Fits forks.Disagrees ≡ forks.Disagrees → b ≡ false
tells_false true e = absurd (grind arith)
tells_false false e = refl

tells_true : (b : Bool) → (cond b forks.Fits forks.Disagrees ≡ forks.Disagrees → ⊥) → b ≡ true
tells_true true e = refl
tells_true false e = absurd (e refl)

-- the claim and the final tip are not on one path
pub clash_tip : (newest : List Slip) (s p t : Slip) → find_id newest s.parent_id ≡ Some p → p.num ≡ s.parent_num → s.parent_num < s.num → has_id newest s.id ≡ false
    → verdict_of newest s ≡ forks.Disagrees → final_tip newest ≡ Some t → clash newest s ≡ Some (conflict kind.Finality t s)
clash_tip newest s p t found same less fresh e tip =
    clash_is newest s p found same ∙ by_fault newest s t tip (tells_false (agrees_next newest s) (sym (verdict_is newest s p found same less fresh) ∙ e))

-- nothing contradicts
pub clash_none : (newest : List Slip) (s p : Slip) → find_id newest s.parent_id ≡ Some p → p.num ≡ s.parent_num → s.parent_num < s.num → has_id newest s.id ≡ false
    → (verdict_of newest s ≡ forks.Disagrees → ⊥) → clash newest s ≡ None
clash_none newest s p found same less fresh e =
    clash_is newest s p found same ∙ by_test newest s (tells_true (agrees_next newest s) (λ f. e (verdict_is newest s p found same less fresh ∙ f)))

-- what the two lists find
pub found_either : (room newest : List Slip) (id : List ℕ) → find_id (room ++ newest) id ≡ option_or (find_id room id) (find_id newest id)
found_either room newest id = find-append (λ s. same_id s.id id) room newest

-- a block at or below the root
pub late_root : (w : World) (s : Slip) (h : List Slip) → w.history ≡ h → 0 < length h → s.num ≤ root_num h → verdict.Stale ≡ judge_linked w s w.history
late_root w s h e some low =
    subst (λ l. verdict.Stale ≡ judge_linked w s l) (sym e) (by h e some low)
  where
    below : (a b : ℕ) → a ≤ b → nat_le a b ≡ true
    below a b le = grind arith

    by : (l : List Slip) → w.history ≡ l → 0 < length l → s.num ≤ root_num l → verdict.Stale ≡ judge_linked w s l
    by [] is lt low = absurd (omega arith)
    by (t ∷ older) is lt low = sym (ap (λ b. cond b verdict.Stale (judge_parent w s (find_id w.history s.parent_id))) (below s.num (root_num w.history) (subst (λ l. s.num ≤ root_num l) (sym is) low)))

-- a block above the root
pub above_root : (w : World) (s : Slip) (h : List Slip) → w.history ≡ h → 0 < length h → root_num h < s.num → judge_parent w s (find_id w.history s.parent_id) ≡ judge_linked w s w.history
above_root w s h e some high =
    subst (λ l. judge_parent w s (find_id w.history s.parent_id) ≡ judge_linked w s l) (sym e) (by h e some high)
  where
    over : (a b : ℕ) → b < a → nat_le a b ≡ false
    over a b lt = grind arith

    by : (l : List Slip) → w.history ≡ l → 0 < length l → root_num l < s.num → judge_parent w s (find_id w.history s.parent_id) ≡ judge_linked w s l
    by [] is lt high = absurd (omega arith)
    by (t ∷ older) is lt high = sym (ap (λ b. cond b verdict.Stale (judge_parent w s (find_id w.history s.parent_id))) (over s.num (root_num w.history) (subst (λ l. root_num l < s.num) (sym is) high)))

-- a block whose parent is held and that contradicts nothing may come next
agrees_from : (newest : List Slip) (s : Slip) → finality_clash newest s (final_tip newest) ≡ None → agrees_next newest s ≡ true
agrees_from newest s e = by (final_tip newest) e
  where
    yes : (t : Slip) (b : Bool) → cond b None (Some (conflict kind.Finality t s)) ≡ None → b ≡ true
    yes t true e = refl
    yes t false e = absurd (grind (arith, e))

    by : (o : Option Slip) → finality_clash newest s o ≡ None → agrees_with (s ∷ newest) o (claim (s ∷ newest) s) ≡ true
    by None e = refl
    by (Some t) e = same_test (s ∷ newest) t (claim (s ∷ newest) s) ∙ yes t (claim_agrees (s ∷ newest) (claim (s ∷ newest) s) (Some t)) e

pub fits_child : (newest : List Slip) (s p : Slip) → find_id newest s.parent_id ≡ Some p → clash newest s ≡ None → has_id newest s.id ≡ false → s.parent_num < s.num → verdict_of newest s ≡ fits
fits_child newest s p found none fresh less =
    elim (cases_eq p.num s.parent_num) [
      | inl same ↦ verdict_is newest s p found same less fresh ∙ ap (λ b. cond b forks.Fits forks.Disagrees) (agrees_from newest s (sym (clash_is newest s p found same) ∙ none))
      | inr other ↦ absurd (no_clash (conflict kind.Parent p s) (sym none ∙ clash_num newest s p found other))
    ]
  where
    no_clash : (c : Clash) → None ≡ Some c → ⊥
    no_clash c e = grind (arith, e)

pub some_is : (o : Option ℕ) → is_some o ≡ true → IsSome o
some_is None e = absurd (grind (arith, e))
some_is (Some n) e = refl

-- the parent's number is looked at before the claims
tells_number : (b : Bool) → cond b forks.Fits forks.Disagrees ≡ forks.ParentNumber → ⊥
tells_number true e = absurd (grind (arith, e))
tells_number false e = absurd (grind (arith, e))

pub num_differs : (newest : List Slip) (s p : Slip) → find_id newest s.parent_id ≡ Some p → s.parent_num < s.num → has_id newest s.id ≡ false → verdict_of newest s ≡ forks.ParentNumber → p.num ≡ s.parent_num → ⊥
num_differs newest s p found less fresh e same = tells_number (agrees_next newest s) (sym (verdict_is newest s p found same less fresh) ∙ e)

verdict_number : (newest : List Slip) (s p : Slip) → find_id newest s.parent_id ≡ Some p → (p.num ≡ s.parent_num → ⊥) → has_id newest s.id ≡ false → verdict_of newest s ≡ forks.ParentNumber
verdict_number [] s p found other fresh = absurd (grind arith)
verdict_number (t ∷ older) s p found other fresh =
    ap (λ b. cond b forks.IdHeld (parent_verdict (t ∷ older) s (find_id (t ∷ older) s.parent_id))) fresh ∙ ap (parent_verdict (t ∷ older) s) found
    ∙ ap (λ b. cond b (claim_verdict (t ∷ older) s) forks.ParentNumber) (either p.num s.parent_num s.num other)
  where
    either : (a b c : ℕ) → (a ≡ b → ⊥) → ((a == b) && nat_lt a c) ≡ false
    either a b c ne = grind arith

pub num_same : (newest : List Slip) (s p : Slip) → find_id newest s.parent_id ≡ Some p → has_id newest s.id ≡ false → (verdict_of newest s ≡ forks.ParentNumber → ⊥) → p.num ≡ s.parent_num
num_same newest s p found fresh ne =
    elim (cases_eq p.num s.parent_num) [
      | inl same ↦ same
      | inr other ↦ absurd (ne (verdict_number newest s p found other fresh))
    ]

-- the first block is linked nowhere
pub root_link : (newest : List Slip) (s : Slip) → 0 ≡ length newest → IsLinkOf newest s (record { parent = None; claim = None })
root_link [] s e = record { parent = refl; claim = root_claim s; range = tt }
root_link (t ∷ older) s e = absurd (omega arith)

-- two slips are compared alike from both sides
pub same_slip_comm : (a b : Slip) → same_slip a b ≡ same_slip b a
same_slip_comm a b =
    elim (cases_Bool (same_slip a b)) [
      | inl yes' ↦ ap (λ x. same_slip x b) (same_slip_is a b yes') ∙ ap (same_slip b) (sym (same_slip_is a b yes'))
      | inr no' ↦ elim (cases_Bool (same_slip b a)) [
        | inl back ↦ absurd (both_ways _ no' (subst (λ x. same_slip a x ≡ true) (sym (same_slip_is b a back)) (same_slip_refl a)))
        | inr other ↦ no' ∙ sym other
      ]
    ]
