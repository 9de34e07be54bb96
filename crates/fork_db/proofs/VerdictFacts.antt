-- Verdicts.
use Rattle.std.proofs.Common.{arith, ◌≡◌, ◌<◌, ◌==◌, ◌&&◌, ℕ, Bool, true, false, cond, List, [], ◌∷◌, length, Option, Some, None, refl, sym, ◌∙◌, ap, subst, IsSomeAnd, IsTrue, nat_lt, is_some}
use Rattle.std.proofs.lemmas.Option.{same_Some}
use Rattle.block_record.specs.declared.blocks.Slip.{Slip}
use Rattle.chain_model.specs.Ancestry.{find_id, has_id, IsHistory}
use Rattle.block_tree.specs.Places.{place_of, slip_at}
use Rattle.block_tree.proofs.public.PlaceFacts.{place_slip, is_held, find_none}
use Rattle.fork_db.specs.Verdicts.{verdict_of, fits, claim_verdict, parent_verdict, agrees_next}
use Rattle.fork_db.specs.declared.db.Verdict.{Verdict}
use Rattle.fork_db.specs.declared.db.Verdict.TheVariants as verdict

held_fits : verdict.IdHeld ≡ fits → ⊥
held_fits e = grind arith

not_both : (b : Bool) → b ≡ false → IsTrue b → ⊥
not_both b e h = grind arith

numbers_of : (a b c : ℕ) → ((a == b) && nat_lt a c) ≡ true → (a ≡ b) × (b < c)
numbers_of a b c e = (grind arith, grind arith)

claim_fits : (b : Bool) → cond b verdict.Fits verdict.Disagrees ≡ fits → b ≡ true
claim_fits true e = refl
claim_fits false e = absurd (grind arith)

-- what a parent must be for the block to fit
record Fitting (older : List Slip) (s : Slip) (o : Option Slip) : Type 0 where
  pub parent : IsSomeAnd o (λ p. p.num ≡ s.parent_num)
  pub above : s.parent_num < s.num
  pub agrees : agrees_next older s ≡ true

parent_fits : (older : List Slip) (s : Slip) (o : Option Slip) → parent_verdict older s o ≡ fits → Fitting older s o
parent_fits older s None e = absurd (grind arith)
parent_fits older s (Some p) e =
    let P : Bool → Type 0 = λ b. ((p.num == s.parent_num) && nat_lt p.num s.num) ≡ b → cond b (claim_verdict older s) verdict.ParentNumber ≡ fits → Fitting older s (Some p) in
    (elim ((p.num == s.parent_num) && nat_lt p.num s.num) as P [
      | true ↦ λ t f. let n = numbers_of p.num s.parent_num s.num t in record { parent = n.0; above = n.1; agrees = claim_fits (agrees_next older s) f }
      | false ↦ λ _ f. absurd (grind arith)
    ]) refl e

-- a block that fits makes a history whose claims go on to agree
pub record IsNext (s : Slip) (newest : List Slip) : Type 0 where
  pub history : IsHistory (s ∷ newest)
  pub agrees : agrees_next newest s ≡ true

pub fits_next : (s : Slip) (newest : List Slip) → IsHistory newest → verdict_of newest s ≡ fits → IsNext s newest
fits_next s [] h e = record { history = tt; agrees = refl }
fits_next s (t ∷ older) h e =
    let P : Bool → Type 0 = λ b. has_id (t ∷ older) s.id ≡ b → cond b verdict.IdHeld (parent_verdict (t ∷ older) s (find_id (t ∷ older) s.parent_id)) ≡ fits → IsNext s (t ∷ older) in
    (elim (has_id (t ∷ older) s.id) as P [
      | true ↦ λ _ f. absurd (held_fits f)
      | false ↦ λ new f.
          let p = parent_fits (t ∷ older) s (find_id (t ∷ older) s.parent_id) f in
          record { history = (record { fresh = λ held. not_both (has_id (t ∷ older) s.id) new held; parent = p.parent; above = p.above }, h); agrees = p.agrees }
    ]) refl e

pub verdict_held : (s : Slip) (newest : List Slip) → (length newest ≡ 0 → ⊥) → is_some (place_of newest s.id) ≡ true → verdict.IdHeld ≡ verdict_of newest s
verdict_held s [] some e = absurd (some refl)
verdict_held s (t ∷ older) some e = let f : has_id (t ∷ older) s.id ≡ true = sym (is_held (t ∷ older) s.id) ∙ e in rw f refl

pub not_held : (s : Slip) (newest : List Slip) → is_some (place_of newest s.id) ≡ false → has_id newest s.id ≡ false
not_held s newest e = sym (is_held newest s.id) ∙ e

pub verdict_none : (s : Slip) (newest : List Slip) → (length newest ≡ 0 → ⊥) → is_some (place_of newest s.id) ≡ false → place_of newest s.parent_id ≡ None → verdict.NoParent ≡ verdict_of newest s
verdict_none s [] some e f = absurd (some refl)
verdict_none s (t ∷ older) some e f = rw (not_held s (t ∷ older) e, find_none (t ∷ older) s.parent_id f) refl

pub verdict_parent : (s : Slip) (newest : List Slip) (r : Verdict) (parent : ℕ) → (length newest ≡ 0 → ⊥) → is_some (place_of newest s.id) ≡ false → place_of newest s.parent_id ≡ Some parent
    → r ≡ parent_verdict newest s (slip_at newest parent) → r ≡ verdict_of newest s
verdict_parent s [] r parent some e f g = absurd (some refl)
verdict_parent s (t ∷ older) r parent some e f g =
    let q = place_slip (t ∷ older) s.parent_id parent f in
    rw (not_held s (t ∷ older) e) (g ∙ ap (parent_verdict (t ∷ older) s) (q.1 ∙ sym q.3))

-- the parent is there, and the block follows it
pub record IsChild (newest : List Slip) (s : Slip) (p : Slip) : Type 0 where
  pub history : IsHistory (s ∷ newest)
  pub id : s.parent_id ≡ p.id

pub child_of : (newest : List Slip) (s p : Slip) (parent : ℕ) → IsHistory newest → has_id newest s.id ≡ false → place_of newest s.parent_id ≡ Some parent → slip_at newest parent ≡ Some p
    → p.num ≡ s.parent_num → p.num < s.num → IsChild newest s p
child_of [] s p parent h fresh e ep en lt = absurd (grind arith)
child_of (t ∷ older) s p parent h fresh e ep en lt =
    let q = place_slip (t ∷ older) s.parent_id parent e in
    let same : q.0 ≡ p = same_Some q.0 p (sym q.1 ∙ ep) in
    let found : find_id (t ∷ older) s.parent_id ≡ Some p = q.3 ∙ ap Some same in
    record {
      history = (record { fresh = λ held. not_both (has_id (t ∷ older) s.id) fresh held; parent = subst (λ o. IsSomeAnd o (λ x. x.num ≡ s.parent_num)) (sym found) en; above = subst (λ n. n < s.num) en lt }, h);
      id = sym (ap (λ (x : Slip). x.id) (sym same) ∙ q.2);
    }

-- the verdict on a child by its claim
pub child_verdict : (newest : List Slip) (s p : Slip) (parent : ℕ) (r : Verdict) → slip_at newest parent ≡ Some p → p.num ≡ s.parent_num → p.num < s.num
    → r ≡ claim_verdict newest s → r ≡ parent_verdict newest s (slip_at newest parent)
child_verdict newest s p parent r ep en lt e =
    let test : ((p.num == s.parent_num) && nat_lt p.num s.num) ≡ true = both p.num s.parent_num s.num en lt in
    rw (ep, test) e
  where
    both : (a b c : ℕ) → a ≡ b → a < c → ((a == b) && nat_lt a c) ≡ true
    both a b c e lt = grind arith
