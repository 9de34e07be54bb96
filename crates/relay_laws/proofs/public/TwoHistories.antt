-- A history within another: what both say of the tip.
use Rattle.std.proofs.Common.{arith, ◌≡◌, inl, inr, true, List, [], ◌∷◌, Some, refl, sym, ◌∙◌, ap, subst}
use Rattle.std.proofs.lemmas.Bool.{or_cases}
use Rattle.std.proofs.lemmas.Option.{same_Some}
use Rattle.block_record.specs.declared.blocks.Slip.{Slip}
use Rattle.chain_model.specs.Ancestry.{find_id, ancestry, IsHistory}
use Rattle.chain_model.specs.Finality.{root_num, claim, on_path, ClaimsAgree, final_tip}
use Rattle.chain_laws.proofs.public.Lines.{id-find_id, is_above}
use Rattle.chain_laws.proofs.public.Growth.{IsFound, claim_found, tip_claimed}
use Rattle.chain_laws.proofs.public.Reach.{head_is_found, has_id-suffix}
use Rattle.chain_laws.proofs.public.Meeting.{claim_on_path}
use Rattle.chain_laws.proofs.public.Orders.{root_least, alone_is_root}
use Rattle.chain_laws.proofs.public.LineFacts.{parent_at}
use Rattle.chain_laws.proofs.public.Tips.{tip_most}
use Rattle.chain_laws.proofs.public.LineFacts.{same_number}

-- a history within another, with the same root
pub record IsWithin (small large : List Slip) : Type 0 where
  pub history : IsHistory small
  pub whole : IsHistory large
  pub there : (s : Slip) → IsFound small s → IsFound large s
  pub root : root_num small ≡ root_num large

lines_go : (a b : List Slip) → IsWithin a b → (line : List Slip) (s : Slip) → IsFound a s → ancestry a s.id ≡ s ∷ line
    → (other : List Slip) → ancestry b s.id ≡ s ∷ other → line ≡ other
lines_go a b w [] s found e [] e' = refl
lines_go a b w [] s found e (q ∷ qs) e' =
    let p = parent_at b w.whole s q qs e' in
    let low = root_least b w.whole q p.found in
    absurd (omega (arith, alone_is_root a w.history s e, low, p.less, w.root))
lines_go a b w (p ∷ ps) s found e [] e' =
    let q = parent_at a w.history s p ps e in
    let low = root_least a w.history p q.found in
    absurd (omega (arith, alone_is_root b w.whole s e', low, q.less, w.root))
lines_go a b w (p ∷ ps) s found e (q ∷ qs) e' =
    let x = parent_at a w.history s p ps e in
    let y = parent_at b w.whole s q qs e' in
    let named : find_id b s.parent_id ≡ Some p = ap (find_id b) (sym (id-find_id a s.parent_id p x.named)) ∙ w.there p x.found in
    let one : p ≡ q = same_Some p q (sym named ∙ y.named) in
    let line : ancestry b p.id ≡ p ∷ qs = subst (λ (z : Slip). ancestry b z.id ≡ z ∷ qs) (sym one) y.line in
    let rest = lines_go a b w ps p x.found x.line qs line in
    rw (one, rest) refl

-- both have one path of a block
pub same_lines : (a b : List Slip) → IsWithin a b → (s : Slip) → IsFound a s → ancestry a s.id ≡ ancestry b s.id
same_lines a b w s found =
    let x = head_is_found a s.id s found in
    let y = head_is_found b s.id s (w.there s found) in
    x.1 ∙ ap (λ l. s ∷ l) (lines_go a b w x.0 s found x.1 y.0 y.1) ∙ sym y.1

pub same_claim : (a b : List Slip) → IsWithin a b → (s : Slip) → IsFound a s → claim a s ≡ claim b s
same_claim a b w s found = rw (same_lines a b w s found, w.root) refl

-- where each block above the tip of the smaller is in it, the tip is that of the larger
pub same_tip : (a b : List Slip) → IsWithin a b → ClaimsAgree b → (t : Slip) → final_tip a ≡ Some t
    → ((y : Slip) → IsFound b y → on_path b t y ≡ true → IsFound a y) → (u : Slip) → final_tip b ≡ Some u → t ≡ u
same_tip a b w agreed t et up u eu =
    let x = tip_claimed a w.history t et in
    let y = tip_claimed b w.whole u eu in
    let ct : claim b x.by ≡ Some t = sym (same_claim a b w x.by x.found) ∙ x.claimed in
    let fx = w.there x.by x.found in
    let ft = claim_found b w.whole x.by t ct in
    let fu = claim_found b w.whole y.by u y.claimed in
    let le = tip_most b u x.by t eu fx ct in
    elim (or_cases _ _ (agreed x.by y.by t u fx y.found ct y.claimed)) [
      | inl low ↦
          let path = has_id-suffix _ _ t.id (is_above b w.whole y.by.id u.id (claim_on_path b y.by u y.claimed)).line low in
          let fy = up y.by y.found path in
          let cu : claim a y.by ≡ Some u = same_claim a b w y.by fy ∙ y.claimed in
          same_number b w.whole t u ft fu low (tip_most a t y.by u et fy cu)
      | inr high ↦ sym (same_number b w.whole u t fu ft high le)
    ]
