-- Histories that some blocks make, within the order from scratch of the blocks.
use Rattle.std.proofs.Common.{arith, ◌≡◌, inl, inr, Bool, true, false, cond, List, [], ◌∷◌, Some, refl, sym, ◌∙◌, subst, suc}
use Rattle.std.specs.List.{list_any}
use Rattle.block_record.specs.declared.blocks.Slip.{Slip}
use Rattle.block_record.specs.Slips.{same_slip}
use Rattle.chain_model.specs.Finality.{ClaimsAgree}
use Rattle.chain_laws.proofs.public.Growth.{IsFound, claim_found}
use Rattle.relay_model.specs.Orders.{once}
use Rattle.relay_model.specs.Runs.{OneEach}
use Rattle.relay_laws.proofs.public.RunFacts.{last_of}
use Rattle.relay_laws.proofs.public.RunSteps.{once_distinct}
use Rattle.relay_laws.proofs.public.TwoHistories.{IsWithin, same_lines, same_claim}
use Rattle.relay_laws.proofs.public.OrderFacts.{order_found, order_is_history, order_root}
use Rattle.relay_laws.proofs.public.Scratch.{chain_linked, order_of, order_with}
use Rattle.bundle_model.specs.Members.{Among}
use Rattle.bundle_model.proofs.public.MemberFacts.{among_all, all_among}
use Rattle.store_model.specs.Clean.{root}
use Rattle.store_model.specs.Laws.{OrderDecidesClaims}
use Rattle.store_model.proofs.RootFacts.{root_num_is, root_in}
use Rattle.bundle_model.proofs.public.StoredFacts.{found_is_among}
use Rattle.bundle_model.proofs.public.RetainedFacts.{any_is}
use Rattle.store_model.proofs.public.HeldFacts.{distinct_found}

-- claims that agree in a history agree in one within it
within_agreed : (a b : List Slip) → IsWithin a b → ClaimsAgree b → ClaimsAgree a
within_agreed a b w agreed c d x y fc fd cx cy =
    let says = agreed c d x y (w.there c fc) (w.there d fd) (sym (same_claim a b w c fc) ∙ cx) (sym (same_claim a b w d fd) ∙ cy) in
    let lx = same_lines a b w x (claim_found a w.history c x cx) in
    let ly = same_lines a b w y (claim_found a w.history d y cy) in
    rw (lx, ly) says

root_last : (newest : List Slip) → last_of newest ≡ root newest
root_last [] = refl
root_last (s ∷ []) = refl
root_last (s ∷ t ∷ older) = root_last (t ∷ older)

once_from : (xs : List Slip) (s : Slip) → Among (once xs) s → Among xs s
once_from [] s h = absurd h
once_from (x ∷ older) s h = go (list_any (same_slip x) older) h (λ k. once_from older s k)
  where
    go : (b : Bool) → Among (cond b (once older) (x ∷ once older)) s → (Among (once older) s → Among older s) → Among (x ∷ older) s
    go true k ih = inr (ih k)
    go false (inl e) ih = inl e
    go false (inr k) ih = inr (ih k)

once_has : (xs : List Slip) (s : Slip) → Among xs s → Among (once xs) s
once_has [] s h = absurd h
once_has (x ∷ older) s h = go (list_any (same_slip x) older) refl h (λ k. once_has older s k)
  where
    go : (b : Bool) → list_any (same_slip x) older ≡ b → Among (x ∷ older) s → (Among older s → Among (once older) s) → Among (cond b (once older) (x ∷ once older)) s
    go true e (inl same) ih = ih (subst (Among older) same (any_is older x e))
    go true e (inr k) ih = ih k
    go false e (inl same) ih = inl same
    go false e (inr k) ih = inr (ih k)

once_one : (xs : List Slip) → OneEach xs → OneEach (once xs)
once_one [] one = tt
once_one (x ∷ older) one = go (list_any (same_slip x) older) (once_one older one.1)
  where
    go : (b : Bool) → OneEach (once older) → OneEach (cond b (once older) (x ∷ once older))
    go true ih = ih
    go false ih = (all_among (λ t. t.id ≡ x.id → t ≡ x) (once older) (λ t h. among_all (λ u. u.id ≡ x.id → u ≡ x) older one.0 t (once_from older t h)), ih)

pub order_decides_claims : OrderDecidesClaims
order_decides_claims first blocks r one start agreed newest history all is =
    let received = once blocks in
    let d = once_distinct blocks (once_one blocks one) in
    let there = λ (x : Slip) (f : IsFound newest x). distinct_found received d x (once_has blocks x (among_all (Among blocks) newest all x (found_is_among newest x f))) in
    let last : last_of newest ≡ Some r = root_last newest ∙ is in
    let top = there r (root_in newest history r is) in
    let w : IsWithin newest (order_of received r) = record {
      history = history;
      whole = order_is_history received r d;
      there = λ x f. let t = chain_linked received d newest history r last there (suc x.num) x (omega arith) f in order_found received r d x t.0 (there x f) t.1;
      root = root_num_is newest r is ∙ sym (order_root received r d top);
    } in
    within_agreed newest (order_of received r) w (subst ClaimsAgree (order_with first received r start) agreed)
