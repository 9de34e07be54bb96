-- A stop that the last final block has reached.
use Rattle.std.proofs.Common.{arith, inl, inr, ◌≡◌, ◌≤◌, ℕ, true, ltb, List, [], ◌∷◌, ◌++◌, Some, refl, sym, ◌∙◌, ap, subst}
use Rattle.std.specs.Option.{option_map}
use Rattle.std.proofs.lemmas.Bool.{cases_Bool, ltb-true, ltb-false, lt-ltb}
use mathlib.Core.List.{IsSuffix, IsSuffix-trans}
use Rattle.block_record.specs.declared.blocks.Slip.{Slip}
use Rattle.chain_model.specs.declared.places.Mode.{Mode}
use Rattle.chain_model.specs.Ancestry.{has_id, ancestry, IsHistory}
use Rattle.chain_model.specs.Finality.{ancestry_of, final_ancestry}
use Rattle.chain_model.specs.Steps.{drop_while, cut, ref_of, steps_of, target, whole_target}
use Rattle.chain_laws.proofs.public.Lines.{has_id-find_id}
use Rattle.chain_laws.proofs.public.Growth.{IsFound, claim_found, tip_claimed, grows_by_many}
use Rattle.chain_laws.proofs.public.ClosedLists.{Passes}
use Rattle.chain_laws.proofs.public.Reach.{IsLine, line_under, head_is_found, has_id-append_right, has_id-suffix}
use Rattle.chain_laws.proofs.public.Meeting.{drop_suffix, suffix_passes, whole_has, whole_line, has_first, itself_on_path}
use Rattle.chain_laws.proofs.public.Settling.{steps_settle}
use Rattle.resume_laws.specs.Laws.{DoneStays}
use Rattle.chain_laws.proofs.public.LineFacts.{line_is, line_tail, not_below}
use Rattle.chain_laws.proofs.public.Walks.{is_final}
use Rattle.chain_laws.proofs.public.Ends.{place_same, find_at, place_reached}
use Rattle.chain_laws.proofs.public.Later.{history_older, find_later, ancestry_later}
use Rattle.chain_model.specs.Places.{place_along}
use Rattle.chain_laws.specs.Standing.{place_at_end}

-- what is above a block that has reached the stop is cut off
cut_above : (newest : List Slip) → IsHistory newest → (stop : ℕ) (t : Slip) → IsFound newest t → stop ≤ t.num → (xs rest : List Slip) → IsLine newest (xs ++ t ∷ rest)
    → drop_while (λ s. ltb stop s.num) (xs ++ t ∷ rest) ≡ drop_while (λ s. ltb stop s.num) (t ∷ rest)
cut_above newest history stop t found le [] rest line = refl
cut_above newest history stop t found le (x ∷ xs) rest line =
    let on : has_id (xs ++ t ∷ rest) t.id ≡ true = has_id-append_right xs (t ∷ rest) t.id (has_first (t ∷ rest) t rest refl) in
    let whole = line_is newest x (xs ++ t ∷ rest) line in
    let more : ltb stop x.num ≡ true =
    elim (cases_Bool (ltb t.num x.num)) [
      | inl less ↦ lt-ltb _ _ (omega (arith, ltb-true _ _ less, le))
      | inr high ↦ absurd (not_below newest history t x (xs ++ t ∷ rest) whole on found (ltb-false _ _ high))
    ] in
    rw more (cut_above newest history stop t found le xs rest (line_tail newest history x (xs ++ t ∷ rest) line))

-- so the target is the cut of the path of that block
target_at : (newest : List Slip) → IsHistory newest → (m : Mode) (stop : ℕ) (t : Slip) → IsFound newest t → stop ≤ t.num → has_id (final_ancestry newest) t.id ≡ true
    → target newest m (Some stop) ≡ cut (Some stop) (ancestry newest t.id)
target_at newest history m stop t found le final =
    let line = whole_line newest history m in
    let under = line_under newest history (whole_target newest m) line t.id (whole_has newest history t.id final m) in
    let first = head_is_found newest t.id t found in
    let parts : whole_target newest m ≡ under.0 ++ t ∷ first.0 = sym under.1 ∙ ap (λ l. under.0 ++ l) first.1 in
    ap (cut (Some stop)) parts ∙ cut_above newest history stop t found le under.0 first.0 (subst (IsLine newest) parts line) ∙ ap (cut (Some stop)) (sym first.1)

place_at : (finals more line : List Slip) → Passes (λ s. has_id finals s.id) line → Passes (λ s. has_id more s.id) line → place_at_end finals line ≡ place_at_end more line
place_at finals more line p q =
    place_same (place_at_end finals line) (place_at_end more line) refl
    (ap (option_map ref_of) (find_at (λ s. has_id finals s.id) line p ∙ sym (find_at (λ s. has_id more s.id) line q)))

pub done_stays : DoneStays
done_stays older more place m stop t history agreed fits ahead is le none =
    let newest = more ++ older in
    let before = history_older more older history in
    let claimed = tip_claimed older before t is in
    let found : IsFound older t = claim_found older before claimed.by t claimed.claimed in
    let there = has_id-find_id older t.id t found in
    let found' : IsFound newest t = find_later more older history t.id there ∙ found in
    let finals_are : final_ancestry older ≡ ancestry older t.id = ap (ancestry_of older) is in
    let final : has_id (final_ancestry older) t.id ≡ true = subst (λ (l : List Slip). has_id l t.id ≡ true) (sym finals_are) (itself_on_path older t found) in
    let grows = grows_by_many more older history agreed in
    let final' : has_id (final_ancestry newest) t.id ≡ true = has_id-suffix _ _ t.id grows final in
    let goal = target older m (Some stop) in
    let old = target_at older before m stop t found le final in
    let same : target newest m (Some stop) ≡ goal =
    target_at newest history m stop t found' le final' ∙ ap (cut (Some stop)) (ancestry_later more older history t.id there) ∙ sym old in
    let low : IsSuffix goal (final_ancestry older) =
    subst (λ (l : List Slip). IsSuffix goal l) (sym finals_are) (subst (λ (l : List Slip). IsSuffix l (ancestry older t.id)) (sym old) (drop_suffix (λ s. ltb stop s.num) (ancestry older t.id))) in
    let passes : Passes (is_final older) goal = suffix_passes goal (final_ancestry older) low in
    let passes' : Passes (is_final newest) goal = suffix_passes goal (final_ancestry newest) (IsSuffix-trans low grows) in
    let reached : place ≡ place_at_end (final_ancestry older) goal =
    ap (λ xs. place_along place xs) (sym none) ∙ (place_reached older place m (Some stop) before fits ahead).reached in
    let there' : place ≡ place_at_end (final_ancestry newest) (target newest m (Some stop)) =
    reached ∙ place_at (final_ancestry older) (final_ancestry newest) goal passes passes' ∙ ap (place_at_end (final_ancestry newest)) (sym same) in
    ap (λ p. steps_of newest p m (Some stop)) there' ∙ steps_settle newest m (Some stop) history
