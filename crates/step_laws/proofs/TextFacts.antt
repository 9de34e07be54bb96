-- The text of a run is the lines of its steps.
use Rattle.std.proofs.Common.{◌≡◌, List, [], ◌∷◌, ◌++◌, map, Option, Some, None, refl, sym, ◌∙◌, ap}
use Rattle.std.proofs.lemmas.List.{append-nil}
use Rattle.chain_model.specs.Steps.{BlockStep, plain_of}
use Rattle.relay_model.specs.Offers.{offered}
use Rattle.step_text.specs.declared.refusals.Refusal.{Refusal}
use Rattle.step_text.specs.StepText.{Told, step_lines, goes_on, tell, refusal_of, steps_by, place_by}
use Rattle.step_text.proofs.public.RunFacts.{lines-append}
use Rattle.step_laws.specs.Telling.{unless_refused, steps_told}
use Rattle.step_laws.specs.Laws.{StepsTold}

-- one block's steps, and those after it where it is not refused
one_more : (r : Option Refusal) (here later : List BlockStep) (more : Told) → more.text ≡ step_lines (map plain_of later)
    → (goes_on (step_lines (map plain_of here)) r more).text ≡ step_lines (map plain_of (here ++ unless_refused r [] later))
one_more None here later more is = ap (λ t. step_lines (map plain_of here) ++ t) is ∙ sym (lines-append here later)
one_more (Some r) here later more is = ap (λ xs. step_lines (map plain_of xs)) (sym (append-nil here))

pub steps_told_lines : StepsTold
steps_told_lines [] w place = refl
steps_told_lines (s ∷ slips) w place =
    let answer = (offered w s).answer in
    let after = (offered w s).world in
    let to = place_by answer after.history place in
    one_more (refusal_of answer) (steps_by answer after.history place) (steps_told slips after to) (tell slips after to) (steps_told_lines slips after to)
