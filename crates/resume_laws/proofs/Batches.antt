-- Batches of a session, as it goes on and as the history grows.
use Rattle.std.proofs.Common.{◌≡◌, ℕ, List, [], ◌∷◌, ◌++◌, Option, refl, sym, ◌∙◌, ap, append_assoc}
use Rattle.block_record.specs.declared.blocks.Slip.{Slip}
use Rattle.chain_model.specs.declared.places.Place.{Place}
use Rattle.chain_model.specs.declared.places.Mode.{Mode}
use Rattle.chain_model.specs.Steps.{BlockStep, place_after, steps_of}
use Rattle.chain_laws.specs.Oldest.{oldest}
use Rattle.chain_laws.proofs.public.Later.{oldest_stays}
use Rattle.resume_laws.specs.Sessions.{Line, StepLine, HeadLine, step_lines, batches, place_of, place_through}
use Rattle.resume_laws.specs.Laws.{BatchesGoOn, BatchesStay}
use Rattle.chain_model.specs.Places.{placed, place_along, place_to, steps_to}

-- the place after lines, in two parts
place_append : (place : Place) (xs ys : List Line) → place_of place (xs ++ ys) ≡ place_of (place_of place xs) ys
place_append place [] ys = refl
place_append place (StepLine len x ∷ xs) ys = place_append x.place xs ys
place_append place (HeadLine mode stop len ∷ xs) ys = place_append place xs ys

place_steps : (len : ℕ) (place : Place) (xs : List BlockStep) → place_of place (step_lines len (placed place xs)) ≡ place_along place xs
place_steps len place [] = refl
place_steps len place (x ∷ xs) = place_steps len (place_after place x) xs

go_on : (newest : List Slip) (m : Mode) (stop : Option ℕ) (place : Place) (lens more : List ℕ)
    → batches newest m stop place (lens ++ more) ≡ batches newest m stop place lens ++ batches newest m stop (place_through newest m stop place lens) more
go_on newest m stop place [] more = refl
go_on newest m stop place (len ∷ lens) more =
    let after = place_to (oldest len newest) place m stop in
    let steps = step_lines len (steps_to (oldest len newest) place m stop) in
    ap (λ l. steps ++ HeadLine m stop len ∷ l) (go_on newest m stop after lens more)
    ∙ sym (append_assoc steps (HeadLine m stop len ∷ batches newest m stop after lens) (batches newest m stop (place_through newest m stop after lens) more))

go_through : (newest : List Slip) (m : Mode) (stop : Option ℕ) (place : Place) (lens : List ℕ) → place_of place (batches newest m stop place lens) ≡ place_through newest m stop place lens
go_through newest m stop place [] = refl
go_through newest m stop place (len ∷ lens) =
    let older = oldest len newest in
    let after = place_to older place m stop in
    let rest = batches newest m stop after lens in
    place_append place (step_lines len (steps_to older place m stop)) (HeadLine m stop len ∷ rest)
    ∙ ap (λ p. place_of p rest) (place_steps len place (steps_of older place m stop)) ∙ go_through newest m stop after lens

pub batches_go_on : BatchesGoOn
batches_go_on newest m stop place lens more = (go_on newest m stop place lens more, go_through newest m stop place lens)

pub batches_stay : BatchesStay
batches_stay newest more m stop place [] within = refl
batches_stay newest more m stop place (len ∷ lens) within =
    let same = oldest_stays newest more len within.0 in
    let after = place_to (oldest len newest) place m stop in
    ap (λ o. step_lines len (steps_to o place m stop) ++ HeadLine m stop len ∷ batches (more ++ newest) m stop (place_to o place m stop) lens) same
    ∙ ap (λ l. step_lines len (steps_to (oldest len newest) place m stop) ++ HeadLine m stop len ∷ l) (batches_stay newest more m stop after lens within.1)
