-- The lines of a session are those of the law of resumption.
use Rattle.std.proofs.Common.{◌≡◌, ℕ, zero, suc, List, [], ◌∷◌, ◌++◌, take, map, Option, refl, sym, ◌∙◌, ap, add-one}
use Rattle.std.specs.List.{AllByRecursion}
use Rattle.std.proofs.lemmas.List.{map-append, take-map}
use Rattle.block_record.specs.declared.blocks.Slip.{Slip}
use Rattle.chain_model.specs.declared.places.Mode.{Mode}
use Rattle.chain_model.specs.declared.places.Place.{Place}
use Rattle.chain_model.specs.Places.{PlacedStep, steps_to, place_to}
use Rattle.resume_laws.specs.Sessions.{Line, StepLine, HeadLine, step_lines, batches}
use Rattle.chain_laws.specs.Oldest.{oldest}
use Rattle.session_model.specs.Told.{Told, Opens, Steps, Heads, Ends, Fails}
use Rattle.session_model.specs.Transcript.{first_place, last_block, steps_told, batches_told, body}
use Rattle.session_laws.specs.Laws.{chain_lines_told, BodyIsReceived}

-- a step line or a head line
abbrev IsLine : Told → Type 0
IsLine (Opens type run place) = ⊥
IsLine (Steps x run seen) = Unit {0}
IsLine (Heads head seen) = Unit {0}
IsLine (Ends done) = ⊥
IsLine (Fails e) = ⊥

-- the line of a chain that it is; other lines are no line of a chain
abbrev line : Mode → Option ℕ → Told → Line
line m stop (Opens type run place) = HeadLine m stop 0
line m stop (Steps x run seen) = StepLine seen x
line m stop (Heads head seen) = HeadLine m stop seen
line m stop (Ends done) = HeadLine m stop 0
line m stop (Fails e) = HeadLine m stop 0

lines_are : (m : Mode) (stop : Option ℕ) (xs : List Told) → AllByRecursion IsLine xs → chain_lines_told m stop xs ≡ map (line m stop) xs
lines_are m stop [] all = refl
lines_are m stop (Opens type run place ∷ xs) all = absurd all.0
lines_are m stop (Steps x run seen ∷ xs) all = ap (λ l. StepLine seen x ∷ l) (lines_are m stop xs all.1)
lines_are m stop (Heads head seen ∷ xs) all = ap (λ l. HeadLine m stop seen ∷ l) (lines_are m stop xs all.1)
lines_are m stop (Ends done ∷ xs) all = absurd all.0
lines_are m stop (Fails e ∷ xs) all = absurd all.0

all_taken : (k : ℕ) (xs : List Told) → AllByRecursion IsLine xs → AllByRecursion IsLine (take k xs)
all_taken zero xs all = tt
all_taken (suc k) [] all = tt
all_taken (suc k) (x ∷ xs) all = (all.0, all_taken k xs all.1)

all_steps : (run seen : ℕ) (xs : List PlacedStep) (more : List Told) → AllByRecursion IsLine more → AllByRecursion IsLine (steps_told run seen xs ++ more)
all_steps run seen [] more all = all
all_steps run seen (x ∷ xs) more all = (tt, all_steps run seen xs more all)

all_batches : (newest : List Slip) (run : ℕ) (m : Mode) (stop : Option ℕ) (place : Place) (lens : List ℕ) → AllByRecursion IsLine (batches_told newest run m stop place lens)
all_batches newest run m stop place [] = tt
all_batches newest run m stop place (len ∷ lens) =
    all_steps run len (steps_to (oldest len newest) place m stop) _ (tt, all_batches newest run m stop (place_to (oldest len newest) place m stop) lens)

steps_lines : (m : Mode) (stop : Option ℕ) (run seen : ℕ) (xs : List PlacedStep) → map (line m stop) (steps_told run seen xs) ≡ step_lines seen xs
steps_lines m stop run seen [] = refl
steps_lines m stop run seen (x ∷ xs) = ap (λ l. StepLine seen x ∷ l) (steps_lines m stop run seen xs)

batches_lines : (newest : List Slip) (run : ℕ) (m : Mode) (stop : Option ℕ) (place : Place) (lens : List ℕ) → map (line m stop) (batches_told newest run m stop place lens) ≡ batches newest m stop place lens
batches_lines newest run m stop place [] = refl
batches_lines newest run m stop place (len ∷ lens) =
    let older = oldest len newest in
    let after = place_to older place m stop in
    map-append (line m stop) (steps_told run len (steps_to older place m stop)) (Heads (last_block older m stop) len ∷ batches_told newest run m stop after lens)
    ∙ ap (λ l. l ++ HeadLine m stop len ∷ map (line m stop) (batches_told newest run m stop after lens)) (steps_lines m stop run len (steps_to older place m stop))
    ∙ ap (λ l. step_lines len (steps_to older place m stop) ++ HeadLine m stop len ∷ l) (batches_lines newest run m stop after lens)

pub body_is_received : BodyIsReceived
body_is_received newest run type r [] cut some = absurd (some refl)
body_is_received newest run type r (len ∷ lens) cut some =
    let first = first_place newest r (len ∷ lens) in
    let told = batches_told newest run r.mode r.stop first (len ∷ lens) in
    ap (λ n. chain_lines_told r.mode r.stop (take n (body newest run type r (len ∷ lens)))) (add-one cut)
    ∙ lines_are r.mode r.stop (take cut told) (all_taken cut told (all_batches newest run r.mode r.stop first (len ∷ lens)))
    ∙ sym (take-map (line r.mode r.stop) cut told)
    ∙ ap (take cut) (batches_lines newest run r.mode r.stop first (len ∷ lens))
