-- The cursor of each step on the way to a target fits, also in a longer history.
use Rattle.std.proofs.Common.{List, [], ◌∷◌, ◌++◌, Option, Some, None, refl, ◌∙◌}
use Rattle.std.specs.List.{AllByRecursion}
use Rattle.block_record.specs.declared.blocks.Slip.{Slip}
use Rattle.block_record.specs.declared.blocks.BlockRef.{BlockRef}
use Rattle.chain_model.specs.declared.places.Place.{Place}
use Rattle.chain_model.specs.declared.places.Step.{Step}
use Rattle.chain_model.specs.declared.places.Step.TheVariants as step
use Rattle.chain_model.specs.Ancestry.{IsHistory}
use Rattle.chain_model.specs.Finality.{ClaimsAgree}
use Rattle.chain_model.specs.Steps.{BlockStep, block_step, ref_of, place_after, steps_of, target}
use Rattle.chain_model.specs.Places.{placed, PlaceFits}
use Rattle.step_cursor.specs.Fitting.{StepFitsAt}
use Rattle.chain_laws.proofs.public.Lines.{has_id-find_id}
use Rattle.chain_laws.proofs.public.Growth.{IsFound}
use Rattle.chain_laws.proofs.public.Walks.{Walk, next, walk_fits}
use Rattle.chain_laws.proofs.public.Starts.{start}
use Rattle.chain_laws.proofs.public.Later.{history_older, find_later, fits_later}
use Rattle.resume_laws.specs.Sessions.{CursorFits}
use Rattle.resume_laws.specs.Laws.{CursorsFit}

-- a step whose block is held fits where the place after it does
step_fits : (newest : List Slip) (end lib : Option BlockRef) (kind : Step) (s : Slip) → IsFound newest s
    → PlaceFits newest (place_after (record { end = end; lib = lib }) (block_step kind s)).end (place_after (record { end = end; lib = lib }) (block_step kind s)).lib
    → StepFitsAt newest kind (ref_of s) (place_after (record { end = end; lib = lib }) (block_step kind s)).end (place_after (record { end = end; lib = lib }) (block_step kind s)).lib
step_fits newest end None step.New s found fits = absurd fits
step_fits newest end (Some l) step.New s found fits = record { place = fits; held = fits.end_held; shape = refl }
step_fits newest end None step.Undo s found fits = absurd fits
step_fits newest end (Some l) step.Undo s found fits = record { place = fits; held = rw found refl; shape = rw found refl }
step_fits newest None lib step.Final s found fits = absurd fits
step_fits newest (Some e) lib step.Final s found fits = record { place = fits; held = fits.lib_held; shape = refl }
step_fits newest end lib step.NewFinal s found fits = record { place = fits; held = fits.end_held; shape = (refl, refl) }

cursors_along : (more older goal : List Slip) (xs : List BlockStep) (place : Place) → IsHistory (more ++ older) → ClaimsAgree (more ++ older) → Walk older goal None place xs
    → AllByRecursion (CursorFits (more ++ older)) (placed place xs)
cursors_along more older goal [] place history agreed w = tt
cursors_along more older goal (x ∷ xs) place history agreed w =
    let before = history_older more older history in
    let n = next older goal None place x xs before w in
    let after = place_after place x in
    let fits = fits_later more older history agreed after.end after.lib (walk_fits older goal None after xs before n.walk) in
    let found : IsFound (more ++ older) x.slip = find_later more older history x.slip.id (has_id-find_id older x.slip.id x.slip n.block) ∙ n.block in
    let cursor : CursorFits (more ++ older) (record { step = x; place = after }) =
    record { fits = step_fits (more ++ older) place.end place.lib x.step x.slip found fits; block = found } in
    (cursor, cursors_along more older goal xs after history agreed n.walk)

pub cursors_fit : CursorsFit
cursors_fit older more place m stop history agreed fits ahead =
    cursors_along more older (target older m stop) (steps_of older place m stop) place history agreed (start older None place m stop (history_older more older history) fits tt ahead)
