-- Places: where a client begins, which places fit a history, and the place after each step.
use Rattle.std.specs.Prelude.{ℕ, ◌≡◌, ◌≤◌, nat_lt, List, [], ◌∷◌, Option, None, Some, IsTrue, IsSomeAnd}
use Rattle.std.specs.Option.{option_map}
use Rattle.std.specs.List.{find}
use Rattle.block_record.specs.declared.blocks.Slip.{Slip}
use Rattle.block_record.specs.declared.blocks.BlockRef.{BlockRef}
use Rattle.chain_model.specs.declared.places.Mode.{Mode}
use Rattle.chain_model.specs.declared.places.Place.{Place}
use Rattle.chain_model.specs.Ancestry.{find_id, has_id, ancestry}
use Rattle.chain_model.specs.Finality.{final_ancestry}
use Rattle.chain_model.specs.Steps.{BlockStep, ref_of, steps_of, place_after}

-- no block at all: where a client begins that has received nothing
abbrev pub no_place : Place
no_place = record { end = None; lib = None }

-- the opening of a start: the last final block with a number below it, as end and as lib, or none of both
abbrev pub opening : List Slip → ℕ → Place
opening newest start =
    let last = option_map ref_of (find (λ s. nat_lt s.num start) (final_ancestry newest)) in
    record { end = last; lib = last }

-- the block at a reference is in the history, with its number
abbrev pub IsHeld : List Slip → BlockRef → Type 0
IsHeld newest r = IsSomeAnd (find_id newest r.id) (λ s. s.num ≡ r.num)

-- an end and a lib fit a history: both are held, and the lib is on the final path and on the path of the end
pub record BlocksFit (newest : List Slip) (end lib : BlockRef) : Type 0 where
  pub end_held : IsHeld newest end
  pub lib_held : IsHeld newest lib
  pub final : IsTrue (has_id (final_ancestry newest) lib.id)
  pub on_path : IsTrue (has_id (ancestry newest end.id) lib.id)

-- a place, by its end and its lib, fits a history: it has neither block, or both and they fit
abbrev pub PlaceFits : List Slip → Option BlockRef → Option BlockRef → Type 0
PlaceFits newest None None = Unit {0}
PlaceFits newest (Some end) (Some lib) = BlocksFit newest end lib
PlaceFits newest end lib = ⊥

-- the stop, where there is one, is not below the number of the end
abbrev pub IsAhead : Option ℕ → Option BlockRef → Type 0
IsAhead (Some stop) (Some end) = end.num ≤ stop
IsAhead stop end = Unit {0}

-- a step with its block and the place after it
pub record PlacedStep : Type 0 where
  pub step : BlockStep
  pub place : Place

-- each of the steps from a place with the place after it
abbrev pub placed : Place → List BlockStep → List PlacedStep
placed place [] = []
placed place (x ∷ xs) = record { step = x; place = place_after place x } ∷ placed (place_after place x) xs

-- the place after all of the steps
abbrev pub place_along : Place → List BlockStep → Place
place_along place [] = place
place_along place (x ∷ xs) = place_along (place_after place x) xs

-- the steps from a place to the target, each with the place after it
abbrev pub steps_to : List Slip → Place → Mode → Option ℕ → List PlacedStep
steps_to newest place mode stop = placed place (steps_of newest place mode stop)

-- the place after the steps from a place to the target
abbrev pub place_to : List Slip → Place → Mode → Option ℕ → Place
place_to newest place mode stop = place_along place (steps_of newest place mode stop)
