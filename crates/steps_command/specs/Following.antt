-- What a follower of the head has.
use Rattle.std.specs.Prelude.{◌≡◌, Bool, true, false, Result, Ok, Err}
use Rattle.chain_model.specs.declared.places.Place.{Place}
use Rattle.chain_model.specs.Places.{PlaceFits}
use Rattle.relay_model.specs.Worlds.{World}
use Rattle.relay_model.specs.Soundness.{IsSound}
use Rattle.block_intake.specs.declared.answers.Offered.{Offered}
use Rattle.block_intake.specs.declared.answers.Offered.TheVariants as answer
use Rattle.block_intake.specs.declared.answers.OfferFault.{OfferFault}
use Rattle.block_intake.specs.Intakes.{TakenIn, world_taken}

-- the world of an intake, and the place of a client that was told all steps to its heads
pub record Following : Type 0 where
  pub world : World
  pub place : Place

-- the world of an intake is sound, and the place of its client fits its history
pub record IsFollowed (taken : TakenIn) (place : Place) : Type 0 where
  pub sound : IsSound (world_taken taken)
  pub fits : PlaceFits taken.forks.history place.end place.lib

-- whether a block is admitted
abbrev pub admits : Result Offered OfferFault → Bool
admits (Ok (answer.Admitted from count dropped)) = true
admits (Ok answer.Duplicate) = false
admits (Ok answer.Waiting) = false
admits (Ok answer.Early) = false
admits (Ok answer.Stale) = false
admits (Err fault) = false
