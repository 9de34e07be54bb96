-- What an offered block changes.
use Rattle.std.specs.Prelude.{ℕ, ◌≡◌, List, ◌++◌, map, Option, None, Some}
use Rattle.block_record.specs.declared.blocks.Slip.{Slip}
use Rattle.chain_model.specs.declared.places.Place.{Place}
use Rattle.chain_model.specs.Steps.{plain_of}
use Rattle.relay_model.specs.Worlds.{World}
use Rattle.relay_model.specs.Offers.{offered}
use Rattle.step_text.specs.declared.refusals.Refusal.{Refusal}
use Rattle.step_text.specs.StepText.{Told, place_by, prepend, refusal_of, step_lines, steps_by, tell}

-- a block was offered and the steps that this brings were told: the world, the client's place and the text, before and after, and the refusal, if it was refused
pub record IsTaken (s : Slip) (old new : World) (from to : Place) (before after : List ℕ) (r : Option Refusal) : Type 0 where
  pub world : new ≡ (offered old s).world
  pub place : to ≡ place_by (offered old s).answer (offered old s).world.history from
  pub text : after ≡ before ++ step_lines (map plain_of (steps_by (offered old s).answer (offered old s).world.history from))
  pub refusal : r ≡ refusal_of (offered old s).answer

-- all that is told, where these blocks come last: this text was told and they follow from this world and place, or a refusal ended it
abbrev pub Tells : Told → List Slip → Option Refusal → List ℕ → World → Place → Type 0
Tells all more None text w place = all ≡ prepend text (tell more w place)
Tells all more (Some r) text w place = all ≡ record { text = text; refusal = Some r }
