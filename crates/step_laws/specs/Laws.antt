-- What a client makes of the steps that are told, as statements.
use Rattle.std.specs.Prelude.{ℕ, ◌≡◌, ◌<◌, ◌⊎◌, List, length, map, reverse, Option, None, Some}
use Rattle.std.specs.List.{AllByRecursion}
use Rattle.block_record.specs.declared.blocks.Slip.{Slip}
use Rattle.block_record.specs.declared.blocks.BlockRef.{BlockRef}
use Rattle.chain_model.specs.declared.places.Place.{Place}
use Rattle.chain_model.specs.Steps.{BlockStep, plain_of}
use Rattle.chain_model.specs.Ancestry.{find_id}
use Rattle.chain_model.specs.Finality.{ClaimsAgree}
use Rattle.chain_model.specs.Places.{PlaceFits, no_place}
use Rattle.chain_model.specs.Fold.{fold_steps}
use Rattle.chain_laws.specs.Standing.{stands, begins, IsUnder}
use Rattle.fire_lines.specs.Text.{received}
use Rattle.relay_model.specs.Worlds.{World}
use Rattle.relay_model.specs.Soundness.{IsBlock, IsSound}
use Rattle.relay_model.specs.Orders.{once, linked_order}
use Rattle.relay_model.specs.Runs.{OneEach}
use Rattle.step_text.specs.Limits.{new_world}
use Rattle.step_text.specs.StepText.{whole, step_lines, step_text, tell}
use Rattle.step_laws.specs.Telling.{steps_told, world_left, place_left, head_place, at_head, has_head, received_of, blocks_of}

-- the text that is told of blocks is the lines of the steps that are told of them
abbrev pub StepsTold : Type 0
StepsTold = (slips : List Slip) (w : World) (place : Place) → (tell slips w place).text ≡ step_lines (map plain_of (steps_told slips w place))

-- a client is brought to the head by the blocks: it stood there before them, or one of them was admitted
abbrev pub IsBrought : List Slip → World → Place → Type 0
IsBrought slips w place = (place ≡ head_place w.history) ⊎ (length w.history < length (world_left slips w).history)

-- what a client makes of the steps that are told of blocks, from the place where it stands
pub record FollowsHead (slips : List Slip) (w : World) (base : Option BlockRef) (place : Place) : Type 0 where
  -- all steps together have a fold, and it leads to the place that is left
  pub fold : fold_steps (stands w.history base place) (steps_told slips w place)
      ≡ Some (stands (world_left slips w).history base (place_left slips w place))
  -- each step is of a block of the history that is left
  pub held : AllByRecursion (λ x. find_id (world_left slips w).history x.slip.id ≡ Some x.slip) (steps_told slips w place)
  -- the place fits it
  pub fits : PlaceFits (world_left slips w).history (place_left slips w place).end (place_left slips w place).lib
  -- where the client is brought to the head, it has the path of the head, with the final path counted
  pub head : IsBrought slips w place
      → fold_steps (stands w.history base place) (steps_told slips w place) ≡ Some (at_head (world_left slips w).history base)

-- so it is from each sound world, place that fits and base on the path of its lib
abbrev pub StepsFollow : Type 0
StepsFollow = (slips : List Slip) (w : World) (base : Option BlockRef) (place : Place) → IsSound w → AllByRecursion IsBlock slips
    → PlaceFits w.history place.end place.lib → IsUnder w.history base place.lib → FollowsHead slips w base place

-- what is asked of received blocks, of which the last is first: each id is of one slip, and the claims of their order from scratch agree
pub record AreOrderly (first : ℕ) (blocks : List Slip) : Type 0 where
  pub one_each : OneEach blocks
  pub agreed : ClaimsAgree (linked_order first blocks)

-- steps lead a client that began with nothing to the head of an order: each is of a block of the order, and all together fold to the path of its head, with as many final blocks as its final path has
pub record LeadToHead (steps : List BlockStep) (order : List Slip) : Type 0 where
  pub blocks : AllByRecursion (λ x. find_id order x.slip.id ≡ Some x.slip) steps
  pub fold : fold_steps (begins None) steps ≡ Some (has_head order)

-- where no block is refused, the steps that are told lead to the head of the order from scratch of what is received
abbrev pub StepsFromScratch : Type 0
StepsFromScratch = (first : ℕ) (slips : List Slip) → AllByRecursion IsBlock slips → (tell slips (new_world first) no_place).refusal ≡ None
    → AreOrderly first (received_of first slips) → LeadToHead (steps_told slips (new_world first) no_place) (linked_order first (received_of first slips))

-- and then all blocks that are brought are received
abbrev pub AllAreReceived : Type 0
AllAreReceived = (first : ℕ) (slips : List Slip) → (tell slips (new_world first) no_place).refusal ≡ None → received_of first slips ≡ once (reverse slips)

-- each slip that the lines of a node bring is that of a block: the number of its parent is less, or both are 0
abbrev pub LinesBringBlocks : Type 0
LinesBringBlocks = (max : ℕ) (text : List ℕ) → AllByRecursion IsBlock (received max text).slips

-- a text is the lines of steps that lead to the head of an order
pub record TellsHead (text : List ℕ) (order : List Slip) : Type 0 where
  pub steps : List BlockStep
  pub lines : text ≡ step_lines (map plain_of steps)
  pub leads : LeadToHead steps order

-- the step text of an input that no refusal and no bad line ended leads to the head of the order from scratch of the input's blocks
abbrev pub StepTextFromScratch : Type 0
StepTextFromScratch = (first : ℕ) (input : List ℕ) → (step_text first input).ending ≡ whole → AreOrderly first (blocks_of input)
    → TellsHead (step_text first input).text (linked_order first (blocks_of input))
