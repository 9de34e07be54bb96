-- The steps that are told of blocks, and what the blocks leave.
use Rattle.std.specs.Prelude.{ℕ, List, [], ◌∷◌, ◌++◌, map, length, reverse, Option, None, Some}
use Rattle.std.specs.Option.{option_map}
use Rattle.block_record.specs.declared.blocks.Slip.{Slip}
use Rattle.block_record.specs.declared.blocks.BlockRef.{BlockRef}
use Rattle.chain_model.specs.declared.places.Place.{Place}
use Rattle.chain_model.specs.Finality.{ancestry_of, final_tip, final_ancestry}
use Rattle.chain_model.specs.Steps.{BlockStep, head, ref_of}
use Rattle.chain_model.specs.Fold.{FoldState}
use Rattle.chain_laws.specs.Standing.{after_base}
use Rattle.fire_lines.specs.Text.{received as read}
use Rattle.relay_model.specs.Worlds.{World}
use Rattle.relay_model.specs.Offers.{offered}
use Rattle.relay_model.specs.Runs.{received}
use Rattle.relay_model.specs.Orders.{once}
use Rattle.step_text.specs.declared.refusals.Refusal.{Refusal}
use Rattle.step_text.specs.Limits.{line_max, step_limits}
use Rattle.step_text.specs.StepText.{refusal_of, steps_by, place_by}

-- what comes last: where a block is refused what its offer leaves, else what the blocks after it leave
abbrev pub unless_refused : {A : Type 0} → Option Refusal → A → A → A
unless_refused None here later = later
unless_refused (Some r) here later = here

-- the steps that are told of blocks in order, from a world and the place of a client that follows the head: of each the steps that its offer brings, up to and with the first that is refused
abbrev pub steps_told : List Slip → World → Place → List BlockStep
steps_told [] w place = []
steps_told (s ∷ slips) w place =
    let answer = (offered w s).answer in
    let after = (offered w s).world in
    steps_by answer after.history place ++ unless_refused (refusal_of answer) [] (steps_told slips after (place_by answer after.history place))

-- the world that they leave
abbrev pub world_left : List Slip → World → World
world_left [] w = w
world_left (s ∷ slips) w = unless_refused (refusal_of (offered w s).answer) (offered w s).world (world_left slips (offered w s).world)

-- and where the client then stands
abbrev pub place_left : List Slip → World → Place → Place
place_left [] w place = place
place_left (s ∷ slips) w place =
    let answer = (offered w s).answer in
    let after = (offered w s).world in
    let to = place_by answer after.history place in
    unless_refused (refusal_of answer) to (place_left slips after to)

-- the place at the head of a history, whose lib is the final tip; of an empty history it has neither
abbrev pub head_place : List Slip → Place
head_place newest = record { end = option_map ref_of (head newest); lib = option_map ref_of (final_tip newest) }

-- the state of a client that has the path of the head after its base, and counts as final exactly the blocks of the final path after it
abbrev pub at_head : List Slip → Option BlockRef → FoldState
at_head newest base = record {
  base = base;
  blocks = map ref_of (after_base base (ancestry_of newest (head newest)));
  finals = length (after_base base (final_ancestry newest));
}

-- the same of a client that began with nothing: it has the whole path of the head, and as many final blocks as the final path has
abbrev pub has_head : List Slip → FoldState
has_head newest = record { base = None; blocks = map ref_of (ancestry_of newest (head newest)); finals = length (final_ancestry newest) }

-- of the blocks that the command is brought in order, those that its relay answers Ok, each once; what was received last is first
abbrev pub received_of : ℕ → List Slip → List Slip
received_of first slips = received first 0 step_limits (reverse slips)

-- all blocks of an input before its first bad line, each once; the last is first
abbrev pub blocks_of : List ℕ → List Slip
blocks_of input = once (reverse (read line_max input).slips)
