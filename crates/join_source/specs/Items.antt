-- The items of a batch that are left to be sent.
use Rattle.std.specs.Prelude.{◌≡◌, List, [], ◌∷◌, Option, IfSome, IsSome}
use Rattle.std.specs.Option.{option_map}
use Rattle.std.specs.Arc.{arc_value}
use Rattle.block_record.specs.declared.blocks.Block.{Block}
use Rattle.block_record.specs.Slips.{slip}
use Rattle.chain_model.specs.Places.{PlacedStep}
use Rattle.fork_db.specs.declared.chunks.StepItem.{StepItem}
use Rattle.fork_db.specs.Batches.{item_seen}

-- an item that is left: its step, with the slip of its block and the place after it, and the block, where it is held
pub record Left : Type 0 where
  pub placed : PlacedStep
  pub held : Option Block

-- an item of a batch as one that is left
abbrev pub left_of : StepItem → Left
left_of x = record { placed = item_seen x; held = option_map arc_value x.held }

-- a block that is held is the one of the item's slip
abbrev pub HoldsOwn : Left → Type 0
HoldsOwn x = IfSome x.held (λ b. x.placed.step.slip ≡ slip b)

-- no file is needed for the next item: it holds its block, or there is none
abbrev pub NeedsNoFile : List Left → Type 0
NeedsNoFile [] = Unit {0}
NeedsNoFile (x ∷ xs) = IsSome x.held
