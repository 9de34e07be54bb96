-- What is given of the items that are left, and why none is.
use Rattle.std.specs.Prelude.{ℕ, ◌≡◌, List, [], ◌∷◌, Option, None, Some, IfSome, IsSome}
use Rattle.std.specs.Arc.{arc_value}
use Rattle.block_record.specs.declared.blocks.Block.{Block}
use Rattle.block_record.specs.Slips.{slip}
use Rattle.chain_model.specs.Steps.{block_step}
use Rattle.chain_model.specs.Places.{PlacedStep}
use Rattle.outer_world.specs.Files.{Files}
use Rattle.one_block.specs.declared.faults.StoreFault.{StoreFault}
use Rattle.file_source.specs.Sources.{FetchRefused}
use Rattle.join_source.specs.declared.step.StepOut.{StepOut}
use Rattle.join_source.specs.Items.{Left}

-- a step that is sent, with the slip of its block and the place after it
abbrev pub sent_of : StepOut → PlacedStep
sent_of x = record { step = block_step x.step (slip (arc_value x.block)); place = x.place }

-- the first item is given, and the others are left. A block that it holds is the one that is given
pub record Gives (items rest : List Left) (out : StepOut) : Type 0 where
  pub item : Left
  pub first : items ≡ item ∷ rest
  pub sent : sent_of out ≡ item.placed
  pub held : IfSome item.held (λ b. arc_value out.block ≡ b)

-- the first item is given, or there is none
abbrev pub GivesNext : List Left → List Left → Option StepOut → Type 0
GivesNext items rest None = (items ≡ []) × (rest ≡ [])
GivesNext items rest (Some out) = Gives items rest out

-- why the first item is not given: it does not hold its block, which could not be fetched
pub record IsRefused (files : Option Files) (items : List Left) (before now : ℕ) (fault : StoreFault) : Type 0 where
  pub item : Left
  pub rest : List Left
  pub first : items ≡ item ∷ rest
  pub bare : item.held ≡ None
  pub cause : FetchRefused files item.placed.step.slip before now fault

-- what was fetched for an item: the block with its slip, where the item does not hold its block
abbrev pub IsFetchedFor : Left → Option Block → Type 0
IsFetchedFor x None = IsSome x.held
IsFetchedFor x (Some b) = (x.held ≡ None) × (slip b ≡ x.placed.step.slip)

-- what was fetched for the first item
abbrev pub IsFetchedForFirst : List Left → Option Block → Type 0
IsFetchedForFirst [] fetched = Unit {0}
IsFetchedForFirst (x ∷ xs) fetched = IsFetchedFor x fetched
