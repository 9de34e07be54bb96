-- A batch: the steps from a place to a target, by their counts.
use Rattle.std.specs.Prelude.{ℕ, ◌≡◌, ◌+◌, ◌++◌, Bool, true, false, not, List, length, filter, Option, Some, IfSome}
use Rattle.std.specs.List.{slice_get}
use Rattle.std.specs.Option.{option_map}
use Rattle.std.specs.Arc.{arc_value}
use Rattle.block_record.specs.declared.blocks.Block.{Block}
use Rattle.block_record.specs.declared.blocks.Slip.{Slip}
use Rattle.block_record.specs.declared.blocks.BlockRef.{BlockRef}
use Rattle.block_record.specs.Slips.{slip}
use Rattle.chain_model.specs.declared.places.Mode.{Mode}
use Rattle.chain_model.specs.declared.places.Step.{Step}
use Rattle.chain_model.specs.declared.places.Step.TheVariants as step
use Rattle.chain_model.specs.Ancestry.{has_id}
use Rattle.chain_model.specs.Finality.{final_ancestry}
use Rattle.chain_model.specs.Steps.{BlockStep, block_step, keep_while, is_after, undone, added, kept, ancestry_at, target}
use Rattle.chain_model.specs.Places.{PlaceFits, PlacedStep, IsAhead}
use Rattle.chain_laws.specs.Standing.{first_of}
use Rattle.block_tree.specs.Places.{place_of, slip_at, slip_of}
use Rattle.fork_db.specs.declared.batches.Batch.{Batch}
use Rattle.fork_db.specs.declared.chunks.StepAt.{StepAt}
use Rattle.fork_db.specs.declared.chunks.StepItem.{StepItem}

-- how many steps of each kind lead from the end's path, which is held, to the wanted path
pub record HasCounts (path held : List Slip) (lib : Option BlockRef) (wanted : List Slip) (undos finals newfinals news : ℕ) : Type 0 where
  pub undo : undos ≡ length (undone held wanted)
  pub final : finals ≡ length (filter (λ s. has_id path s.id) (keep_while (is_after lib) (kept held wanted)))
  pub newfinal : newfinals ≡ length (filter (λ s. has_id path s.id) (added held wanted))
  pub new_ : news ≡ length (filter (λ s. not (has_id path s.id)) (added held wanted))

-- the batch is the steps from its place to the target: how long the history is, the last block of the target and of the client, how long the paths to the end and to the lib are, and how many steps there are of each kind
pub record IsBatch (newest : List Slip) (mode : Mode) (stop : Option ℕ) (b : Batch) : Type 0 where
  pub seen : b.seen ≡ length newest
  pub last : slip_of newest b.target ≡ first_of (target newest mode stop)
  pub end : slip_of newest b.end ≡ first_of (ancestry_at newest b.place.end)
  pub held : b.held ≡ length (ancestry_at newest b.place.end)
  pub known : b.known ≡ length (ancestry_at newest b.place.lib)
  pub counts : HasCounts (final_ancestry newest) (ancestry_at newest b.place.end) b.place.lib (target newest mode stop) b.undos b.finals b.newfinals b.news

-- the batch was made when the history was the older one: its place fitted, and the stop was not below the place's end
pub record IsGiven (newest older : List Slip) (mode : Mode) (stop : Option ℕ) (b : Batch) : Type 0 where
  pub more : List Slip
  pub grown : newest ≡ more ++ older
  pub batch : IsBatch older mode stop b
  pub fits : PlaceFits older b.place.end b.place.lib
  pub ahead : IsAhead stop b.place.end

-- the batch was made of this history, or before it grew
pub record WasGiven (newest : List Slip) (b : Batch) : Type 0 where
  pub older : List Slip
  pub mode : Mode
  pub stop : Option ℕ
  pub given : IsGiven newest older mode stop b

-- how many steps a batch has
abbrev pub step_total : Batch → ℕ
step_total b = b.undos + b.finals + b.newfinals + b.news

-- what a step does that adds a block
abbrev pub added_kind : Bool → Step
added_kind true = step.NewFinal
added_kind false = step.New

-- the step with its block, by the block's place in the history
abbrev pub step_seen : List Slip → StepAt → Option BlockStep
step_seen newest x = option_map (block_step x.step) (slip_at newest x.at)

-- the step of an item, with its block and the place after it
abbrev pub item_seen : StepItem → PlacedStep
item_seen x = record { step = block_step x.step x.slip; place = x.place }

-- the item holds what is held of its block
abbrev pub HoldsWhatIs : List Slip → List (Option Block) → StepItem → Type 0
HoldsWhatIs newest held x = (at : ℕ) → place_of newest x.slip.id ≡ Some at → slice_get held at ≡ Some (option_map arc_value x.held)

-- a block that the item has is the one of its slip
abbrev pub HasOwnBlock : StepItem → Type 0
HasOwnBlock x = IfSome x.held (λ b. x.slip ≡ slip (arc_value b))
