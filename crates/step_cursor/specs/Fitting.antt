-- When a cursor fits a history.
use Rattle.std.specs.Prelude.{◌≡◌, List, Option, Some, IsSomeAnd}
use Rattle.block_record.specs.declared.blocks.Slip.{Slip}
use Rattle.block_record.specs.declared.blocks.BlockRef.{BlockRef}
use Rattle.chain_model.specs.declared.places.Step.{Step}
use Rattle.chain_model.specs.declared.places.Step.TheVariants as step
use Rattle.chain_model.specs.Ancestry.{find_id}
use Rattle.chain_model.specs.Places.{IsHeld, BlocksFit}
use Rattle.chain_model.specs.Steps.{parent_of}
use Rattle.step_cursor.specs.declared.cursor.Cursor.{Cursor}

-- where a step of this kind has its block: a new block is the end; the end is the parent of one that was undone, as the block itself names it in the history; a final block is the lib; one that is new and final is both
abbrev pub HasShape : List Slip → Step → BlockRef → BlockRef → BlockRef → Type 0
HasShape newest step.New block end lib = end ≡ block
HasShape newest step.Undo block end lib = IsSomeAnd (find_id newest block.id) (λ s. end ≡ parent_of s)
HasShape newest step.Final block end lib = lib ≡ block
HasShape newest step.NewFinal block end lib = (end ≡ block) × (lib ≡ block)

-- a step with its block, an end and a lib fits a history: the place fits, the block is held with its number, and the block is where the step has it
pub record StepFits (newest : List Slip) (kind : Step) (block end lib : BlockRef) : Type 0 where
  pub place : BlocksFit newest end lib
  pub held : IsHeld newest block
  pub shape : HasShape newest kind block end lib

-- the same of a place that may lack its end or lib; then the step doesn't fit
abbrev pub StepFitsAt : List Slip → Step → BlockRef → Option BlockRef → Option BlockRef → Type 0
StepFitsAt newest kind block (Some end) (Some lib) = StepFits newest kind block end lib
StepFitsAt newest kind block end lib = ⊥

-- a cursor fits a history, which has its newest block first
abbrev pub CursorFits : Cursor → List Slip → Type 0
CursorFits c newest = StepFitsAt newest c.step c.block c.place.end c.place.lib
