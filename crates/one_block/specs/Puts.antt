-- What putting a block's file on a shelf answers, and what stands after it.
use Rattle.std.specs.Prelude.{ℕ, ◌≡◌, ◌⊎◌, IsTrue, IsFalse, List, Option, None, Some, ⊤, Result, Ok, Err}
use Rattle.block_record.specs.declared.blocks.Slip.{Slip}
use Rattle.block_record.specs.declared.blocks.Block.{Block}
use Rattle.block_record.specs.Slips.{slip, same_slip}
use Rattle.outer_world.specs.Causes.{Rose}
use Rattle.outer_world.specs.Files.{Files}
use Rattle.outer_world.specs.Shelves.{Holds, emptied, told_with}
use Rattle.one_block.specs.declared.faults.Put.{Put}
use Rattle.one_block.specs.declared.faults.Put.TheVariants.{Written, Present}
use Rattle.one_block.specs.declared.faults.StoreFault.{StoreFault}
use Rattle.one_block.specs.declared.faults.StoreFault.TheVariants.{ShelfFault, ShelfBad, Missing, StoredOther, NameClash, Mem}
use Rattle.one_block.specs.declared.file_faults.FileFault.TheVariants.{Bad}
use Rattle.one_block.specs.declared.forms.Form.TheVariants.{ByReader}
use Rattle.one_block.specs.Names.{own_file}
use Rattle.one_block.specs.Singles.{IsSingleOf, FormedRefused}

-- a file of this name holds one block, whose slip this is, and nothing else, as this reader writes it
pub record HoldsSlip (by file text : List ℕ) (s : Slip) : Type 0 where
  pub block : Block
  pub block_type : List ℕ
  pub slip_is : s ≡ slip block
  pub single : IsSingleOf (ByReader by) file text None block_type block

-- the first fault of a file of this name stands here
abbrev pub IsBadAt : List ℕ → List ℕ → List ℕ → ℕ → Type 0
IsBadAt by file text at = FormedRefused (ByReader by) file text None (Bad at)

-- the file wasn't there, and now has this text
pub record IsWritten (s : Slip) (by text : List ℕ) (old new : Option Files) : Type 0 where
  pub absent : Holds old (own_file s by) None
  pub put : new ≡ told_with (own_file s by) text old

-- this text is held under the block's own name, and holds one block of this slip
pub record IsHeldAs (s : Slip) (by held_text : List ℕ) (old : Option Files) (held : Slip) : Type 0 where
  pub there : Holds old (own_file s by) (Some held_text)
  pub holds : HoldsSlip by (own_file s by) held_text held

-- the file held the same block, and no file changed
pub record IsPresent (s : Slip) (by : List ℕ) (old new : Option Files) : Type 0 where
  pub held_text : List ℕ
  pub held : Slip
  pub held_as : IsHeldAs s by held_text old held
  pub same : IsTrue (same_slip held s)
  pub kept : new ≡ old

-- the file holds a block with another slip, and no file changed
pub record IsClash (s : Slip) (by : List ℕ) (old new : Option Files) (held offered : Slip) : Type 0 where
  pub held_text : List ℕ
  pub held_as : IsHeldAs s by held_text old held
  pub offered_is : offered ≡ s
  pub other : IsFalse (same_slip held s)
  pub kept : new ≡ old

-- the file is bad at this place, and no file changed
pub record IsBadFile (s : Slip) (by : List ℕ) (old new : Option Files) (name : List ℕ) (at : ℕ) : Type 0 where
  pub held_text : List ℕ
  pub there : Holds old (own_file s by) (Some held_text)
  pub named : name ≡ own_file s by
  pub place : IsBadAt by (own_file s by) held_text at
  pub kept : new ≡ old

-- the shelf failed: its count rose, and the file is the old one, or the new one where there was none
pub record IsShelfFault (s : Slip) (by text : List ℕ) (old new : Option Files) (before now : ℕ) : Type 0 where
  pub rose : Rose before now
  pub files : (new ≡ old) ⊎ (Holds old (own_file s by) None × (new ≡ told_with (own_file s by) text old))

-- why a block's file was not put, and what stands then
abbrev pub PutRefused : Slip → List ℕ → List ℕ → Option Files → Option Files → ℕ → ℕ → StoreFault → Type 0
PutRefused s by text old new before now ShelfFault = IsShelfFault s by text old new before now
PutRefused s by text old new before now (ShelfBad name at) = IsBadFile s by old new name at
PutRefused s by text old new before now (Missing name) = ⊥
PutRefused s by text old new before now (StoredOther kept read) = ⊥
PutRefused s by text old new before now (NameClash held offered) = IsClash s by old new held offered
PutRefused s by text old new before now Mem = new ≡ old

-- how a block's file was put
abbrev pub PutDone : Slip → List ℕ → List ℕ → Option Files → Option Files → Put → Type 0
PutDone s by text old new Written = IsWritten s by text old new
PutDone s by text old new Present = IsPresent s by old new

-- what is answered to a block of this slip from this reader, whose file has this text
abbrev pub PutAnswers : Slip → List ℕ → List ℕ → Option Files → Option Files → ℕ → ℕ → Result Put StoreFault → Type 0
PutAnswers s by text old new before now (Ok put) = PutDone s by text old new put
PutAnswers s by text old new before now (Err fault) = PutRefused s by text old new before now fault

-- what of the staged text a refusal tells: it is the old one where a file that was there was read
abbrev pub StagedRefused : StoreFault → Option (List ℕ) → Option (List ℕ) → Type 0
StagedRefused ShelfFault old new = ⊤
StagedRefused (ShelfBad name at) old new = new ≡ old
StagedRefused (Missing name) old new = ⊥
StagedRefused (StoredOther kept read) old new = ⊥
StagedRefused (NameClash held offered) old new = new ≡ old
StagedRefused Mem old new = ⊤

-- the staged text after a put: none after a write, and else the old one
abbrev pub StagedPut : Put → Option (List ℕ) → Option (List ℕ) → Type 0
StagedPut Written old new = new ≡ emptied old
StagedPut Present old new = new ≡ old

abbrev pub StagedAfter : Result Put StoreFault → Option (List ℕ) → Option (List ℕ) → Type 0
StagedAfter (Ok put) old new = StagedPut put old new
StagedAfter (Err fault) old new = StagedRefused fault old new
