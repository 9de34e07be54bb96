-- What takes of one reader and merges leave as it is, as statements.
use Rattle.std.specs.Prelude.{ℕ, ◌≢◌, List, Option, Result}
use Rattle.block_record.specs.declared.blocks.Block.{Block}
use Rattle.block_record.specs.declared.blocks.Kind.{Kind}
use Rattle.block_record.specs.Texts.{IsReaderName}
use Rattle.outer_world.specs.Files.{Files}
use Rattle.one_block.specs.declared.faults.StoreFault.{StoreFault}
use Rattle.relay_model.specs.Worlds.{World}
use Rattle.block_intake.specs.declared.answers.Offered.{Offered}
use Rattle.block_relay.specs.Chronicle.{Told, world_told}
use Rattle.bundle_merger.specs.declared.merging.Merged.{Merged}
use Rattle.bundle_merger.specs.Merging.{IsHalted, IsMerged}
use Rattle.block_reader.specs.declared.own.OwnFile.{OwnFile}
use Rattle.block_reader.specs.declared.faults.TakeFault.{TakeFault}
use Rattle.block_reader.specs.Changes.{Shelved}
use Rattle.block_reader.specs.Kept.{AreOwn}
use Rattle.block_reader.specs.Takes.{IfAnswered, IfStore, IsPlaced, IsRefused}
use Rattle.own_laws.specs.Away.{AreBy, KeepsAway, TakesAway}

-- a take of a reader changes no files but those of this reader, whatever it answers
abbrev pub TakeStaysAway : Type 0
TakeStaysAway = (was is : Told) (kind : Kind) (block : Block) (by : List ℕ) (old new : Shelved) (before now : ℕ) (result : Result Offered TakeFault)
    → IfAnswered result (IsPlaced (world_told is) kind block by old new)
    → IfStore result (IsRefused was is kind block by old new before now)
    → TakesAway by old new

-- the same is true where nothing changed
abbrev pub NothingStaysAway : Type 0
NothingStaysAway = (by : List ℕ) (s : Shelved) → TakesAway by s s

-- and of takes one after another
abbrev pub TakesGoOn : Type 0
TakesGoOn = (by : List ℕ) (old mid new : Shelved) → TakesAway by old mid → TakesAway by mid new → TakesAway by old new

-- where all own files are by the reader, they go on to be
abbrev pub OwnStayBy : Type 0
OwnStayBy = (by : List ℕ) (old new : Shelved) → TakesAway by old new → AreBy by old.own → AreBy by new.own

-- the own files of another reader are there as before
abbrev pub OthersStay : Type 0
OthersStay = (by by' : List ℕ) (own other : List OwnFile) (old new : Option Files) → IsReaderName by → IsReaderName by' → by ≢ by'
    → AreBy by own → AreBy by' other → KeepsAway by own old new → AreOwn old other → AreOwn new other

-- a merge that comes to its end leaves the own files of each reader as they are
abbrev pub MergesStay : Type 0
MergesStay = (w w' : World) (old new : Option Files) (merged : Merged) (own : List OwnFile) → IsMerged w w' old new merged → AreOwn old own → AreOwn new own

-- and so does one that stopped
abbrev pub HaltsStay : Type 0
HaltsStay = (w w' : World) (old new : Option Files) (before after : ℕ) (fault : StoreFault) (own : List OwnFile)
    → IsHalted w w' old new before after fault → AreOwn old own → AreOwn new own
