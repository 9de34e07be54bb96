-- The steps by which a file is searched.
use Rattle.std.specs.Prelude.{ℕ, ◌≡◌, ◌≢◌, ◌+◌, ◌⊎◌, List, ◌∷◌, ◌++◌, Option, None, Some, ⊤, Result, Ok, Err}
use Rattle.block_record.specs.declared.blocks.Block.{Block}
use Rattle.block_record.specs.declared.blocks.Slip.{Slip}
use Rattle.block_record.specs.Slips.{slip}
use Rattle.dbin_file.specs.declared.faults.DbinFault.{DbinFault}
use Rattle.dbin_file.specs.Contents.{contents, message_place}
use Rattle.outer_world.specs.Causes.{Rose}
use Rattle.outer_world.specs.Files.{Files}
use Rattle.file_reader.specs.Reading.{FileState, HasText, HasRead}
use Rattle.one_block.specs.Containers.{container_fault, fault_place, IsRecordOf, IsNoRecord}
use Rattle.one_block.specs.declared.faults.StoreFault.{StoreFault}
use Rattle.one_block.specs.declared.faults.StoreFault.TheVariants.{ShelfFault, ShelfBad, Missing, StoredOther, NameClash, Mem}
use Rattle.file_source.specs.Sources.{HasUnder, HoldsOthers, LacksId, IsBadUnder, IsFetched, FetchRefused}

-- a call of a shelf that failed raised its count
abbrev pub IsCausedBy : ℕ → ℕ → StoreFault → Type 0
IsCausedBy before now ShelfFault = Rose before now
IsCausedBy before now (ShelfBad name at) = ⊤
IsCausedBy before now (Missing name) = ⊥
IsCausedBy before now (StoredOther kept read) = ⊥
IsCausedBy before now (NameClash held offered) = ⊥
IsCausedBy before now Mem = ⊤

-- only a failed call of the shelf or want of memory is told
abbrev pub IsReadCause : ℕ → ℕ → StoreFault → Type 0
IsReadCause before now ShelfFault = Rose before now
IsReadCause before now (ShelfBad name at) = ⊥
IsReadCause before now (Missing name) = ⊥
IsReadCause before now (StoredOther kept read) = ⊥
IsReadCause before now (NameClash held offered) = ⊥
IsReadCause before now Mem = ⊤

-- the message that stands next, after those that were passed over, is the record of this block
pub record StandsNext (files : Option Files) (r : FileState) (given : List (List ℕ)) (b : Block) : Type 0 where
  pub front : List ℕ
  pub message : List ℕ
  pub more : List (List ℕ)
  pub read : HasRead files r front given
  pub left_is : r.left ≡ message ∷ more
  pub record_is : IsRecordOf message b

-- these are all the messages of the file, which is whole
pub record IsWhole (files : Option Files) (name : List ℕ) (given : List (List ℕ)) : Type 0 where
  pub text : List ℕ
  pub there : HasText files name text
  pub messages : (contents text).messages ≡ given
  pub whole : container_fault text ≡ None

-- the message that stands in the file after these is no record
pub record NextIsBad (files : Option Files) (name : List ℕ) (given : List (List ℕ)) (at : ℕ) : Type 0 where
  pub text : List ℕ
  pub there : HasText files name text
  pub block_type : List ℕ
  pub typed : (contents text).block_type ≡ Some block_type
  pub message : List ℕ
  pub more : List (List ℕ)
  pub messages : (contents text).messages ≡ given ++ message ∷ more
  pub bad : IsNoRecord (message_place block_type given + 4) message at

-- after these messages the container of the file is bad
pub record EndIsBad (files : Option Files) (name : List ℕ) (given : List (List ℕ)) (at : ℕ) : Type 0 where
  pub text : List ℕ
  pub there : HasText files name text
  pub messages : (contents text).messages ≡ given
  pub fault : DbinFault
  pub fault_is : container_fault text ≡ Some fault
  pub at_is : at ≡ fault_place fault

-- why no next block was read
abbrev pub NextRefused : Option Files → List ℕ → List (List ℕ) → StoreFault → Type 0
NextRefused files name given ShelfFault = ⊤
NextRefused files name given (ShelfBad bad at) = (bad ≡ name) × (NextIsBad files name given at ⊎ EndIsBad files name given at)
NextRefused files name given (Missing missing) = ⊥
NextRefused files name given (StoredOther kept read) = ⊥
NextRefused files name given (NameClash held offered) = ⊥
NextRefused files name given Mem = ⊤

-- the next block of a file after these messages, or none at its end
abbrev pub NextAnswers : Option Files → FileState → List (List ℕ) → Result (Option Block) StoreFault → Type 0
NextAnswers files r given (Ok None) = IsWhole files r.name given
NextAnswers files r given (Ok (Some b)) = StandsNext files r given b
NextAnswers files r given (Err fault) = NextRefused files r.name given fault

-- why the search of a file that is there was refused
abbrev pub SearchRefused : Option Files → List ℕ → List ℕ → ℕ → ℕ → StoreFault → Type 0
SearchRefused files name id before now ShelfFault = Rose before now
SearchRefused files name id before now (ShelfBad bad at) = (bad ≡ name) × IsBadUnder files id at name
SearchRefused files name id before now (Missing missing) = ⊥
SearchRefused files name id before now (StoredOther kept read) = ⊥
SearchRefused files name id before now (NameClash held offered) = ⊥
SearchRefused files name id before now Mem = ⊤

-- what is found under an id in a file that is there
abbrev pub SearchAnswers : Option Files → List ℕ → List ℕ → ℕ → ℕ → Result (Option Block) StoreFault → Type 0
SearchAnswers files name id before now (Ok None) = HoldsOthers files id name
SearchAnswers files name id before now (Ok (Some b)) = HasUnder files id b name
SearchAnswers files name id before now (Err fault) = SearchRefused files name id before now fault

-- the first block under the id is another than the one that was asked for
pub record IsOtherUnder (files : Option Files) (s : Slip) (name : List ℕ) (kept read : Slip) : Type 0 where
  pub kept_is : kept ≡ s
  pub block : Block
  pub read_is : read ≡ slip block
  pub other : read ≢ s
  pub under : HasUnder files s.id block name

-- the first block under the id is the one that was asked for
pub record IsUnder (files : Option Files) (s : Slip) (name : List ℕ) (b : Block) : Type 0 where
  pub slip_is : slip b ≡ s
  pub under : HasUnder files s.id b name

-- why a file did not give the block
abbrev pub FindRefused : Option Files → Slip → List ℕ → ℕ → ℕ → StoreFault → Type 0
FindRefused files s name before now ShelfFault = Rose before now
FindRefused files s name before now (ShelfBad bad at) = (bad ≡ name) × IsBadUnder files s.id at name
FindRefused files s name before now (Missing missing) = ⊥
FindRefused files s name before now (StoredOther kept read) = IsOtherUnder files s name kept read
FindRefused files s name before now (NameClash held offered) = ⊥
FindRefused files s name before now Mem = ⊤

-- what one of the block's files gives: the block, and the reader that stands after it
abbrev pub FindAnswers : {R : Type 0} → Option Files → Slip → List ℕ → ℕ → ℕ → Result (Option (Block × R)) StoreFault → Type 0
FindAnswers files s name before now (Ok None) = LacksId files s.id name
FindAnswers files s name before now (Ok (Some found)) = IsUnder files s name found.0
FindAnswers files s name before now (Err fault) = FindRefused files s name before now fault

-- what all of them give
abbrev pub AllAnswers : {R : Type 0} → Option Files → Slip → ℕ → ℕ → Result (Block × R) StoreFault → Type 0
AllAnswers files s before now (Ok found) = IsFetched files s found.0
AllAnswers files s before now (Err fault) = FetchRefused files s before now fault

-- the file of this name is bad at this place, or there was no memory to tell it
abbrev pub IsBadAt : List ℕ → ℕ → StoreFault → Type 0
IsBadAt name at ShelfFault = ⊥
IsBadAt name at (ShelfBad bad place) = (bad ≡ name) × (place ≡ at)
IsBadAt name at (Missing missing) = ⊥
IsBadAt name at (StoredOther kept read) = ⊥
IsBadAt name at (NameClash held offered) = ⊥
IsBadAt name at Mem = ⊤

-- a block is the one that was asked for, or its slip is told as another
abbrev pub JudgeRefused : Slip → Block → StoreFault → Type 0
JudgeRefused s b ShelfFault = ⊥
JudgeRefused s b (ShelfBad name at) = ⊥
JudgeRefused s b (Missing name) = ⊥
JudgeRefused s b (StoredOther kept read) = (kept ≡ s) × ((read ≡ slip b) × (read ≢ s))
JudgeRefused s b (NameClash held offered) = ⊥
JudgeRefused s b Mem = ⊤

abbrev pub Judges : Slip → Block → Result Block StoreFault → Type 0
Judges s b (Ok same) = (same ≡ b) × (slip b ≡ s)
Judges s b (Err fault) = JudgeRefused s b fault
