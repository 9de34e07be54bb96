-- What a file's text says as a container, and what a message in it says as a record.
use Rattle.std.specs.Prelude.{ℕ, ◌≡◌, ◌+◌, List, [], length, Option, Some, ⊤, Result, Ok, Err}
use Rattle.std.specs.Option.{option_map, unwrap_or}
use Rattle.block_record.specs.declared.blocks.Block.{Block}
use Rattle.block_record.specs.declared.faults.RecordFault.{RecordFault}
use Rattle.block_record.specs.declared.faults.RecordFault.TheVariants.{BadRecord, Mem}
use Rattle.block_record.specs.Records.{record_fault, IsRecordable, IsRecordText}
use Rattle.dbin_file.specs.declared.faults.DbinFault.{DbinFault}
use Rattle.dbin_file.specs.declared.faults.DbinFault.TheVariants as fault
use Rattle.dbin_file.specs.Contents.{contents, told}
use Rattle.dbin_file.specs.Reader.{state_after, end_fault}
use Rattle.one_block.specs.declared.containers.FileContents.{FileContents}

-- the place of a container's fault
abbrev pub fault_place : DbinFault → ℕ
fault_place (fault.NotDbin at) = at
fault_place (fault.BadVersion byte) = 4
fault_place (fault.MessageTooLong at size) = at
fault_place (fault.Truncated at) = at
fault_place fault.Mem = 0

-- why a text is no whole container, if it is none
abbrev pub container_fault : List ℕ → Option DbinFault
container_fault text = end_fault (state_after text)

-- where the first message of a container stands: after the header of 7 bytes and the type, and the 4 bytes of its length
abbrev pub record_place : List ℕ → ℕ
record_place text = 11 + length (unwrap_or (contents text).block_type [])

-- where a file without a message is bad: at the container's fault, or else at its end
abbrev pub empty_place : List ℕ → ℕ
empty_place text = unwrap_or (option_map fault_place (container_fault text)) (told (length text))

-- what a text says as a container
pub record HasContents (text : List ℕ) (file : FileContents) : Type 0 where
  pub block_type : file.block_type ≡ (contents text).block_type
  pub messages : file.messages.items ≡ (contents text).messages
  pub fault : file.fault ≡ container_fault text

-- a message is a record of this block, in one of the two forms, and of no other block
pub record IsRecordOf (message : List ℕ) (b : Block) : Type 0 where
  pub text : IsRecordText message b
  pub recordable : IsRecordable b
  pub only : (other : Block) → IsRecordable other → IsRecordText message other → other ≡ b

-- a message is no block's record: this is the place of its first bad field
pub record IsBadField (message : List ℕ) (byte : ℕ) : Type 0 where
  pub none : (b : Block) → IsRecordable b → IsRecordText message b → ⊥
  pub fault : record_fault message ≡ Some byte

-- a message that stands at this place is no block's record: its first bad field is there
pub record IsNoRecord (place : ℕ) (message : List ℕ) (at : ℕ) : Type 0 where
  pub none : (b : Block) → IsRecordable b → IsRecordText message b → ⊥
  pub byte : ℕ
  pub fault : record_fault message ≡ Some byte
  pub at_is : at ≡ told (place + byte)

-- why a record was not read
abbrev pub ReadRefused : List ℕ → RecordFault → Type 0
ReadRefused message (BadRecord at) = IsBadField message at
ReadRefused message Mem = ⊤

-- a record was read, or refused at its first bad field
abbrev pub IsRead : List ℕ → Result Block RecordFault → Type 0
IsRead message (Ok b) = IsRecordOf message b
IsRead message (Err e) = ReadRefused message e
