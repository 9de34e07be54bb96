-- The steps by which a file of merged blocks is read.
use Rattle.std.specs.Prelude.{ℕ, ◌≡◌, ◌+◌, ◌<◌, ◌⊎◌, IsTrue, List, [], ◌∷◌, Option, None, Some, ⊤, Result, Ok, Err}
use Rattle.std.specs.Option.{is_some, option_map, unwrap_or}
use Rattle.block_record.specs.declared.blocks.Block.{Block}
use Rattle.block_record.specs.declared.blocks.BlockRef.{BlockRef}
use Rattle.dbin_file.specs.declared.faults.DbinFault.{DbinFault}
use Rattle.dbin_file.specs.Contents.{told}
use Rattle.dbin_file.specs.Reader.{end_fault}
use Rattle.file_reader.specs.Reading.{FileState, place_of}
use Rattle.one_block.specs.declared.file_faults.FileFault.{FileFault}
use Rattle.one_block.specs.declared.file_faults.FileFault.TheVariants.{Bad, OtherType, Mem}
use Rattle.one_block.specs.Containers.{fault_place, IsRecordOf, IsNoRecord}
use Rattle.shelf_check.specs.Bundles.{is_next, block_ref, IsNotNext}

-- a message is the record of a block that may come next
pub record IsNextRecord (size base : ℕ) (before : Option BlockRef) (message : List ℕ) (tip : BlockRef) : Type 0 where
  pub block : Block
  pub record_is : IsRecordOf message block
  pub next : IsTrue (is_next size base before block)
  pub tip_is : tip ≡ block_ref block

abbrev pub NextRefused : ℕ → ℕ → ℕ → Option BlockRef → List ℕ → FileFault → Type 0
NextRefused size base place before message (Bad at) = IsNoRecord place message at ⊎ IsNotNext size base before place message at
NextRefused size base place before message (OtherType held offered) = ⊥
NextRefused size base place before message Mem = ⊤

-- what is answered of a message at this place, after this block
abbrev pub NextAnswers : ℕ → ℕ → ℕ → Option BlockRef → List ℕ → Result BlockRef FileFault → Type 0
NextAnswers size base place before message (Ok tip) = IsNextRecord size base before message tip
NextAnswers size base place before message (Err fault) = NextRefused size base place before message fault

-- the place of the bytes of the message that stands next
abbrev pub next_record_place : FileState → ℕ
next_record_place r = told (place_of r + 4)

-- the first of these messages, if there is one, is answered so
abbrev pub FirstAnswers : ℕ → ℕ → ℕ → Option BlockRef → List (List ℕ) → Result (Option BlockRef) FileFault → Type 0
FirstAnswers size base place before [] result = result ≡ Ok None
FirstAnswers size base place before (message ∷ more) (Ok None) = ⊥
FirstAnswers size base place before (message ∷ more) (Ok (Some tip)) = IsNextRecord size base before message tip
FirstAnswers size base place before (message ∷ more) (Err fault) = NextRefused size base place before message fault

-- where a file of which no message is left ends too early: at its container's fault, or else at its end
abbrev pub end_of : FileState → ℕ
end_of r = unwrap_or (option_map fault_place (end_fault r.reader)) (told r.at)

-- the file is not whole: it has no block, or a fault
abbrev pub IsNotWhole : Option DbinFault → Option BlockRef → ℕ → Type 0
IsNotWhole fault last count = (last ≡ None) ⊎ ((count ≡ 0) ⊎ IsTrue (is_some fault))

abbrev pub LastRefused : FileState → Option BlockRef → ℕ → FileFault → Type 0
LastRefused r last count (Bad at) = (at ≡ end_of r) × IsNotWhole (end_fault r.reader) last count
LastRefused r last count (OtherType held offered) = ⊥
LastRefused r last count Mem = ⊥

-- the file is whole, and this is its last block
pub record IsLastOf (r : FileState) (last : Option BlockRef) (count : ℕ) (tip : BlockRef) : Type 0 where
  pub last_is : last ≡ Some tip
  pub some : 0 < count
  pub fine : end_fault r.reader ≡ None

-- what is answered at the end of a file, after so many blocks of which this is the last
abbrev pub LastAnswers : FileState → Option BlockRef → ℕ → Result BlockRef FileFault → Type 0
LastAnswers r last count (Ok tip) = IsLastOf r last count tip
LastAnswers r last count (Err fault) = LastRefused r last count fault
