-- Files of one block each.
use Rattle.std.specs.Prelude.{ℕ, ◌≡◌, ◌≢◌, ◌+◌, ◌||◌, ◌⊎◌, nat_lt, IsTrue, List, [], ◌∷◌, length, Option, ⊤, Result, Ok, Err}
use Rattle.std.specs.Option.{is_some}
use Rattle.block_record.specs.declared.blocks.Block.{Block}
use Rattle.block_record.specs.Slips.{slip}
use Rattle.dbin_file.specs.Contents.{contents, told}
use Rattle.one_block.specs.Containers.{container_fault, empty_place, record_place, IsRecordOf, IsNoRecord}
use Rattle.one_block.specs.declared.file_faults.FileFault.{FileFault}
use Rattle.one_block.specs.declared.file_faults.FileFault.TheVariants.{Bad, OtherType, Mem}
use Rattle.one_block.specs.declared.forms.Form.{Form}
use Rattle.one_block.specs.declared.singles.SingleRead.{SingleRead}
use Rattle.one_block.specs.Heads.{HoldsBlocks, HasHead, IsKept, IsBadHead, HasOtherType}
use Rattle.one_block.specs.Forms.{own_name}

-- a file whose name is of this form holds this block and nothing else, under the block's own name
pub record IsSingleOf (form : Form) (name text : List ℕ) (kept : Option (List ℕ)) (block_type : List ℕ) (block : Block) : Type 0 where
  pub holds : HoldsBlocks text block_type (block ∷ [])
  pub same : IsKept kept block_type
  pub named : name ≡ own_name form (slip block)

-- the first message is the record of a block of another name
pub record IsMisnamed (form : Form) (name message : List ℕ) (at : ℕ) : Type 0 where
  pub block : Block
  pub record_is : IsRecordOf message block
  pub other : name ≢ own_name form (slip block)
  pub place : at ≡ 0

-- the first message is the record of a block of this name, and something follows it: the place is that of the second message's length
pub record GoesOn (form : Form) (name text message : List ℕ) (more : List (List ℕ)) (at : ℕ) : Type 0 where
  pub block : Block
  pub record_is : IsRecordOf message block
  pub named : name ≡ own_name form (slip block)
  pub follows : IsTrue (nat_lt 0 (length more) || is_some (container_fault text))
  pub place : at ≡ told (record_place text + length message)

-- what follows the header is bad first at this place
abbrev pub IsBadAfterHead : Form → List ℕ → List ℕ → List (List ℕ) → ℕ → Type 0
IsBadAfterHead form name text [] at = at ≡ empty_place text
IsBadAfterHead form name text (m ∷ more) at = IsNoRecord (record_place text) m at ⊎ (IsMisnamed form name m at ⊎ GoesOn form name text m more at)

-- the header was read, and what follows it is bad first at this place
pub record IsBadSingle (form : Form) (name text : List ℕ) (kept : Option (List ℕ)) (at : ℕ) : Type 0 where
  pub block_type : List ℕ
  pub head : HasHead text kept block_type
  pub body : IsBadAfterHead form name text (contents text).messages at

-- why a file whose name is of this form is refused: its first fault, or another type
abbrev pub FormedRefused : Form → List ℕ → List ℕ → Option (List ℕ) → FileFault → Type 0
FormedRefused form name text kept (Bad at) = IsBadHead text at ⊎ IsBadSingle form name text kept at
FormedRefused form name text kept (OtherType held offered) = HasOtherType text kept held offered
FormedRefused form name text kept Mem = ⊤

-- a file was read: its type, and the slip of its block
pub record IsSingleRead (form : Form) (name text : List ℕ) (kept : Option (List ℕ)) (read : SingleRead) : Type 0 where
  pub block : Block
  pub single : IsSingleOf form name text kept read.block_type block
  pub slip_is : read.slip ≡ slip block

-- what is answered to a file whose name is of this form, after files of this type
abbrev pub FormedAnswers : Form → List ℕ → List ℕ → Option (List ℕ) → Result SingleRead FileFault → Type 0
FormedAnswers form name text kept (Ok read) = IsSingleRead form name text kept read
FormedAnswers form name text kept (Err fault) = FormedRefused form name text kept fault

-- the same with the block itself
abbrev pub BlockAnswers : Form → List ℕ → List ℕ → Option (List ℕ) → Result (List ℕ × Block) FileFault → Type 0
BlockAnswers form name text kept (Ok read) = IsSingleOf form name text kept read.0 read.1
BlockAnswers form name text kept (Err fault) = FormedRefused form name text kept fault
