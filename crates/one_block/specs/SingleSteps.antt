-- The steps by which a file is read.
use Rattle.std.specs.Prelude.{ℕ, ◌≡◌, ◌+◌, ◌⊎◌, Bool, true, false, List, length, Option, None, Some, ⊤, Result, Ok, Err}
use Rattle.block_record.specs.declared.blocks.Block.{Block}
use Rattle.block_record.specs.Slips.{slip}
use Rattle.dbin_file.specs.Contents.{told}
use Rattle.one_block.specs.declared.file_faults.FileFault.{FileFault}
use Rattle.one_block.specs.declared.file_faults.FileFault.TheVariants.{Bad, OtherType, Mem}
use Rattle.one_block.specs.declared.forms.Form.{Form}
use Rattle.one_block.specs.Containers.{IsRecordOf, IsNoRecord}
use Rattle.one_block.specs.Heads.{IsKept}
use Rattle.one_block.specs.Forms.{own_name}
use Rattle.one_block.specs.Singles.{IsMisnamed}

-- a type that was found is another than the one that is kept
pub record IsOtherThan (found kept : Option (List ℕ)) (held offered : List ℕ) : Type 0 where
  pub found_is : found ≡ Some offered
  pub kept_is : kept ≡ Some held
  pub other : held ≡ offered → ⊥

abbrev pub HeadRefused : Option (List ℕ) → Option (List ℕ) → ℕ → FileFault → Type 0
HeadRefused found kept end (Bad at) = (found ≡ None) × (at ≡ end)
HeadRefused found kept end (OtherType held offered) = IsOtherThan found kept held offered
HeadRefused found kept end Mem = ⊤

-- the type that was found is the one that is kept, if one is
abbrev pub HeadAnswers : Option (List ℕ) → Option (List ℕ) → ℕ → Result (List ℕ) FileFault → Type 0
HeadAnswers found kept end (Ok block_type) = (found ≡ Some block_type) × IsKept kept block_type
HeadAnswers found kept end (Err fault) = HeadRefused found kept end fault

abbrev pub DecodeRefused : List ℕ → ℕ → FileFault → Type 0
DecodeRefused bytes place (Bad at) = IsNoRecord place bytes at
DecodeRefused bytes place (OtherType held offered) = ⊥
DecodeRefused bytes place Mem = ⊤

-- a record at this place was decoded, or refused at its first bad field
abbrev pub Decodes : List ℕ → ℕ → Result Block FileFault → Type 0
Decodes bytes place (Ok b) = IsRecordOf bytes b
Decodes bytes place (Err fault) = DecodeRefused bytes place fault

-- the only record of a file holds this block, which has this name
pub record IsOnly (form : Form) (name bytes : List ℕ) (goes_on : Bool) (block : Block) : Type 0 where
  pub record_is : IsRecordOf bytes block
  pub named : name ≡ own_name form (slip block)
  pub ends : goes_on ≡ false

-- the record is of a block of this name, and something follows it
pub record IsFollowed (form : Form) (name bytes : List ℕ) (place : ℕ) (goes_on : Bool) (at : ℕ) : Type 0 where
  pub block : Block
  pub record_is : IsRecordOf bytes block
  pub named : name ≡ own_name form (slip block)
  pub follows : goes_on ≡ true
  pub at_is : at ≡ told (place + length bytes)

abbrev pub OnlyRefused : Form → List ℕ → List ℕ → ℕ → Bool → FileFault → Type 0
OnlyRefused form name bytes place goes_on (Bad at) = IsNoRecord place bytes at ⊎ (IsMisnamed form name bytes at ⊎ IsFollowed form name bytes place goes_on at)
OnlyRefused form name bytes place goes_on (OtherType held offered) = ⊥
OnlyRefused form name bytes place goes_on Mem = ⊤

-- what is answered of a record at this place, after which something follows or not
abbrev pub OnlyAnswers : Form → List ℕ → List ℕ → ℕ → Bool → Result Block FileFault → Type 0
OnlyAnswers form name bytes place goes_on (Ok block) = IsOnly form name bytes goes_on block
OnlyAnswers form name bytes place goes_on (Err fault) = OnlyRefused form name bytes place goes_on fault
