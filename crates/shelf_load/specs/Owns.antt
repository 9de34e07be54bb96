-- What the files of `one/` hold.
use Rattle.std.specs.Prelude.{ℕ, ◌≡◌, ⊤, List, Option, None, Some, Result, Ok, Err}
use Rattle.block_record.specs.declared.blocks.Block.{Block}
use Rattle.block_record.specs.declared.blocks.Slip.{Slip}
use Rattle.block_record.specs.Slips.{slip}
use Rattle.outer_world.specs.Files.{Files}
use Rattle.outer_world.specs.Causes.{Rose}
use Rattle.file_reader.specs.Reading.{HasText}
use Rattle.one_block.specs.declared.faults.StoreFault.{StoreFault}
use Rattle.one_block.specs.declared.faults.StoreFault.TheVariants.{ShelfFault, ShelfBad, Missing, StoredOther, NameClash, Mem}
use Rattle.one_block.specs.declared.file_faults.FileFault.{FileFault}
use Rattle.one_block.specs.declared.file_faults.FileFault.TheVariants as file
use Rattle.one_block.specs.declared.forms.Folder.TheVariants.{One}
use Rattle.one_block.specs.declared.forms.Form.{Form}
use Rattle.one_block.specs.Forms.{form_of}
use Rattle.one_block.specs.Singles.{IsSingleOf, FormedRefused}

-- a text holds the block of this slip and nothing else, under this name of `one/`
pub record IsOwn (name text : List ℕ) (s : Slip) : Type 0 where
  pub form : Form
  pub formed : form_of One name ≡ Some form
  pub block_type : List ℕ
  pub block : Block
  pub is_of : IsSingleOf form name text None block_type block
  pub slip_is : s ≡ slip block

-- why a text is refused, by the form of the name
abbrev pub OwnRefused : Option Form → List ℕ → List ℕ → FileFault → Type 0
OwnRefused None name text (file.Bad at) = at ≡ 0
OwnRefused None name text (file.OtherType held offered) = ⊥
OwnRefused None name text file.Mem = ⊤
OwnRefused (Some form) name text fault = FormedRefused form name text None fault

-- what is answered to the text of a file of this name
abbrev pub OwnAnswers : List ℕ → List ℕ → Result Slip FileFault → Type 0
OwnAnswers name text (Ok s) = IsOwn name text s
OwnAnswers name text (Err fault) = OwnRefused (form_of One name) name text fault

-- the file of this name holds the block of this slip
pub record HoldsOwn (files : Option Files) (name : List ℕ) (s : Slip) : Type 0 where
  pub text : List ℕ
  pub there : HasText files name text
  pub own : IsOwn name text s

-- the file of this name is bad first at this place
pub record IsBadOwn (files : Option Files) (name : List ℕ) (at : ℕ) : Type 0 where
  pub text : List ℕ
  pub there : HasText files name text
  pub bad : OwnRefused (form_of One name) name text (file.Bad at)

-- why a file was not read
abbrev pub ReadRefused : Option Files → List ℕ → ℕ → ℕ → StoreFault → Type 0
ReadRefused files name before now ShelfFault = Rose before now
ReadRefused files name before now (ShelfBad bad at) = (bad ≡ name) × IsBadOwn files name at
ReadRefused files name before now (Missing missing) = ⊥
ReadRefused files name before now (StoredOther kept read) = ⊥
ReadRefused files name before now (NameClash held offered) = ⊥
ReadRefused files name before now Mem = ⊤

-- what is answered to a file of this name
abbrev pub ReadAnswers : Option Files → List ℕ → ℕ → ℕ → Result Slip StoreFault → Type 0
ReadAnswers files name before now (Ok s) = HoldsOwn files name s
ReadAnswers files name before now (Err fault) = ReadRefused files name before now fault

-- the refusal of a file that was refused so: it names the file, or there was no memory
abbrev pub IsNamedAs : List ℕ → FileFault → StoreFault → Type 0
IsNamedAs name fault ShelfFault = ⊥
IsNamedAs name fault (ShelfBad bad at) = (bad ≡ name) × (fault ≡ file.Bad at)
IsNamedAs name fault (Missing missing) = ⊥
IsNamedAs name fault (StoredOther kept read) = ⊥
IsNamedAs name fault (NameClash held offered) = ⊥
IsNamedAs name fault Mem = ⊤
