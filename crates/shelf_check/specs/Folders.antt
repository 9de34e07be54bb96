-- The folders whose files hold one block each.
use Rattle.std.specs.Prelude.{ℕ, ◌≡◌, List, [], ◌∷◌, ◌++◌, length, map, reverse, codes, Option, Some, ⊤, Result, Ok, Err}
use Rattle.block_record.specs.declared.blocks.Block.{Block}
use Rattle.outer_world.specs.Files.{Files}
use Rattle.file_reader.specs.Reading.{HasText}
use Rattle.outer_world.specs.Shelves.{AreNamesOf}
use Rattle.one_block.specs.declared.file_faults.FileFault.{FileFault}
use Rattle.shelf_check.specs.declared.faults.LoadFault.{LoadFault}
use Rattle.shelf_check.specs.declared.folders.FolderRead.{FolderRead}
use Rattle.one_block.specs.declared.forms.Folder.{Folder}
use Rattle.one_block.specs.declared.forms.Folder.TheVariants.{One, Forked}
use Rattle.one_block.specs.declared.forms.Form.{Form}
use Rattle.one_block.specs.Forms.{form_of}
use Rattle.shelf_check.specs.Refusals.{Refused}
use Rattle.one_block.specs.Singles.{IsSingleOf}
use Rattle.shelf_check.specs.Singles.{SingleAnswers}

-- the name of a folder
abbrev pub folder_text : Folder → List ℕ
folder_text One = codes "one"
folder_text Forked = codes "forked"

-- a file of one block: its whole name and its text, and the type and the block that it holds
pub record Single : Type 0 where
  pub name : List ℕ
  pub text : List ℕ
  pub block_type : List ℕ
  pub block : Block

-- a file of the folder has its form, after files of this type
pub record IsSingle (folder : Folder) (files : Option Files) (kept : Option (List ℕ)) (x : Single) : Type 0 where
  pub form : Form
  pub formed : form_of folder x.name ≡ Some form
  pub there : HasText files x.name x.text
  pub single : IsSingleOf form x.name x.text kept x.block_type x.block

-- the type that is kept after these files, the newest first, which follow files of that type
abbrev pub kept_after : Option (List ℕ) → List Single → Option (List ℕ)
kept_after kept [] = kept
kept_after kept (x ∷ older) = Some x.block_type

-- files of the folder, the last one first, have their form, each after those before it
abbrev pub AreSingles : Folder → Option Files → Option (List ℕ) → List Single → Type 0
AreSingles folder files kept [] = ⊤
AreSingles folder files kept (x ∷ older) = IsSingle folder files (kept_after kept older) x × AreSingles folder files kept older

-- the names of files, in the order in which they are read, where the last one stands first
abbrev pub names_of : List Single → List (List ℕ)
names_of singles = map (λ x. x.name) (reverse singles)

-- these are all the files of the folder, the last one first, and they have their form
pub record IsFolder (folder : Folder) (files : Option Files) (kept : Option (List ℕ)) (singles : List Single) : Type 0 where
  pub listed : AreNamesOf files (folder_text folder) (names_of singles)
  pub good : AreSingles folder files kept singles

-- the file of this name is refused for this, after files of this type
pub record IsBadFile (folder : Folder) (files : Option Files) (kept : Option (List ℕ)) (name : List ℕ) (fault : FileFault) : Type 0 where
  pub text : List ℕ
  pub there : HasText files name text
  pub refused : SingleAnswers folder name text kept (Err fault)

-- of these names the first ones are of files that have their form, and the next one is of a file that is refused
pub record IsFirstOf (folder : Folder) (files : Option Files) (kept : Option (List ℕ)) (names : List (List ℕ)) (name : List ℕ) (fault : FileFault) : Type 0 where
  pub singles : List Single
  pub more : List (List ℕ)
  pub names_are : names ≡ names_of singles ++ name ∷ more
  pub good : AreSingles folder files kept singles
  pub bad : IsBadFile folder files (kept_after kept singles) name fault

-- the first fault of the folder, by the order of its names
pub record IsFirstIn (folder : Folder) (files : Option Files) (kept : Option (List ℕ)) (name : List ℕ) (fault : FileFault) : Type 0 where
  pub names : List (List ℕ)
  pub listed : AreNamesOf files (folder_text folder) names
  pub first : IsFirstOf folder files kept names name fault

-- a file of the folder was read, and has this type
pub record IsFileRead (folder : Folder) (files : Option Files) (kept : Option (List ℕ)) (name block_type : List ℕ) : Type 0 where
  pub x : Single
  pub name_is : x.name ≡ name
  pub type_is : x.block_type ≡ block_type
  pub good : IsSingle folder files kept x

-- the refusal of the file of this name
pub record IsRefusedFile (folder : Folder) (files : Option Files) (kept : Option (List ℕ)) (name told : List ℕ) (fault : FileFault) : Type 0 where
  pub told_is : told ≡ name
  pub bad : IsBadFile folder files kept name fault

-- what is answered to the file of this name
abbrev pub FileAnswers : Folder → Option Files → Option (List ℕ) → List ℕ → ℕ → ℕ → Result (List ℕ) LoadFault → Type 0
FileAnswers folder files kept name before now (Ok block_type) = IsFileRead folder files kept name block_type
FileAnswers folder files kept name before now (Err fault) = Refused (λ told f. IsRefusedFile folder files kept name told f) before now fault

-- the files of these names were read
pub record AreRead (folder : Folder) (files : Option Files) (kept : Option (List ℕ)) (names : List (List ℕ)) (last : Option (List ℕ)) : Type 0 where
  pub singles : List Single
  pub names_are : names ≡ names_of singles
  pub good : AreSingles folder files kept singles
  pub last_is : last ≡ kept_after kept singles

-- what is answered to the files of these names
abbrev pub NamesAnswer : Folder → Option Files → Option (List ℕ) → List (List ℕ) → ℕ → ℕ → Result (Option (List ℕ)) LoadFault → Type 0
NamesAnswer folder files kept names before now (Ok last) = AreRead folder files kept names last
NamesAnswer folder files kept names before now (Err fault) = Refused (λ name f. IsFirstOf folder files kept names name f) before now fault

-- what was read of the folder
pub record IsFolderRead (folder : Folder) (files : Option Files) (kept : Option (List ℕ)) (read : FolderRead) : Type 0 where
  pub singles : List Single
  pub whole : IsFolder folder files kept singles
  pub kept_is : read.kept ≡ kept_after kept singles
  pub count : read.files ≡ length singles

-- what is answered to a folder
abbrev pub FolderAnswers : Folder → Option Files → Option (List ℕ) → ℕ → ℕ → Result FolderRead LoadFault → Type 0
FolderAnswers folder files kept before now (Ok read) = IsFolderRead folder files kept read
FolderAnswers folder files kept before now (Err fault) = Refused (λ name f. IsFirstIn folder files kept name f) before now fault
