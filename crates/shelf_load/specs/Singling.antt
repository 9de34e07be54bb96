-- The steps by which the files of `forked/` and `one/` are listed and one is loaded, and the first of them that is bad.
use Rattle.std.specs.Prelude.{ℕ, ◌≡◌, ◌==◌, ◌++◌, ◌⊎◌, IsTrue, List, [], ◌∷◌, map, take, codes, if◌then◌else◌, Option, None, Some, ⊤, Result, Ok, Err, option_and_then, IsPermutation, IsSorted}
use Rattle.std.specs.List.{All, position}
use Rattle.std.specs.Global.{Vec}
use Rattle.block_record.specs.declared.blocks.Block.{Block}
use Rattle.outer_world.specs.Files.{Files, is_in}
use Rattle.outer_world.specs.Shelves.{AreNamesOf}
use Rattle.file_reader.specs.Reading.{HasText}
use Rattle.one_block.specs.Files.{bare_text}
use Rattle.one_block.specs.Forms.{form_of}
use Rattle.one_block.specs.Numerals.{filled_number}
use Rattle.one_block.specs.Singles.{IsSingleOf}
use Rattle.one_block.specs.declared.faults.StoreFault.TheVariants as store
use Rattle.one_block.specs.declared.file_faults.FileFault.{FileFault}
use Rattle.one_block.specs.declared.file_faults.FileFault.TheVariants.{Bad}
use Rattle.one_block.specs.declared.forms.Folder.{Folder}
use Rattle.one_block.specs.declared.forms.Folder.TheVariants.{One, Forked}
use Rattle.one_block.specs.declared.forms.Form.{Form}
use Rattle.relay_model.specs.Worlds.{World}
use Rattle.shelf_check.specs.Folders.{folder_text}
use Rattle.shelf_check.specs.Merged.{Entry, entry_order}
use Rattle.shelf_check.specs.Singles.{SingleAnswers}
use Rattle.shelf_check.specs.declared.faults.LoadFault.{LoadFault}
use Rattle.shelf_check.specs.declared.faults.LoadFault.TheVariants as fault
use Rattle.shelf_load.specs.Greeting.{IsGreeted, GreetRefused}
use Rattle.shelf_load.specs.Loading.{TakenFile, origin_of, IsSingleTaken, IsFirstBad, LoadRefused}
use Rattle.shelf_load.specs.Taking.{Stage, Taken, stage, IsTaken, TakeRefused}

-- the number that a name without folder and ending has before this place
abbrev pub number_before : List ℕ → ℕ → Option ℕ
number_before bare end = filled_number 10 (take end bare)

-- the number with which such a name begins: it ends at the first dash
abbrev pub number_begun : List ℕ → Option ℕ
number_begun bare = option_and_then (number_before bare) (position (λ byte. byte == 45) bare)

-- the same of a whole name
abbrev pub number_in : List ℕ → Option ℕ
number_in name = option_and_then number_begun (bare_text name)

-- the folder of a file of one block
abbrev pub folder_of : List ℕ → Folder
folder_of name = if is_in (codes "one") name then One else Forked

-- a name has this number
abbrev pub HasNumber : Entry → Type 0
HasNumber e = number_in e.1 ≡ Some e.0

-- each of these names has a number, and these are the numbers and names
pub record AreNumbered (names : List (List ℕ)) (entries : List Entry) : Type 0 where
  pub names_are : names ≡ map (λ e. e.1) entries
  pub numbers : All HasNumber entries

-- entries grew by those of these names
pub record IsGrown (names : List (List ℕ)) (old new : List Entry) : Type 0 where
  pub found : List Entry
  pub grown : new ≡ old ++ found
  pub numbered : AreNumbered names found

-- the first of these names that has no number
pub record IsUnnumbered (names : List (List ℕ)) (name : List ℕ) (at : ℕ) : Type 0 where
  pub found : List Entry
  pub more : List (List ℕ)
  pub names_are : names ≡ map (λ e. e.1) found ++ name ∷ more
  pub numbers : All HasNumber found
  pub none : number_in name ≡ None
  pub place : at ≡ 0

-- why names were not added
abbrev pub NamesRefused : List (List ℕ) → LoadFault → Type 0
NamesRefused names (fault.Store store.ShelfFault) = ⊥
NamesRefused names (fault.Store (store.ShelfBad name at)) = IsUnnumbered names name at
NamesRefused names (fault.Store (store.Missing name)) = ⊥
NamesRefused names (fault.Store (store.StoredOther kept read)) = ⊥
NamesRefused names (fault.Store (store.NameClash held other)) = ⊥
NamesRefused names (fault.Store store.Mem) = ⊤
NamesRefused names (fault.KindClash held other) = ⊥
NamesRefused names (fault.HistoryFull len need) = ⊥

-- what is answered to names that are added
abbrev pub NamesAnswer : List (List ℕ) → List Entry → List Entry → Result Unit LoadFault → Type 0
NamesAnswer names old new (Ok u) = IsGrown names old new
NamesAnswer names old new (Err refused) = NamesRefused names refused

-- entries grew by those of a folder
pub record HasFolder (folder : Folder) (files : Option Files) (old new : List Entry) : Type 0 where
  pub names : List (List ℕ)
  pub listed : AreNamesOf files (folder_text folder) names
  pub grown : IsGrown names old new

-- the first name of a folder that has no number, and so is that of no file of one block
pub record IsUnnumberedIn (folder : Folder) (files : Option Files) (name : List ℕ) (at : ℕ) : Type 0 where
  pub names : List (List ℕ)
  pub listed : AreNamesOf files (folder_text folder) names
  pub first : IsUnnumbered names name at
  pub no_form : form_of folder name ≡ None

-- what is answered to a folder whose names are added
abbrev pub FolderAnswers : Folder → Option Files → List Entry → List Entry → ℕ → ℕ → Result Unit LoadFault → Type 0
FolderAnswers folder files old new before now (Ok u) = HasFolder folder files old new
FolderAnswers folder files old new before now (Err refused) = (w : World) → LoadRefused (IsUnnumberedIn folder files) files w before now refused

-- a name has a number, and lies in its folder
pub record IsEntry (e : Entry) : Type 0 where
  pub number : HasNumber e
  pub inside : IsTrue (is_in (folder_text (folder_of e.1)) e.1)

-- these are the numbers and names of all files of `forked/` and `one/`, in their order
pub record AreListed (files : Option Files) (entries : List Entry) : Type 0 where
  pub forked : List (List ℕ)
  pub one : List (List ℕ)
  pub forked_listed : AreNamesOf files (codes "forked") forked
  pub one_listed : AreNamesOf files (codes "one") one
  pub found : List Entry
  pub names_are : forked ++ one ≡ map (λ e. e.1) found
  pub each : All IsEntry entries
  pub all : IsPermutation found entries
  pub in_order : IsSorted entry_order entries

-- each name of a folder has a number
pub record AreNumberedIn (folder : Folder) (files : Option Files) : Type 0 where
  pub names : List (List ℕ)
  pub listed : AreNamesOf files (folder_text folder) names
  pub found : List Entry
  pub numbered : AreNumbered names found

-- the first name of `forked/`, and then of `one/`, that has no number
abbrev pub IsUnlisted : Option Files → List ℕ → ℕ → Type 0
IsUnlisted files name at = IsUnnumberedIn Forked files name at ⊎ (AreNumberedIn Forked files × IsUnnumberedIn One files name at)

-- what is answered where both folders are listed
abbrev pub ListAnswers : Option Files → ℕ → ℕ → Result (Vec Entry) LoadFault → Type 0
ListAnswers files before now (Ok entries) = AreListed files entries.items
ListAnswers files before now (Err refused) = (w : World) → LoadRefused (IsUnlisted files) files w before now refused

-- a file's type was told, and its block was taken
pub record IsToldAndTaken (old new : Stage) (block_type : List ℕ) (t : Taken) : Type 0 where
  pub told : World
  pub greeted : IsGreeted old.world told block_type
  pub taken : IsTaken (stage told old.aside) new t

-- the type was told, and the block was refused
pub record IsToldAndRefused (old : Stage) (block_type : List ℕ) (t : Taken) (refused : LoadFault) : Type 0 where
  pub told : World
  pub greeted : IsGreeted old.world told block_type
  pub why : TakeRefused (stage told old.aside) t refused

-- what is answered where a type is told and then a block taken
abbrev pub ToldAnswers : Stage → Stage → List ℕ → Taken → Result Unit LoadFault → Type 0
ToldAnswers old new block_type t (Ok u) = IsToldAndTaken old new block_type t
ToldAnswers old new block_type t (Err refused) = GreetRefused old.world block_type refused ⊎ IsToldAndRefused old block_type t refused

-- a text is that of a file of one block in this folder, after files of this type
pub record IsReadIn (folder : Folder) (name text : List ℕ) (kept : Option (List ℕ)) (block_type : List ℕ) (block : Block) : Type 0 where
  pub form : Form
  pub formed : form_of folder name ≡ Some form
  pub single : IsSingleOf form name text kept block_type block

-- what is answered to a text
abbrev pub TextAnswers : Folder → List ℕ → List ℕ → Option (List ℕ) → Result (List ℕ × Block) FileFault → Type 0
TextAnswers folder name text kept (Ok read) = IsReadIn folder name text kept read.0 read.1
TextAnswers folder name text kept (Err refused) = SingleAnswers folder name text kept (Err refused)

-- a file of one block was read whole
pub record IsSingleRead (files : Option Files) (x : TakenFile) : Type 0 where
  pub origin_is : x.origin ≡ origin_of (folder_of x.name)
  pub there : HasText files x.name x.text
  pub block : Block
  pub blocks_are : x.blocks ≡ block ∷ []
  pub read : IsReadIn (folder_of x.name) x.name x.text None x.block_type block

-- the file of this name is bad first at this place
pub record IsBadSingle (files : Option Files) (name : List ℕ) (at : ℕ) : Type 0 where
  pub text : List ℕ
  pub there : HasText files name text
  pub answer : SingleAnswers (folder_of name) name text None (Err (Bad at))

-- of the files of `forked/` and `one/`, in their order, this is the first bad one
pub record IsFirstSingle (files : Option Files) (w : World) (older : List TakenFile) (name : List ℕ) (at : ℕ) : Type 0 where
  pub entries : List Entry
  pub listed : AreListed files entries
  pub first : IsFirstBad (IsSingleTaken files) (IsBadSingle files) entries w older name at

-- of the files of `forked/` and `one/` this is the first bad one, and it is bad first at this place: all names are read before a file is
abbrev pub IsBadSingleFile : Option Files → World → List TakenFile → List ℕ → ℕ → Type 0
IsBadSingleFile files w older name at = IsUnlisted files name at ⊎ IsFirstSingle files w older name at
