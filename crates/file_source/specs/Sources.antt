-- The files that may hold a block, and what is answered of them.
use Rattle.std.specs.Prelude.{ℕ, ◌≡◌, ◌≢◌, ◌-◌, ◌%◌, ◌⊎◌, List, [], ◌∷◌, ◌++◌, Option, None, Some, ⊤, Result, Ok, Err}
use Rattle.std.specs.List.{AllByRecursion}
use Rattle.block_record.specs.declared.blocks.Block.{Block}
use Rattle.block_record.specs.declared.blocks.Slip.{Slip}
use Rattle.block_record.specs.Slips.{slip}
use Rattle.outer_world.specs.Causes.{Rose}
use Rattle.outer_world.specs.Files.{Files}
use Rattle.outer_world.specs.Shelves.{Holds}
use Rattle.one_block.specs.Files.{forked_text, merged_text}
use Rattle.one_block.specs.declared.faults.StoreFault.{StoreFault}
use Rattle.one_block.specs.declared.faults.StoreFault.TheVariants.{ShelfFault, ShelfBad, Missing, StoredOther, NameClash, Mem}
use Rattle.file_source.specs.Texts.{IsFirstUnder, HasNoneUnder, IsBadBefore}

-- the file of merged blocks of a size in which a number falls
abbrev pub merged_of : ℕ → ℕ → List ℕ
merged_of size num = merged_text size (num - num % size)

-- the files in which a block may be, in the order in which they are read
abbrev pub files_of : Slip → List (List ℕ)
files_of s = forked_text s.num s.id ∷ merged_of 100 s.num ∷ merged_of 1000 s.num ∷ []

-- a file is there, and this block has the first record under the id
pub record HasUnder (files : Option Files) (id : List ℕ) (b : Block) (name : List ℕ) : Type 0 where
  pub text : List ℕ
  pub there : Holds files name (Some text)
  pub first : IsFirstUnder text id b

-- a file is there, whole, and without a record under the id
pub record HoldsOthers (files : Option Files) (id name : List ℕ) : Type 0 where
  pub text : List ℕ
  pub there : Holds files name (Some text)
  pub none : HasNoneUnder text id

-- a file is not there, or has no record under the id
abbrev pub LacksId : Option Files → List ℕ → List ℕ → Type 0
LacksId files id name = Holds files name None ⊎ HoldsOthers files id name

-- a file is there, and is bad here before any record under the id
pub record IsBadUnder (files : Option Files) (id : List ℕ) (at : ℕ) (name : List ℕ) : Type 0 where
  pub text : List ℕ
  pub there : Holds files name (Some text)
  pub bad : IsBadBefore text id at

-- of a block's files this is the first that does not lack its id, and this holds of it
pub record IsFirstFile (files : Option Files) (s : Slip) (name : List ℕ) (P : List ℕ → Type 0) : Type 0 where
  pub before : List (List ℕ)
  pub after : List (List ℕ)
  pub names : files_of s ≡ before ++ name ∷ after
  pub lack : AllByRecursion (LacksId files s.id) before
  pub found : P name

-- a block is found first
pub record IsFound (files : Option Files) (s : Slip) (b : Block) : Type 0 where
  pub name : List ℕ
  pub first : IsFirstFile files s name (HasUnder files s.id b)

-- the block that was asked for is found first
pub record IsFetched (files : Option Files) (s : Slip) (b : Block) : Type 0 where
  pub slip_is : slip b ≡ s
  pub found : IsFound files s b

-- another block is found first
pub record IsStoredOther (files : Option Files) (s kept read : Slip) : Type 0 where
  pub kept_is : kept ≡ s
  pub block : Block
  pub read_is : read ≡ slip block
  pub other : read ≢ s
  pub found : IsFound files s block

-- none of the files has a record under the id: the file of the number's hundred is named
pub record IsMissing (files : Option Files) (s : Slip) (name : List ℕ) : Type 0 where
  pub lack : AllByRecursion (LacksId files s.id) (files_of s)
  pub name_is : name ≡ merged_of 100 s.num

-- why a block was not fetched
abbrev pub FetchRefused : Option Files → Slip → ℕ → ℕ → StoreFault → Type 0
FetchRefused files s before now ShelfFault = Rose before now
FetchRefused files s before now (ShelfBad name at) = IsFirstFile files s name (IsBadUnder files s.id at)
FetchRefused files s before now (Missing name) = IsMissing files s name
FetchRefused files s before now (StoredOther kept read) = IsStoredOther files s kept read
FetchRefused files s before now (NameClash held offered) = ⊥
FetchRefused files s before now Mem = ⊤

-- what is answered to a block that is asked for
abbrev pub FetchAnswers : Option Files → Slip → ℕ → ℕ → Result Block StoreFault → Type 0
FetchAnswers files s before now (Ok b) = IsFetched files s b
FetchAnswers files s before now (Err fault) = FetchRefused files s before now fault

-- this is one of the files in which the block may be
pub record IsFileOf (s : Slip) (name : List ℕ) : Type 0 where
  pub before : List (List ℕ)
  pub after : List (List ℕ)
  pub names : files_of s ≡ before ++ name ∷ after

-- a refusal names one of those files, or none
abbrev pub IsNamed : Slip → StoreFault → Type 0
IsNamed s ShelfFault = ⊤
IsNamed s (ShelfBad name at) = IsFileOf s name
IsNamed s (Missing name) = IsFileOf s name
IsNamed s (StoredOther kept read) = ⊤
IsNamed s (NameClash held offered) = ⊤
IsNamed s Mem = ⊤
