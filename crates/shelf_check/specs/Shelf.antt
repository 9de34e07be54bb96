-- The whole shelf: what is answered to it.
use Rattle.std.specs.Prelude.{ℕ, ◌≡◌, ◌⊎◌, List, ◌∷◌, ◌++◌, length, Option, None, Some, ⊤, Result, Ok, Err}
use Rattle.dbin_file.specs.Contents.{told}
use Rattle.outer_world.specs.Files.{Files}
use Rattle.outer_world.specs.Shelves.{AreNamesOf}
use Rattle.one_block.specs.Files.{base_in}
use Rattle.one_block.specs.declared.faults.StoreFault.{StoreFault}
use Rattle.one_block.specs.declared.faults.StoreFault.TheVariants.{ShelfFault, ShelfBad, Missing, StoredOther, NameClash, Mem}
use Rattle.one_block.specs.Layout.{HasLayout, layout_file}
use Rattle.one_block.specs.declared.file_faults.FileFault.TheVariants.{Bad}
use Rattle.shelf_check.specs.declared.check.Report.{Report}
use Rattle.one_block.specs.declared.file_faults.FileFault.{FileFault}
use Rattle.shelf_check.specs.declared.faults.LoadFault.{LoadFault}
use Rattle.shelf_check.specs.declared.faults.LoadFault.TheVariants.{Store, KindClash, HistoryFull}
use Rattle.one_block.specs.declared.forms.Folder.TheVariants.{One, Forked}
use Rattle.shelf_check.specs.Folders.{Single, IsFolder, kept_after}
use Rattle.shelf_check.specs.Folders.{IsFirstIn as IsFirstInFolder}
use Rattle.shelf_check.specs.Merged.{Bundle, IsMerged, kept_of, block_count}
use Rattle.shelf_check.specs.Merged.{IsFirstIn as IsFirstInMerged}
use Rattle.shelf_check.specs.Refusals.{Refused}

-- how many files and blocks there are
abbrev pub report_of : List Bundle → List Single → List Single → Report
report_of bundles one forked = record { bundles = length bundles; blocks = told (block_count bundles); one = length one; forked = length forked }

-- the layout tells a size, and all files of the three folders of this size have their form, and one type; those of merged blocks obey the rule; and this is how many there are
pub record IsGood (files : Option Files) (report : Report) : Type 0 where
  pub size : ℕ
  pub layout : HasLayout files (Ok size)
  pub bundles : List Bundle
  pub one : List Single
  pub forked : List Single
  pub merged_folder : IsMerged size files bundles
  pub one_folder : IsFolder One files (kept_of bundles) one
  pub forked_folder : IsFolder Forked files (kept_after (kept_of bundles) one) forked
  pub counts : report ≡ report_of bundles one forked

-- the layout tells no size
pub record IsBadLayout (files : Option Files) (name : List ℕ) (fault : FileFault) : Type 0 where
  pub at : ℕ
  pub layout : HasLayout files (Err at)
  pub name_is : name ≡ layout_file
  pub fault_is : fault ≡ Bad at

-- the layout tells a size, and the first fault is in the folder of merged blocks of this size
pub record IsFirstInSize (files : Option Files) (name : List ℕ) (fault : FileFault) : Type 0 where
  pub size : ℕ
  pub layout : HasLayout files (Ok size)
  pub first : IsFirstInMerged size files name fault

-- the files of merged blocks are good, and the first fault is in `one/`
pub record IsFirstInOne (files : Option Files) (name : List ℕ) (fault : FileFault) : Type 0 where
  pub size : ℕ
  pub layout : HasLayout files (Ok size)
  pub bundles : List Bundle
  pub merged_folder : IsMerged size files bundles
  pub first : IsFirstInFolder One files (kept_of bundles) name fault

-- the files of merged blocks and those in `one/` are good, and the first fault is in `forked/`
pub record IsFirstInForked (files : Option Files) (name : List ℕ) (fault : FileFault) : Type 0 where
  pub size : ℕ
  pub layout : HasLayout files (Ok size)
  pub bundles : List Bundle
  pub one : List Single
  pub merged_folder : IsMerged size files bundles
  pub one_folder : IsFolder One files (kept_of bundles) one
  pub first : IsFirstInFolder Forked files (kept_after (kept_of bundles) one) name fault

-- the first fault of the shelf
abbrev pub IsFirstFault : Option Files → List ℕ → FileFault → Type 0
IsFirstFault files name fault = IsBadLayout files name fault ⊎ (IsFirstInSize files name fault ⊎ (IsFirstInOne files name fault ⊎ IsFirstInForked files name fault))

-- what is answered to a shelf, whose count of faults was one and is now another
abbrev pub CheckAnswers : Option Files → ℕ → ℕ → Result Report LoadFault → Type 0
CheckAnswers files before now (Ok report) = IsGood files report
CheckAnswers files before now (Err fault) = Refused (λ name f. IsFirstFault files name f) before now fault

-- the files are told and good, and this is how many there are
abbrev pub IsGoodShelf : Option Files → Report → Type 0
IsGoodShelf None report = ⊥
IsGoodShelf (Some files) report = IsGood (Some files) report

-- the numbers are reported, unless a call of the shelf failed or there was no memory: no file is a cause of a refusal
abbrev pub IsReported : Report → ℕ → ℕ → Result Report LoadFault → Type 0
IsReported report before now (Ok found) = found ≡ report
IsReported report before now (Err fault) = Refused (λ name f. ⊥) before now fault

-- the shelf listed this name in a folder
pub record IsListed (files : Option Files) (name : List ℕ) : Type 0 where
  pub folder : List ℕ
  pub names : List (List ℕ)
  pub front : List (List ℕ)
  pub more : List (List ℕ)
  pub listed : AreNamesOf files folder names
  pub names_are : names ≡ front ++ name ∷ more

-- the name of the layout, a name that the shelf listed, or that of a file of merged blocks
abbrev pub IsKnownName : Option Files → List ℕ → Type 0
IsKnownName files name = (name ≡ layout_file) ⊎ (IsListed files name ⊎ ((size : ℕ) × (base : ℕ) × (base_in size name ≡ Some base)))

-- a file that is bad has such a name
abbrev pub IsKnownCause : Option Files → StoreFault → Type 0
IsKnownCause files ShelfFault = ⊤
IsKnownCause files (ShelfBad name at) = IsKnownName files name
IsKnownCause files (Missing name) = IsKnownName files name
IsKnownCause files (StoredOther kept read) = ⊤
IsKnownCause files (NameClash held offered) = ⊤
IsKnownCause files Mem = ⊤

-- the same of what is answered
abbrev pub IsKnownRefusal : Option Files → LoadFault → Type 0
IsKnownRefusal files (Store fault) = IsKnownCause files fault
IsKnownRefusal files (KindClash held offered) = ⊤
IsKnownRefusal files (HistoryFull len need) = ⊤
