-- The folder of merged blocks.
use Rattle.std.specs.Prelude.{ℕ, ◌≡◌, ◌+◌, ◌⊎◌, List, [], ◌∷◌, ◌++◌, length, map, reverse, Option, None, Some, ⊤, Result, Ok, Err, IsPermutation, IsSorted}
use Rattle.std.specs.Global.{Vec}
use Rattle.std.specs.declared.cmp.Ordering.{Ordering}
use Rattle.std.specs.Ordering.{nat_cmp, ordering_then}
use Rattle.std.specs.Cmp.Lexicographic.{slice_cmp}
use Rattle.block_record.specs.declared.blocks.Block.{Block}
use Rattle.block_record.specs.declared.blocks.BlockRef.{BlockRef}
use Rattle.dbin_file.specs.Contents.{told}
use Rattle.one_block.specs.Files.{base_in, folder_of_size}
use Rattle.outer_world.specs.Files.{Files}
use Rattle.outer_world.specs.Shelves.{AreNamesOf}
use Rattle.one_block.specs.declared.file_faults.FileFault.{FileFault}
use Rattle.one_block.specs.declared.file_faults.FileFault.TheVariants.{Bad}
use Rattle.shelf_check.specs.declared.faults.LoadFault.{LoadFault}
use Rattle.shelf_check.specs.declared.merged.MergedRead.{MergedRead}
use Rattle.shelf_check.specs.Bundles.{IsBundle, BundleRefused, IsBundleRead, tip_after}
use Rattle.shelf_check.specs.declared.bundles.BundleRead.{BundleRead}
use Rattle.shelf_check.specs.declared.faults.ReadFault.{ReadFault}
use Rattle.file_reader.specs.Reading.{HasText}
use Rattle.shelf_check.specs.Refusals.{Refused, ReadRefused}

-- the base and the whole name of a file
abbrev pub Entry : Type 0
Entry = ℕ × List ℕ

-- by base, as a number, and then by name
abbrev pub entry_order : Entry → Entry → Ordering
entry_order a b = ordering_then (nat_cmp a.0 b.0) (slice_cmp nat_cmp a.1 b.1)

-- each of these names is that of a file of merged blocks, and these are the bases and names
pub record AreBased (size : ℕ) (names : List (List ℕ)) (entries : List Entry) : Type 0 where
  pub names_are : names ≡ map (λ e. e.1) entries
  pub bases : map (base_in size) names ≡ map (λ e. Some e.0) entries

-- the same in the order of bases
pub record AreOrdered (size : ℕ) (names : List (List ℕ)) (entries : List Entry) : Type 0 where
  pub found : List Entry
  pub based : AreBased size names found
  pub all : IsPermutation found entries
  pub in_order : IsSorted entry_order entries

-- a file of merged blocks: its base, whole name and text, and the type and the blocks that it holds, the newest first
pub record Bundle : Type 0 where
  pub base : ℕ
  pub name : List ℕ
  pub text : List ℕ
  pub block_type : List ℕ
  pub blocks : List Block

-- a file on the shelf obeys the rule, after files of this type and after this block
pub record IsBundleOn (size : ℕ) (files : Option Files) (kept : Option (List ℕ)) (before : Option BlockRef) (x : Bundle) : Type 0 where
  pub there : HasText files x.name x.text
  pub bundle : IsBundle size x.base x.text kept before x.block_type x.blocks

-- the type of these files, the last one first
abbrev pub kept_of : List Bundle → Option (List ℕ)
kept_of [] = None
kept_of (x ∷ older) = Some x.block_type

-- the last block of these files
abbrev pub tip_of : List Bundle → Option BlockRef
tip_of [] = None
tip_of (x ∷ older) = tip_after (tip_of older) x.blocks

-- how many blocks they hold
abbrev pub block_count : List Bundle → ℕ
block_count [] = 0
block_count (x ∷ older) = block_count older + length x.blocks

-- files, the last one first, obey the rule, each after those before it
abbrev pub AreBundles : ℕ → Option Files → List Bundle → Type 0
AreBundles size files [] = ⊤
AreBundles size files (x ∷ older) = IsBundleOn size files (kept_of older) (tip_of older) x × AreBundles size files older

-- bases and names of files, in the order in which they are read, where the last one stands first
abbrev pub entries_of : List Bundle → List Entry
entries_of bundles = map (λ x. (x.base, x.name)) (reverse bundles)

-- these are all files of merged blocks, the last one first, and they obey the rule
pub record IsMerged (size : ℕ) (files : Option Files) (bundles : List Bundle) : Type 0 where
  pub names : List (List ℕ)
  pub listed : AreNamesOf files (folder_of_size size) names
  pub ordered : AreOrdered size names (entries_of bundles)
  pub good : AreBundles size files bundles

-- the first of the names that is not that of a file of merged blocks
pub record IsOtherName (size : ℕ) (names : List (List ℕ)) (name : List ℕ) (fault : FileFault) : Type 0 where
  pub entries : List Entry
  pub more : List (List ℕ)
  pub names_are : names ≡ map (λ e. e.1) entries ++ name ∷ more
  pub bases : map (base_in size) (map (λ e. e.1) entries) ≡ map (λ e. Some e.0) entries
  pub other : base_in size name ≡ None
  pub place : fault ≡ Bad 0

-- the file of this base and name is refused for this, after files of this type and after this block
pub record IsBadBundle (size : ℕ) (files : Option Files) (kept : Option (List ℕ)) (before : Option BlockRef) (base : ℕ) (name : List ℕ) (fault : FileFault) : Type 0 where
  pub text : List ℕ
  pub there : HasText files name text
  pub refused : BundleRefused size base text kept before fault

-- what was read of the file of this base and name
pub record IsBundleReadOn (size : ℕ) (files : Option Files) (base : ℕ) (name : List ℕ) (kept : Option (List ℕ)) (before : Option BlockRef) (x : BundleRead) : Type 0 where
  pub text : List ℕ
  pub there : HasText files name text
  pub read : IsBundleRead size base text kept before x

-- what is answered to the file of this base and name, after files of this type and after this block, where the count of faults was one and is now another
abbrev pub BundleAnswers : ℕ → Option Files → ℕ → List ℕ → Option (List ℕ) → Option BlockRef → ℕ → ℕ → Result BundleRead ReadFault → Type 0
BundleAnswers size files base name kept before then now (Ok x) = IsBundleReadOn size files base name kept before x
BundleAnswers size files base name kept before then now (Err fault) = ReadRefused (IsBadBundle size files kept before base name) then now fault

-- the first of these files obey the rule, and the next one does not
pub record IsFirstOf (size : ℕ) (files : Option Files) (entries : List Entry) (name : List ℕ) (fault : FileFault) : Type 0 where
  pub bundles : List Bundle
  pub base : ℕ
  pub more : List Entry
  pub entries_are : entries ≡ entries_of bundles ++ (base, name) ∷ more
  pub good : AreBundles size files bundles
  pub bad : IsBadBundle size files (kept_of bundles) (tip_of bundles) base name fault

-- the first file by bases that is refused
pub record IsFirstBased (size : ℕ) (files : Option Files) (names : List (List ℕ)) (name : List ℕ) (fault : FileFault) : Type 0 where
  pub entries : List Entry
  pub ordered : AreOrdered size names entries
  pub first : IsFirstOf size files entries name fault

-- the first fault of the folder: all names are read before a file is
pub record IsFirstIn (size : ℕ) (files : Option Files) (name : List ℕ) (fault : FileFault) : Type 0 where
  pub names : List (List ℕ)
  pub listed : AreNamesOf files (folder_of_size size) names
  pub first : IsOtherName size names name fault ⊎ IsFirstBased size files names name fault

-- what is answered to names, with no call of a shelf, so that no count rises
abbrev pub EntriesAnswer : ℕ → List (List ℕ) → Result (Vec Entry) LoadFault → Type 0
EntriesAnswer size names (Ok entries) = AreBased size names entries.items
EntriesAnswer size names (Err fault) = Refused (λ name f. IsOtherName size names name f) 1 0 fault

-- one more file was read
pub record IsNextRead (size : ℕ) (files : Option Files) (base : ℕ) (name : List ℕ) (old new : MergedRead) : Type 0 where
  pub x : Bundle
  pub base_is : x.base ≡ base
  pub name_is : x.name ≡ name
  pub good : IsBundleOn size files old.kept old.tip x
  pub kept : new.kept ≡ Some x.block_type
  pub tip : new.tip ≡ tip_after old.tip x.blocks
  pub blocks : new.blocks ≡ told (old.blocks + length x.blocks)

-- the refusal of the file of this base and name
pub record IsRefusedBundle (size : ℕ) (files : Option Files) (base : ℕ) (name : List ℕ) (old : MergedRead) (told_name : List ℕ) (fault : FileFault) : Type 0 where
  pub told_is : told_name ≡ name
  pub bad : IsBadBundle size files old.kept old.tip base name fault

-- what is answered to one more file
abbrev pub NextAnswers : ℕ → Option Files → ℕ → List ℕ → MergedRead → ℕ → ℕ → Result MergedRead LoadFault → Type 0
NextAnswers size files base name old before now (Ok new) = IsNextRead size files base name old new
NextAnswers size files base name old before now (Err fault) = Refused (λ told_name f. IsRefusedBundle size files base name old told_name f) before now fault

-- what was read of these files
pub record AreRead (size : ℕ) (files : Option Files) (entries : List Entry) (read : MergedRead) : Type 0 where
  pub bundles : List Bundle
  pub entries_are : entries ≡ entries_of bundles
  pub good : AreBundles size files bundles
  pub kept : read.kept ≡ kept_of bundles
  pub tip : read.tip ≡ tip_of bundles
  pub blocks : read.blocks ≡ told (block_count bundles)

-- what is answered to these files
abbrev pub ReadAnswers : ℕ → Option Files → List Entry → ℕ → ℕ → Result MergedRead LoadFault → Type 0
ReadAnswers size files entries before now (Ok read) = AreRead size files entries read
ReadAnswers size files entries before now (Err fault) = Refused (λ name f. IsFirstOf size files entries name f) before now fault

-- what was read of the folder
pub record IsFolderRead (size : ℕ) (files : Option Files) (bundles_read : ℕ) (read : MergedRead) : Type 0 where
  pub bundles : List Bundle
  pub whole : IsMerged size files bundles
  pub kept : read.kept ≡ kept_of bundles
  pub blocks : read.blocks ≡ told (block_count bundles)
  pub count : bundles_read ≡ length bundles

-- what is answered to the folder
abbrev pub FolderAnswers : ℕ → Option Files → ℕ → ℕ → Result (ℕ × MergedRead) LoadFault → Type 0
FolderAnswers size files before now (Ok read) = IsFolderRead size files read.0 read.1
FolderAnswers size files before now (Err fault) = Refused (λ name f. IsFirstIn size files name f) before now fault
