-- The steps by which a file of merged blocks is loaded, and the first of them that is bad.
use Rattle.std.specs.Prelude.{ℕ, ◌≡◌, ◌⊎◌, Bool, IsTrue, IsFalse, List, [], ◌∷◌, Option, None, Some, ⊤, Result, Ok, Err}
use Rattle.std.specs.Option.{is_some}
use Rattle.block_record.specs.declared.blocks.Block.{Block}
use Rattle.dbin_file.specs.Reader.{end_fault}
use Rattle.outer_world.specs.Files.{Files}
use Rattle.outer_world.specs.Shelves.{AreNamesOf}
use Rattle.file_reader.specs.Reading.{FileState}
use Rattle.one_block.specs.Containers.{IsRecordOf, IsNoRecord}
use Rattle.one_block.specs.Files.{base_in, folder_of_size}
use Rattle.one_block.specs.declared.file_faults.FileFault.TheVariants.{Bad}
use Rattle.one_block.specs.declared.faults.StoreFault.TheVariants as store
use Rattle.relay_model.specs.Worlds.{World}
use Rattle.shelf_check.specs.Merged.{Entry, AreOrdered, IsOtherName}
use Rattle.shelf_check.specs.Steps.{end_of, next_record_place}
use Rattle.shelf_check.specs.declared.faults.LoadFault.{LoadFault}
use Rattle.shelf_check.specs.declared.faults.LoadFault.TheVariants as fault
use Rattle.shelf_load.specs.Loading.{TakenFile, IsBundleTaken, IsBadBundle, IsFirstBad}

-- a message that stands at this place in the file of this name is no record
abbrev pub BlockRefused : ℕ → List ℕ → List ℕ → LoadFault → Type 0
BlockRefused place name message (fault.Store store.ShelfFault) = ⊥
BlockRefused place name message (fault.Store (store.ShelfBad told_name at)) = (told_name ≡ name) × IsNoRecord place message at
BlockRefused place name message (fault.Store (store.Missing missing)) = ⊥
BlockRefused place name message (fault.Store (store.StoredOther kept read)) = ⊥
BlockRefused place name message (fault.Store (store.NameClash held other)) = ⊥
BlockRefused place name message (fault.Store store.Mem) = ⊤
BlockRefused place name message (fault.KindClash held other) = ⊥
BlockRefused place name message (fault.HistoryFull len need) = ⊥

-- the block of the first of these messages, which are left in a reader, if there is one
abbrev pub BlockAnswers : FileState → List (List ℕ) → Result (Option Block) LoadFault → Type 0
BlockAnswers r [] result = result ≡ Ok None
BlockAnswers r (message ∷ more) (Ok None) = ⊥
BlockAnswers r (message ∷ more) (Ok (Some b)) = IsRecordOf message b
BlockAnswers r (message ∷ more) (Err refused) = BlockRefused (next_record_place r) r.name message refused

-- a file of which no message is left has no block, or a fault
abbrev pub EndRefused : FileState → Bool → LoadFault → Type 0
EndRefused r some (fault.Store store.ShelfFault) = ⊥
EndRefused r some (fault.Store (store.ShelfBad name at)) = (name ≡ r.name) × (at ≡ end_of r) × (IsFalse some ⊎ IsTrue (is_some (end_fault r.reader)))
EndRefused r some (fault.Store (store.Missing name)) = ⊥
EndRefused r some (fault.Store (store.StoredOther kept read)) = ⊥
EndRefused r some (fault.Store (store.NameClash held other)) = ⊥
EndRefused r some (fault.Store store.Mem) = ⊤
EndRefused r some (fault.KindClash held other) = ⊥
EndRefused r some (fault.HistoryFull len need) = ⊥

-- what is answered at the end of a file, of which some block was read or none
abbrev pub EndAnswers : FileState → Bool → Result Unit LoadFault → Type 0
EndAnswers r some (Ok u) = IsTrue some × (end_fault r.reader ≡ None)
EndAnswers r some (Err refused) = EndRefused r some refused

-- a file has its base
abbrev pub HasBase : ℕ → Entry → Type 0
HasBase size e = base_in size e.1 ≡ Some e.0

-- of the files of these names, in their order, this is the first bad one
pub record IsFirstBundle (size : ℕ) (files : Option Files) (names : List (List ℕ)) (w : World) (older : List TakenFile) (name : List ℕ) (at : ℕ) : Type 0 where
  pub entries : List Entry
  pub ordered : AreOrdered size names entries
  pub first : IsFirstBad (IsBundleTaken size files) (IsBadBundle files) entries w older name at

-- of the files of merged blocks of this size this is the first bad one, and it is bad first at this place: all names are read before a file is
pub record IsBadMerged (size : ℕ) (files : Option Files) (w : World) (older : List TakenFile) (name : List ℕ) (at : ℕ) : Type 0 where
  pub names : List (List ℕ)
  pub listed : AreNamesOf files (folder_of_size size) names
  pub first : IsOtherName size names name (Bad at) ⊎ IsFirstBundle size files names w older name at
