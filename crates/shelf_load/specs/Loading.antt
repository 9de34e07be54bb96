-- How far a shelf is loaded: the files whose blocks were taken, and what they leave.
use Rattle.std.specs.Prelude.{ℕ, ◌≡◌, ◌≢◌, ◌+◌, ◌⊎◌, IsTrue, IsFalse, nat_lt, List, [], ◌∷◌, ◌++◌, length, map, reverse, codes, Option, None, Some, Result, Ok, Err, ⊤, IsPermutation, IsSorted}
use Rattle.std.specs.Option.{option_map, is_some}
use Rattle.std.specs.List.{AllByRecursion, flat_map}
use Rattle.block_record.specs.declared.blocks.Block.{Block}
use Rattle.block_record.specs.declared.blocks.Kind.{Kind}
use Rattle.block_record.specs.declared.blocks.Version.TheVariants.{V3}
use Rattle.block_record.specs.Slips.{slip}
use Rattle.dbin_file.specs.Contents.{contents, message_place}
use Rattle.outer_world.specs.Files.{Files, is_in}
use Rattle.outer_world.specs.Causes.{Rose}
use Rattle.outer_world.specs.Shelves.{AreNamesOf}
use Rattle.file_reader.specs.Reading.{HasFront, HasText}
use Rattle.one_block.specs.Files.{base_in, folder_of_size}
use Rattle.one_block.specs.Containers.{container_fault, empty_place, IsNoRecord}
use Rattle.one_block.specs.Heads.{AreRecords, HoldsBlocks, IsBadHead}
use Rattle.one_block.specs.Forms.{form_of}
use Rattle.one_block.specs.Singles.{IsSingleOf}
use Rattle.one_block.specs.declared.faults.StoreFault.TheVariants as store
use Rattle.one_block.specs.declared.forms.Folder.{Folder}
use Rattle.one_block.specs.declared.forms.Folder.TheVariants.{One, Forked}
use Rattle.one_block.specs.declared.forms.Form.{Form}
use Rattle.relay_model.specs.Worlds.{World}
use Rattle.relay_model.specs.Offers.{HistoryFull, offered}
use Rattle.block_relay.specs.Chronicle.{may_greet}
use Rattle.shelf_check.specs.Folders.{folder_text}
use Rattle.shelf_check.specs.Merged.{Entry, entry_order}
use Rattle.shelf_check.specs.declared.faults.LoadFault.{LoadFault}
use Rattle.shelf_check.specs.declared.faults.LoadFault.TheVariants as fault
use Rattle.store_model.specs.Loads.{is_offered, if_full}
use Rattle.shelf_load.specs.declared.put_by.Origin.{Origin}
use Rattle.shelf_load.specs.declared.put_by.Origin.TheVariants.{OwnFile, StoredFile}
use Rattle.shelf_load.specs.Taking.{Stage, Taken, stage, taken, take_all}
use Rattle.shelf_load.specs.LoadLaws.{nothing}

-- a file whose blocks were taken: the number by which it stands in the order (its base, or that of its block), its whole name and the text that was read, the type and the blocks that were read in it, the newest first, and where they were read
pub record TakenFile : Type 0 where
  pub num : ℕ
  pub name : List ℕ
  pub text : List ℕ
  pub block_type : List ℕ
  pub blocks : List Block
  pub origin : Origin

-- its blocks as they were taken, the last first
abbrev pub file_taken : TakenFile → List Taken
file_taken x = map (λ b. taken (slip b) x.origin) x.blocks

-- those of files, the last one first
abbrev pub all_taken_of : List TakenFile → List Taken
all_taken_of xs = flat_map file_taken xs

-- numbers and names of files, in the order in which they were read, where the last one stands first
abbrev pub entries_of : List TakenFile → List Entry
entries_of xs = map (λ x. (x.num, x.name)) (reverse xs)

-- the kind of a file's blocks
abbrev pub file_kind : TakenFile → Kind
file_kind x = record { version = V3; block_type = x.block_type }

-- the kind after one more was told: the first one stays
abbrev pub first_kind : Option Kind → Kind → Option Kind
first_kind None k = Some k
first_kind (Some held) k = Some held

-- the kind of a relay after the heads of these files, the last one first
abbrev pub kind_after : Option Kind → List TakenFile → Option Kind
kind_after kind [] = kind
kind_after kind (x ∷ older) = first_kind (kind_after kind older) (file_kind x)

-- each of these files, the last one first, has the type that is kept when it is read
abbrev pub AreOfKind : Option Kind → List TakenFile → Type 0
AreOfKind kind [] = ⊤
AreOfKind kind (x ∷ older) = IsTrue (may_greet (kind_after kind older) (file_kind x)) × AreOfKind kind older

-- a world of this kind, with nothing beside it
abbrev pub begun : World → Option Kind → Stage
begun w kind = stage (record w { kind = kind }) nothing

-- each of these blocks, the last one first, had room where it was offered
abbrev pub HadRoom : Stage → List Taken → Type 0
HadRoom g [] = ⊤
HadRoom g (t ∷ earlier) =
    (IsTrue (is_offered (take_all g earlier).world.history t.slip) → if_full (offered (take_all g earlier).world t.slip).answer ≡ None) × HadRoom g earlier

-- the stage is that of a world into which the blocks of these files were taken, the last one first
pub record IsLoaded (w : World) (xs : List TakenFile) (g : Stage) : Type 0 where
  pub kind : g.world.kind ≡ kind_after w.kind xs
  pub one_kind : AreOfKind w.kind xs
  pub stage_is : g ≡ take_all (begun w (kind_after w.kind xs)) (all_taken_of xs)
  pub room : HadRoom (begun w (kind_after w.kind xs)) (all_taken_of xs)

-- a file of merged blocks was read whole
pub record IsBundleRead (files : Option Files) (x : TakenFile) : Type 0 where
  pub origin_is : x.origin ≡ StoredFile
  pub there : HasText files x.name x.text
  pub holds : HoldsBlocks x.text x.block_type x.blocks
  pub some : IsTrue (nat_lt 0 (length x.blocks))

-- the same, and its number is the base in its name
pub record IsBundleTaken (size : ℕ) (files : Option Files) (x : TakenFile) : Type 0 where
  pub based : base_in size x.name ≡ Some x.num
  pub read : IsBundleRead files x

-- where the blocks of a folder are read
abbrev pub origin_of : Folder → Origin
origin_of One = OwnFile
origin_of Forked = StoredFile

-- a file of one block was read whole
pub record IsSingleTaken (files : Option Files) (x : TakenFile) : Type 0 where
  pub folder : Folder
  pub inside : IsTrue (is_in (folder_text folder) x.name)
  pub origin_is : x.origin ≡ origin_of folder
  pub form : Form
  pub formed : form_of folder x.name ≡ Some form
  pub there : HasText files x.name x.text
  pub block : Block
  pub blocks_are : x.blocks ≡ block ∷ []
  pub num_is : x.num ≡ block.num
  pub single : IsSingleOf form x.name x.text None x.block_type block

-- these files, the last one first, have these names, and are in the order of their numbers and then of their names
pub record AreOrdered (names : List (List ℕ)) (xs : List TakenFile) : Type 0 where
  pub found : List Entry
  pub names_are : names ≡ map (λ e. e.1) found
  pub all : IsPermutation found (entries_of xs)
  pub in_order : IsSorted entry_order (entries_of xs)

-- these are all files of merged blocks of this size, and each was read whole
pub record AreBundlesTaken (size : ℕ) (files : Option Files) (xs : List TakenFile) : Type 0 where
  pub names : List (List ℕ)
  pub listed : AreNamesOf files (folder_of_size size) names
  pub ordered : AreOrdered names xs
  pub each : AllByRecursion (IsBundleTaken size files) xs

-- these are all files of `forked/` and `one/`, and each was read whole
pub record AreSinglesTaken (files : Option Files) (xs : List TakenFile) : Type 0 where
  pub forked : List (List ℕ)
  pub one : List (List ℕ)
  pub forked_listed : AreNamesOf files (codes "forked") forked
  pub one_listed : AreNamesOf files (codes "one") one
  pub ordered : AreOrdered (forked ++ one) xs
  pub each : AllByRecursion (IsSingleTaken files) xs

-- of a file that begins with this text these blocks were read so far
pub record IsPart (files : Option Files) (x : TakenFile) : Type 0 where
  pub there : HasFront files x.name x.text
  pub typed : (contents x.text).block_type ≡ Some x.block_type
  pub messages : List (List ℕ)
  pub more : List (List ℕ)
  pub messages_are : (contents x.text).messages ≡ messages ++ more
  pub records : AreRecords messages x.blocks

-- a file with one more block
abbrev pub with_block : TakenFile → Block → TakenFile
with_block x b = record x { blocks = b ∷ x.blocks }

-- the blocks of files were taken, and one more was refused, since the history has no room for what it brings
pub record IsFullAt (files : Option Files) (w : World) (len need : ℕ) : Type 0 where
  pub older : List TakenFile
  pub x : TakenFile
  pub b : Block
  pub parts : AllByRecursion (IsPart files) (with_block x b ∷ older)
  pub g : Stage
  pub loaded : IsLoaded w (x ∷ older) g
  pub offered_is : IsTrue (is_offered g.world.history (slip b))
  pub said : (offered g.world (slip b)).answer ≡ HistoryFull len need

-- the heads of files were read, and that of this one has another type
pub record IsClashAt (files : Option Files) (w : World) (held other : List ℕ) : Type 0 where
  pub older : List TakenFile
  pub parts : AllByRecursion (IsPart files) older
  pub name : List ℕ
  pub text : List ℕ
  pub there : HasFront files name text
  pub typed : (contents text).block_type ≡ Some other
  pub held_is : option_map (λ k. k.block_type) (kind_after w.kind older) ≡ Some held
  pub differs : held ≢ other

-- why files were not loaded, where these are the causes by which a file is bad at a place
abbrev pub LoadRefused : (List ℕ → ℕ → Type 0) → Option Files → World → ℕ → ℕ → LoadFault → Type 0
LoadRefused IsBad files w before now (fault.Store store.ShelfFault) = Rose before now
LoadRefused IsBad files w before now (fault.Store (store.ShelfBad name at)) = IsBad name at
LoadRefused IsBad files w before now (fault.Store (store.Missing name)) = ⊥
LoadRefused IsBad files w before now (fault.Store (store.StoredOther kept read)) = ⊥
LoadRefused IsBad files w before now (fault.Store (store.NameClash held other)) = ⊥
LoadRefused IsBad files w before now (fault.Store store.Mem) = ⊤
LoadRefused IsBad files w before now (fault.KindClash held other) = IsClashAt files w held other
LoadRefused IsBad files w before now (fault.HistoryFull len need) = IsFullAt files w len need

-- files were taken after others
pub record AreLoaded (AreAll : List TakenFile → Type 0) (w : World) (older : List TakenFile) (new : Stage) : Type 0 where
  pub xs : List TakenFile
  pub all : AreAll xs
  pub loaded : IsLoaded w (xs ++ older) new

-- what is answered to files that are loaded after others
abbrev pub LoadAnswers : (List TakenFile → Type 0) → (List ℕ → ℕ → Type 0) → Option Files → World → List TakenFile → Stage → ℕ → ℕ → Result Unit LoadFault → Type 0
LoadAnswers AreAll IsBad files w older new before now (Ok u) = AreLoaded AreAll w older new
LoadAnswers AreAll IsBad files w older new before now (Err refused) = LoadRefused IsBad files w before now refused

-- after messages that are the records of these blocks stands one that is no record, with its first bad field at this place
pub record IsBadRecord (text : List ℕ) (at : ℕ) : Type 0 where
  pub block_type : List ℕ
  pub typed : (contents text).block_type ≡ Some block_type
  pub blocks : List Block
  pub front : List (List ℕ)
  pub message : List ℕ
  pub more : List (List ℕ)
  pub messages_are : (contents text).messages ≡ front ++ message ∷ more
  pub records : AreRecords front blocks
  pub bad : IsNoRecord (message_place block_type front + 4) message at

-- all messages are records of these blocks, and there is none, or the container does not end after them
pub record IsBadEnd (text : List ℕ) (at : ℕ) : Type 0 where
  pub block_type : List ℕ
  pub typed : (contents text).block_type ≡ Some block_type
  pub blocks : List Block
  pub records : AreRecords (contents text).messages blocks
  pub ends : IsFalse (nat_lt 0 (length blocks)) ⊎ IsTrue (is_some (container_fault text))
  pub place : at ≡ empty_place text

-- the file of this name is bad first at this place: its header, a message after records of blocks, the container's end, or its own end where it has no block
pub record IsBadBundle (files : Option Files) (name : List ℕ) (at : ℕ) : Type 0 where
  pub text : List ℕ
  pub there : HasText files name text
  pub bad : IsBadHead text at ⊎ (IsBadRecord text at ⊎ IsBadEnd text at)

-- the file of this name was read whole, and its blocks were taken after those of others
pub record IsFileLoaded (IsRead : TakenFile → Type 0) (name : List ℕ) (w : World) (older : List TakenFile) (new : Stage) : Type 0 where
  pub x : TakenFile
  pub name_is : x.name ≡ name
  pub read : IsRead x
  pub loaded : IsLoaded w (x ∷ older) new

-- what is answered to the file of this name
abbrev pub FileAnswers : (TakenFile → Type 0) → (List ℕ → ℕ → Type 0) → Option Files → List ℕ → World → List TakenFile → Stage → ℕ → ℕ → Result Unit LoadFault → Type 0
FileAnswers IsRead IsBad files name w older new before now (Ok u) = IsFileLoaded IsRead name w older new
FileAnswers IsRead IsBad files name w older new before now (Err refused) = LoadRefused (λ bad at. (bad ≡ name) × IsBad name at) files w before now refused

-- these files were read whole, and their blocks were taken after those of others
pub record AreFilesLoaded (IsRead : TakenFile → Type 0) (entries : List Entry) (w : World) (older : List TakenFile) (new : Stage) : Type 0 where
  pub xs : List TakenFile
  pub entries_are : entries ≡ entries_of xs
  pub each : AllByRecursion IsRead xs
  pub loaded : IsLoaded w (xs ++ older) new

-- the first of these files were read whole, and their blocks were taken after those of others; the next one is bad first at this place
pub record IsFirstBad (IsRead : TakenFile → Type 0) (IsBad : List ℕ → ℕ → Type 0) (entries : List Entry) (w : World) (older : List TakenFile) (name : List ℕ) (at : ℕ) : Type 0 where
  pub xs : List TakenFile
  pub num : ℕ
  pub more : List Entry
  pub entries_are : entries ≡ entries_of xs ++ (num, name) ∷ more
  pub each : AllByRecursion IsRead xs
  pub g : Stage
  pub loaded : IsLoaded w (xs ++ older) g
  pub bad : IsBad name at

-- what is answered to these files
abbrev pub EntriesAnswer : (TakenFile → Type 0) → (List ℕ → ℕ → Type 0) → Option Files → List Entry → World → List TakenFile → Stage → ℕ → ℕ → Result Unit LoadFault → Type 0
EntriesAnswer IsRead IsBad files entries w older new before now (Ok u) = AreFilesLoaded IsRead entries w older new
EntriesAnswer IsRead IsBad files entries w older new before now (Err refused) = LoadRefused (IsFirstBad IsRead IsBad entries w older) files w before now refused
