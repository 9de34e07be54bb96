-- What a relay has once a whole shelf was loaded into it, and what is answered.
use Rattle.std.specs.Prelude.{ℕ, ◌≡◌, ◌≢◌, ◌⊎◌, ◌+◌, List, [], ◌∷◌, length, if◌then◌else◌, Option, None, Some, Result, Ok, Err, ⊤}
use Rattle.block_record.specs.declared.blocks.Slip.{Slip}
use Rattle.dbin_file.specs.Contents.{told}
use Rattle.outer_world.specs.Files.{Files, AreInOrder, names_of}
use Rattle.one_block.specs.Layout.{HasLayout, layout_file}
use Rattle.relay_model.specs.Worlds.{World}
use Rattle.relay_model.specs.Offers.{HistoryFull, offered}
use Rattle.relay_model.specs.Soundness.{IsSound}
use Rattle.shelf_check.specs.declared.faults.LoadFault.{LoadFault}
use Rattle.shelf_check.specs.declared.faults.LoadFault.TheVariants as fault
use Rattle.store_model.specs.Shown.{Shown}
use Rattle.store_model.specs.Loads.{Loading, is_offered, load_all, loading_of, taken}
use Rattle.store_files.specs.Folders.{shown_of}
use Rattle.store_files.specs.Kept.{IsKept, IsClean, loaded_from}
use Rattle.store_files.specs.Laws.{ReloadsFrom}
use Rattle.shelf_load.specs.declared.loads.Loaded.{Loaded}
use Rattle.shelf_load.specs.Taking.{Stage, passed_by}
use Rattle.shelf_load.specs.Ending.{lost_by, put_all, round_at}
use Rattle.shelf_load.specs.LoadLaws.{IsAlikeStored}
use Rattle.shelf_load.specs.Loading.{TakenFile, AreBundlesTaken, IsLoaded, LoadRefused}
use Rattle.shelf_load.specs.Merging.{IsBadMerged}
use Rattle.shelf_load.specs.Singling.{IsBadSingleFile}

-- how many of these blocks, the last one first, were too early or too late when they were taken
abbrev pub early_count : Loading → List Slip → ℕ
early_count l [] = 0
early_count l (s ∷ earlier) =
    early_count l earlier
    + (if is_offered (load_all l earlier).world.history s then passed_by (offered (load_all l earlier).world s).answer else 0)

-- how many of these blocks are neither held nor noted in a conflict
abbrev pub lost_of : World → List Slip → ℕ
lost_of w [] = 0
lost_of w (s ∷ ss) = lost_of w ss + lost_by w s

-- loading begins with this world, of the shelf's size
abbrev pub loading_from : Shown → World → Loading
loading_from shown w = record { world = record w { size = shown.size }; put_by = []; full = None }

-- how many were passed: too early or too late, or put by and neither held nor noted in the end
abbrev pub passed_of : Shown → World → World → ℕ
passed_of shown w new = early_count (loading_from shown w) (taken shown) + lost_of new (loading_of shown w).put_by

-- the numbers of a world
pub record IsCounted (new : World) (l : Loaded) : Type 0 where
  pub admitted : l.admitted ≡ length new.history
  pub waiting : l.waiting ≡ length new.waiting
  pub conflicts : l.conflicts ≡ length new.conflicts

-- the world is that of loading these files into an empty one, with the same blocks stored; its kind is the old one, where there is one
pub record IsFromFiles (files : Files) (old new : World) (l : Loaded) : Type 0 where
  pub kind : old.kind ≢ None → new.kind ≡ old.kind
  pub world : IsAlikeStored (loaded_from files (record old { kind = new.kind })).world new
  pub room : (loaded_from files (record old { kind = new.kind })).full ≡ None
  pub passed : l.passed ≡ told (passed_of (shown_of files) (record old { kind = new.kind }) new)

-- a fact of files that are told, in the order of their names
abbrev pub OfTold : Option Files → (Files → Type 0) → Type 0
OfTold None P = ⊤
OfTold (Some files) P = AreInOrder (names_of files) → P files

-- what was kept of an older world is there again
abbrev pub Reloads : Option Files → World → World → Type 0
Reloads None first new = ⊤
Reloads (Some files) first new = (old : World) → IsSound old → IsKept files old → IsClean old.first files old.history → first.first ≡ old.first → ReloadsFrom files old new

-- all files of merged blocks were read whole, and of those of `forked/` and `one/` this is the first bad one
pub record IsBadAfterMerged (size : ℕ) (files : Option Files) (w : World) (name : List ℕ) (at : ℕ) : Type 0 where
  pub bundles : List TakenFile
  pub all : AreBundlesTaken size files bundles
  pub bad : IsBadSingleFile files w bundles name at

-- after a layout that was read, this is the first bad file in the order of loading
pub record IsBadAfterLayout (files : Option Files) (w : World) (name : List ℕ) (at : ℕ) : Type 0 where
  pub layout : HasLayout files (Ok w.size)
  pub bad : IsBadMerged w.size files w [] name at ⊎ IsBadAfterMerged w.size files w name at

-- the layout of the shelf, or this file of it, is the first bad one in the order of loading into this world, and bad first at this place
abbrev pub IsBadFile : Option Files → World → List ℕ → ℕ → Type 0
IsBadFile files w name at = ((name ≡ layout_file) × HasLayout files (Err at)) ⊎ IsBadAfterLayout files w name at

-- all blocks were taken, and one of those that were put by was refused, since the history has no room for what it brings
pub record IsFullAgain (files : Option Files) (w : World) (refused : LoadFault) : Type 0 where
  pub size : ℕ
  pub xs : List TakenFile
  pub g : Stage
  pub loaded : IsLoaded (record w { size = size }) xs g
  pub len : ℕ
  pub need : ℕ
  pub said : (put_all (round_at g.world) g.aside.put_by).full ≡ Some (HistoryFull len need)
  pub refused_is : refused ≡ fault.HistoryFull len need

-- why a shelf was not loaded
abbrev pub IsRefusedLoad : Option Files → World → ℕ → ℕ → LoadFault → Type 0
IsRefusedLoad files w before now refused =
    ((size : ℕ) × LoadRefused (IsBadFile files (record w { size = size })) files (record w { size = size }) before now refused) ⊎ IsFullAgain files w refused

-- what is answered where a shelf is loaded into an empty relay
abbrev pub ShelfAnswers : Option Files → World → World → ℕ → ℕ → Result Loaded LoadFault → Type 0
ShelfAnswers files old new before now (Ok l) = IsCounted new l × OfTold files (λ told_files. IsFromFiles told_files old new l)
ShelfAnswers files old new before now (Err refused) = IsRefusedLoad files old before now refused
