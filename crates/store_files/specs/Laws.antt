-- What loading and each change of a file keep, as statements.
use Rattle.std.specs.Prelude.{ℕ, ◌≡◌, ◌⊎◌, true, false, List, [], ◌∷◌, map, reverse, codes, IsTrue, None, Some}
use Rattle.std.specs.Str.{bytes_eq}
use Rattle.std.specs.List.{AllByRecursion}
use mathlib.Core.List.{IsSuffix}
use Rattle.block_record.specs.declared.blocks.Block.{Block}
use Rattle.block_record.specs.declared.blocks.Slip.{Slip}
use Rattle.block_record.specs.Slips.{slip}
use Rattle.block_record.specs.Texts.{IsReaderName}
use Rattle.outer_world.specs.Files.{Files, file_at, with_file, without_file, is_in}
use Rattle.one_block.specs.Files.{IsSize, folder_of_size, merged_text, forked_text}
use Rattle.one_block.specs.Heads.{HoldsBlocks}
use Rattle.one_block.specs.Layout.{layout_file}
use Rattle.one_block.specs.Names.{own_file}
use Rattle.chain_model.specs.Ancestry.{find_id}
use Rattle.chain_model.specs.Finality.{final_ancestry}
use Rattle.relay_model.specs.Worlds.{World}
use Rattle.relay_model.specs.Soundness.{IsSound}
use Rattle.bundle_model.specs.Laws.{IsFrontStored}
use Rattle.bundle_model.specs.Members.{Among}
use Rattle.bundle_model.specs.Plans.{Plan, next_plan}
use Rattle.bundle_model.specs.Shedding.{may_sweep}
use Rattle.store_model.specs.Shown.{IsPassed, slips}
use Rattle.store_model.specs.Kept.{IsStoredFinal}
use Rattle.store_model.specs.Laws.{IsEmpty, IsSame}
use Rattle.store_files.specs.Folders.{size_of, shown_of}
use Rattle.store_files.specs.Kept.{IsKept, IsWholeKept, IsClean, loaded_from}

-- what a world that was loaded has of the one before
pub record ReloadsFrom (files : Files) (old new : World) : Type 0 where
  pub sound : IsSound new
  -- its bundles are of the size that the shelf tells
  pub sized : new.size ≡ size_of files
  -- every block of the old history
  pub held : (s : Slip) → find_id old.history s.id ≡ Some s → find_id new.history s.id ≡ Some s
  -- the old final path is a front of the new one
  pub finals : IsSuffix (final_ancestry old.history) (final_ancestry new.history)
  -- the files keep the new world, and its stored blocks
  pub kept : IsWholeKept files new
  -- the stored blocks of the final path are those of the merged files, so a merger goes on where they end
  pub front : IsFrontStored new
  -- with no further block the final paths are equal, and the heads have one number
  pub same : ((s : Slip) → find_id new.history s.id ≡ Some s → find_id old.history s.id ≡ Some s) → IsSame old.history new.history

-- loading brings back what was kept, unless the history is full
abbrev pub LoadKeepsFiles : Type 0
LoadKeepsFiles = (files : Files) (old empty : World) → IsSound old → IsKept files old → IsClean old.first files old.history → IsEmpty empty → empty.first ≡ old.first
    → (loaded_from files empty).full ≡ None → ReloadsFrom files old (loaded_from files empty).world

-- a file was put in place, or the call failed and left the old one
abbrev pub Puts : List ℕ → List ℕ → Files → Files → Type 0
Puts name text old new = (new ≡ old) ⊎ (new ≡ with_file name text old)

-- a file was removed, or the call failed and left it
abbrev pub Removes : List ℕ → Files → Files → Type 0
Removes name old new = (new ≡ old) ⊎ (new ≡ without_file name old)

-- a name is in none of the four folders that are read, and is not that of the layout
pub record IsOther (name : List ℕ) : Type 0 where
  pub one : is_in (codes "one") name ≡ false
  pub forked : is_in (codes "forked") name ≡ false
  pub merged : (n : ℕ) → IsSize n → is_in (folder_of_size n) name ≡ false
  pub layout : bytes_eq name layout_file ≡ false

-- a block's own file is put where there was none
abbrev pub PutFileKeeps : Type 0
PutFileKeeps = (old new : Files) (w : World) (block : Block) (by block_type text : List ℕ) → IsWholeKept old w
    → IsReaderName by → HoldsBlocks text block_type (block ∷ []) → file_at (own_file (slip block) by) old ≡ None
    → Puts (own_file (slip block) by) text old new → IsWholeKept new w

-- a block whose own file is there is shown
abbrev pub OwnFileShows : Type 0
OwnFileShows = (files : Files) (block : Block) (by block_type text : List ℕ) → IsReaderName by → HoldsBlocks text block_type (block ∷ [])
    → file_at (own_file (slip block) by) files ≡ Some text → Among (slips (shown_of files).one) (slip block)

-- the file of a block that is passed is put into `forked/`, whether there was one of that name or not
abbrev pub ForkFileKeeps : Type 0
ForkFileKeeps = (old new : Files) (w : World) (block : Block) (block_type text : List ℕ) → IsSound w → IsWholeKept old w
    → HoldsBlocks text block_type (block ∷ []) → Among w.history (slip block) → IsPassed w.history (slip block)
    → Puts (forked_text block.num block.id) text old new → IsWholeKept new w

-- a block whose file is in `forked/` is shown there
abbrev pub ForkFileShows : Type 0
ForkFileShows = (files : Files) (block : Block) (block_type text : List ℕ) → HoldsBlocks text block_type (block ∷ [])
    → file_at (forked_text block.num block.id) files ≡ Some text → Among (slips (shown_of files).forked) (slip block)

-- a text holds the blocks of a plan's bundle, of which there are some
pub record IsBundleText (plan : Plan) (text : List ℕ) : Type 0 where
  pub block_type : List ℕ
  pub blocks : List Block
  pub holds : HoldsBlocks text block_type blocks
  pub planned : map slip (reverse blocks) ≡ plan.finals
  pub first : Slip
  pub more : List Slip
  pub some : plan.finals ≡ first ∷ more

-- a plan's bundle is put into its folder, on a shelf of the relay's size
abbrev pub BundleFileKeeps : Type 0
BundleFileKeeps = (old new : Files) (w : World) (plan : Plan) (text : List ℕ) → IsSound w → size_of old ≡ w.size → IsWholeKept old w
    → next_plan w ≡ Some plan → IsBundleText plan text → Puts (merged_text plan.size plan.base) text old new → IsWholeKept new w

-- then each of its blocks is shown in the file for its number
abbrev pub BundleFileShows : Type 0
BundleFileShows = (old : Files) (w : World) (plan : Plan) (text : List ℕ) → IsSound w → size_of old ≡ w.size
    → next_plan w ≡ Some plan → IsBundleText plan text
    → AllByRecursion (IsStoredFinal (shown_of (with_file (merged_text plan.size plan.base) text old)) w.history) plan.finals

-- a file of another folder is put
abbrev pub OtherFileKeeps : Type 0
OtherFileKeeps = (old new : Files) (w : World) (name text : List ℕ) → IsWholeKept old w → IsOther name → Puts name text old new → IsWholeKept new w

-- a file of `one/` whose block may be swept is removed
abbrev pub SweepFileKeeps : Type 0
SweepFileKeeps = (old new : Files) (w : World) (name block_type text : List ℕ) (block : Block) → IsSound w → IsWholeKept old w → IsTrue (is_in (codes "one") name)
    → file_at name old ≡ Some text → HoldsBlocks text block_type (block ∷ []) → may_sweep w block.num block.id ≡ true → Removes name old new → IsWholeKept new w

-- a file of `one/` whose block is not held is removed
abbrev pub RemoveFileKeeps : Type 0
RemoveFileKeeps = (old new : Files) (w : World) (name block_type text : List ℕ) (block : Block) → IsWholeKept old w → IsTrue (is_in (codes "one") name)
    → file_at name old ≡ Some text → HoldsBlocks text block_type (block ∷ []) → (Among w.history (slip block) ⊎ Among w.waiting (slip block) → ⊥) → Removes name old new → IsWholeKept new w
