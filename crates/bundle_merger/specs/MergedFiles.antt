-- The files of merged blocks of a shelf, and what the files keep while plans are written and shed.
use Rattle.std.specs.Prelude.{ℕ, ◌≡◌, IsTrue, List, length, map, reverse, Option, None, Some, ⊤, IsSomeAnd}
use mathlib.Core.List.{IsPrefix}
use Rattle.block_record.specs.declared.blocks.Block.{Block}
use Rattle.block_record.specs.declared.blocks.Kind.{Kind}
use Rattle.block_record.specs.Slips.{slip}
use Rattle.outer_world.specs.Files.{Files, file_at, is_in}
use Rattle.one_block.specs.Files.{folder_of_size, merged_text}
use Rattle.one_block.specs.Heads.{HoldsBlocks}
use Rattle.relay_model.specs.Worlds.{World}
use Rattle.bundle_model.specs.Bundles.{Bundle, bundles_of, blocks_of}
use Rattle.bundle_model.specs.Laws.{IsFrontStored}
use Rattle.bundle_model.specs.Members.{Among}
use Rattle.store_files.specs.Folders.{size_of}
use Rattle.store_files.specs.Kept.{IsWholeKept}
use Rattle.bundle_merger.specs.declared.merging.Merged.{Merged}

-- a text is a container of the kind's type with a record of each block of a bundle, in order, and nothing else
pub record HoldsBundle (kind : Kind) (b : Bundle) (text : List ℕ) : Type 0 where
  pub blocks : List Block
  pub holds : HoldsBlocks text kind.block_type blocks
  pub shows : map slip (reverse blocks) ≡ b.blocks

-- a bundle has its file, under the name of its base
abbrev pub HasBundleFile : World → Files → Bundle → Type 0
HasBundleFile w files b = IsSomeAnd (file_at (merged_text w.size b.base) files) (λ text. IsSomeAnd w.kind (λ kind. HoldsBundle kind b text))

-- the files of merged blocks of the relay's size are these bundles: each has its file, and there is no other
pub record AreBundleFiles (w : World) (files : Files) (bundles : List Bundle) : Type 0 where
  pub there : (b : Bundle) → Among bundles b → HasBundleFile w files b
  pub only : (name text : List ℕ) → IsTrue (is_in (folder_of_size w.size) name) → file_at name files ≡ Some text → (b : Bundle) × Among bundles b × (name ≡ merged_text w.size b.base)

-- these files are the first bundles of the history, and the stored blocks of the final path are those of the first of these
pub record IsBegun (w : World) (files : Files) : Type 0 where
  pub merged : List Bundle
  pub files_are : AreBundleFiles w files merged
  pub first : IsPrefix merged (bundles_of w.size w.history)
  pub stored : IsFrontStored w
  pub within : IsPrefix stored.front merged

-- then a merge that comes to its end leaves all bundles, and counts their blocks
abbrev pub MergesAll : World → Option Files → Option Files → Merged → Type 0
MergesAll w None now merged = ⊤
MergesAll w (Some files) now merged = IsBegun w files
    → IsSomeAnd now (λ after. AreBundleFiles w after (bundles_of w.size w.history)) × (merged.stored ≡ length (blocks_of (bundles_of w.size w.history)))

-- what the files of a shelf of the relay's size keep of the world, they go on to keep
abbrev pub StaysKept : World → World → Option Files → Option Files → Type 0
StaysKept old new None now = ⊤
StaysKept old new (Some files) now = size_of files ≡ old.size → IsWholeKept files old → IsSomeAnd now (λ after. IsWholeKept after new)
