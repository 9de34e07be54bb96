-- What the files of a shelf hold of a reader's own files, and what they keep of a relay's world.
use Rattle.std.specs.Prelude.{ℕ, ◌≡◌, ⊤, IsTrue, List, [], ◌∷◌, codes, Option, None, Some}
use Rattle.std.specs.List.{AllByRecursion}
use Rattle.block_record.specs.declared.blocks.Block.{Block}
use Rattle.outer_world.specs.Files.{Files, file_at, is_in}
use Rattle.one_block.specs.Heads.{HoldsBlocks}
use Rattle.relay_model.specs.Worlds.{World}
use Rattle.store_files.specs.Kept.{IsWholeKept}
use Rattle.block_reader.specs.declared.own.OwnFile.{OwnFile}

-- an own file is one of `one/` that holds a block of its number and id, and nothing else
pub record HoldsOwn (files : Files) (own : OwnFile) : Type 0 where
  pub inside : IsTrue (is_in (codes "one") own.name)
  pub text : List ℕ
  pub block_type : List ℕ
  pub block : Block
  pub there : file_at own.name files ≡ Some text
  pub holds : HoldsBlocks text block_type (block ∷ [])
  pub num : block.num ≡ own.num
  pub id : block.id ≡ own.id

-- each of them is, where the files are told
abbrev pub AreOwn : Option Files → List OwnFile → Type 0
AreOwn None own = ⊤
AreOwn (Some files) own = AllByRecursion (HoldsOwn files) own

-- the files are told, and keep the world with its stored blocks
abbrev pub KeepsTold : Option Files → World → Type 0
KeepsTold None w = ⊥
KeepsTold (Some files) w = IsWholeKept files w
