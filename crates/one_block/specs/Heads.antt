-- The heads of files, all of one type, and the blocks that a file holds.
use Rattle.std.specs.Prelude.{ℕ, ◌≡◌, List, [], ◌∷◌, reverse, Option, None, Some, ⊤}
use Rattle.block_record.specs.declared.blocks.Block.{Block}
use Rattle.dbin_file.specs.Contents.{contents}
use Rattle.one_block.specs.Containers.{container_fault, empty_place, IsRecordOf}

-- messages and blocks in the same order: each message is the record of the block at its place
abbrev pub AreRecordsOf : List (List ℕ) → List Block → Type 0
AreRecordsOf [] [] = ⊤
AreRecordsOf [] (b ∷ blocks) = ⊥
AreRecordsOf (m ∷ messages) [] = ⊥
AreRecordsOf (m ∷ messages) (b ∷ blocks) = IsRecordOf m b × AreRecordsOf messages blocks

-- messages are the records of these blocks, the newest block first
pub record AreRecords (messages : List (List ℕ)) (blocks : List Block) : Type 0 where
  pub records : AreRecordsOf messages (reverse blocks)

-- a text is a container of this type that holds these blocks, and nothing else
pub record HoldsBlocks (text block_type : List ℕ) (blocks : List Block) : Type 0 where
  pub typed : (contents text).block_type ≡ Some block_type
  pub records : AreRecords (contents text).messages blocks
  pub whole : container_fault text ≡ None

-- a type is that of the files before, if there are any
abbrev pub IsKept : Option (List ℕ) → List ℕ → Type 0
IsKept None block_type = ⊤
IsKept (Some held) block_type = held ≡ block_type

-- the header of a file was read, and its type is that of the files before
pub record HasHead (text : List ℕ) (kept : Option (List ℕ)) (block_type : List ℕ) : Type 0 where
  pub typed : (contents text).block_type ≡ Some block_type
  pub same : IsKept kept block_type

-- the header of a text is bad or cut at this place
pub record IsBadHead (text : List ℕ) (at : ℕ) : Type 0 where
  pub untyped : (contents text).block_type ≡ None
  pub place : at ≡ empty_place text

-- the header of a text was read, and its type is another than that of the files before
pub record HasOtherType (text : List ℕ) (kept : Option (List ℕ)) (held offered : List ℕ) : Type 0 where
  pub typed : (contents text).block_type ≡ Some offered
  pub kept_is : kept ≡ Some held
  pub other : held ≡ offered → ⊥
