-- Files of merged blocks: each block the child of the one before it, over all of them.
use Rattle.std.specs.Prelude.{ℕ, ◌≡◌, ◌+◌, ◌-◌, ◌%◌, ◌==◌, ◌&&◌, ◌||◌, ◌⊎◌, nat_lt, Bool, true, IsTrue, IsFalse, List, [], ◌∷◌, ◌++◌, length, Option, None, Some, ⊤}
use Rattle.std.specs.Option.{is_some}
use Rattle.block_record.specs.Ids.{same_id}
use Rattle.block_record.specs.declared.blocks.Block.{Block}
use Rattle.block_record.specs.declared.blocks.BlockRef.{BlockRef}
use Rattle.dbin_file.specs.Contents.{contents, told}
use Rattle.one_block.specs.Containers.{container_fault, empty_place, record_place, IsRecordOf, IsNoRecord}
use Rattle.shelf_check.specs.declared.bundles.BundleRead.{BundleRead}
use Rattle.one_block.specs.declared.file_faults.FileFault.{FileFault}
use Rattle.one_block.specs.declared.file_faults.FileFault.TheVariants.{Bad, OtherType, Mem}
use Rattle.one_block.specs.Heads.{AreRecords, HoldsBlocks, HasHead, IsKept, IsBadHead, HasOtherType}

-- the base of the file of this size in which a number lies
abbrev pub bundle_base : ℕ → ℕ → ℕ
bundle_base size num = num - num % size

-- whether a block is the child of the one before it, by number and id, with a greater number
abbrev pub is_child : BlockRef → Block → Bool
is_child before b = nat_lt before.num b.num && (b.parent_num == before.num) && same_id b.parent_id before.id

-- whether a block is the child of the one before it, if there is one
abbrev pub continues : Option BlockRef → Block → Bool
continues None b = true
continues (Some before) b = is_child before b

-- whether a block may stand in the file of this base, after this block
abbrev pub is_next : ℕ → ℕ → Option BlockRef → Block → Bool
is_next size base before b = (bundle_base size b.num == base) && continues before b

-- a block by number and id
abbrev pub block_ref : Block → BlockRef
block_ref b = record { num = b.num; id = b.id }

-- the last block, where these blocks, the newest first, follow that one
abbrev pub tip_after : Option BlockRef → List Block → Option BlockRef
tip_after before [] = before
tip_after before (b ∷ older) = Some (block_ref b)

-- each of these blocks, the newest first, may stand in the file of this base after the one before it
abbrev pub AreNext : ℕ → ℕ → Option BlockRef → List Block → Type 0
AreNext size base before [] = ⊤
AreNext size base before (b ∷ older) = IsTrue (is_next size base (tip_after before older) b) × AreNext size base before older

-- the file of this base holds these blocks, the newest first, and obeys the rule after the files before it
pub record IsBundle (size base : ℕ) (text : List ℕ) (kept : Option (List ℕ)) (before : Option BlockRef) (block_type : List ℕ) (blocks : List Block) : Type 0 where
  pub holds : HoldsBlocks text block_type blocks
  pub some : IsTrue (nat_lt 0 (length blocks))
  pub same : IsKept kept block_type
  pub next : AreNext size base before blocks

-- the place of the message after these, of which the first stands at this place: each has the 4 bytes of a length before it
abbrev pub place_after : ℕ → List (List ℕ) → ℕ
place_after first [] = first
place_after first (m ∷ messages) = place_after (first + (length m + 4)) messages

-- a message that stands at this place is the record of a block that may not come next
pub record IsNotNext (size base : ℕ) (before : Option BlockRef) (place : ℕ) (message : List ℕ) (at : ℕ) : Type 0 where
  pub block : Block
  pub record_is : IsRecordOf message block
  pub not_next : IsFalse (is_next size base before block)
  pub at_is : at ≡ told place

-- the first messages are records of blocks that may come next, and the one after them is not
pub record IsBadMessage (size base first : ℕ) (messages : List (List ℕ)) (before : Option BlockRef) (at : ℕ) : Type 0 where
  pub blocks : List Block
  pub front : List (List ℕ)
  pub message : List ℕ
  pub more : List (List ℕ)
  pub messages_are : messages ≡ front ++ message ∷ more
  pub records : AreRecords front blocks
  pub next : AreNext size base before blocks
  pub bad : IsNoRecord (place_after first front) message at ⊎ IsNotNext size base (tip_after before blocks) (place_after first front) message at

-- all messages are records of blocks that may come next, and there is none, or the container does not end after them
pub record IsBadEnd (size base : ℕ) (text : List ℕ) (before : Option BlockRef) (at : ℕ) : Type 0 where
  pub blocks : List Block
  pub records : AreRecords (contents text).messages blocks
  pub next : AreNext size base before blocks
  pub ends : IsTrue ((length blocks == 0) || is_some (container_fault text))
  pub place : at ≡ empty_place text

-- the header was read, and what follows it is bad first at this place
pub record IsBadBody (size base : ℕ) (text : List ℕ) (kept : Option (List ℕ)) (before : Option BlockRef) (at : ℕ) : Type 0 where
  pub block_type : List ℕ
  pub head : HasHead text kept block_type
  pub body : IsBadMessage size base (record_place text) (contents text).messages before at ⊎ IsBadEnd size base text before at

-- why the file of this base is refused: its first fault, or another type
abbrev pub BundleRefused : ℕ → ℕ → List ℕ → Option (List ℕ) → Option BlockRef → FileFault → Type 0
BundleRefused size base text kept before (Bad at) = IsBadHead text at ⊎ IsBadBody size base text kept before at
BundleRefused size base text kept before (OtherType held offered) = HasOtherType text kept held offered
BundleRefused size base text kept before Mem = ⊤

-- what was read of the file of this base: its blocks, of which the last and the number are told
pub record IsBundleRead (size base : ℕ) (text : List ℕ) (kept : Option (List ℕ)) (before : Option BlockRef) (x : BundleRead) : Type 0 where
  pub blocks : List Block
  pub bundle : IsBundle size base text kept before x.block_type blocks
  pub tip : Some x.tip ≡ tip_after before blocks
  pub count : x.blocks ≡ length blocks
