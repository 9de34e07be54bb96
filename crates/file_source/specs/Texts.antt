-- What the text of a file has under a block's id.
use Rattle.std.specs.Prelude.{ℕ, ◌≡◌, ◌≢◌, ◌+◌, ◌⊎◌, List, ◌∷◌, ◌++◌, None, Some}
use Rattle.std.specs.List.{AllByRecursion}
use Rattle.block_record.specs.declared.blocks.Block.{Block}
use Rattle.dbin_file.specs.declared.faults.DbinFault.{DbinFault}
use Rattle.dbin_file.specs.Contents.{contents, message_place}
use Rattle.one_block.specs.Containers.{container_fault, fault_place, IsRecordOf, IsNoRecord}

-- a message is the record of a block with another id
pub record IsOfOther (id message : List ℕ) : Type 0 where
  pub block : Block
  pub record_is : IsRecordOf message block
  pub other : block.id ≢ id

-- each of these messages is
abbrev pub AreOfOthers : List ℕ → List (List ℕ) → Type 0
AreOfOthers id messages = AllByRecursion (IsOfOther id) messages

-- the first record under this id is that of this block
pub record IsFirstUnder (text id : List ℕ) (b : Block) : Type 0 where
  pub before : List (List ℕ)
  pub message : List ℕ
  pub after : List (List ℕ)
  pub messages : (contents text).messages ≡ before ++ message ∷ after
  pub others : AreOfOthers id before
  pub record_is : IsRecordOf message b
  pub own : b.id ≡ id

-- a text is a whole container, with no record under this id
pub record HasNoneUnder (text id : List ℕ) : Type 0 where
  pub others : AreOfOthers id (contents text).messages
  pub whole : container_fault text ≡ None

-- after records with other ids stands a message that is no record; the place is that of its first bad field
pub record IsBadRecord (text id : List ℕ) (at : ℕ) : Type 0 where
  pub block_type : List ℕ
  pub typed : (contents text).block_type ≡ Some block_type
  pub before : List (List ℕ)
  pub message : List ℕ
  pub after : List (List ℕ)
  pub messages : (contents text).messages ≡ before ++ message ∷ after
  pub others : AreOfOthers id before
  pub bad : IsNoRecord (message_place block_type before + 4) message at

-- after records with other ids the container is bad, at this place
pub record IsBadEnd (text id : List ℕ) (at : ℕ) : Type 0 where
  pub others : AreOfOthers id (contents text).messages
  pub fault : DbinFault
  pub fault_is : container_fault text ≡ Some fault
  pub at_is : at ≡ fault_place fault

-- a text is bad here, before any record under this id
abbrev pub IsBadBefore : List ℕ → List ℕ → ℕ → Type 0
IsBadBefore text id at = IsBadRecord text id at ⊎ IsBadEnd text id at
