-- The lines of a run, as they are printed.
use Rattle.std.specs.Prelude.{ℕ, ◌<◌, ◌^◌, List, [], ◌∷◌, ◌++◌, codes}
use Rattle.std.specs.Fmt.{decimal}
use Rattle.base64.specs.GeneralPurpose.{encode_of, IsBytes}
use Rattle.base64.specs.Engines.{standard}
use Rattle.block_record.specs.declared.blocks.Block.{Block}
use Rattle.block_record.specs.declared.blocks.Kind.{Kind}
use Rattle.block_record.specs.declared.blocks.Version.{Version}
use Rattle.block_record.specs.declared.blocks.Version.TheVariants.{V1, V3}
use Rattle.block_record.specs.Texts.{IsId}

-- the word of a version
abbrev pub version_text : Version → List ℕ
version_text V1 = codes "1.0"
version_text V3 = codes "3.0"

-- the opening line of a run of this kind, with its LF
abbrev pub init_line : Kind → List ℕ
init_line kind = codes "FIRE INIT " ++ version_text kind.version ++ 32 ∷ kind.block_type ++ 10 ∷ []

-- the line of a block, with its LF: its numbers in decimal, and the payload in base64 of the standard alphabet, padded (RFC 4648, section 4)
abbrev pub block_line : Block → List ℕ
block_line b =
    codes "FIRE BLOCK " ++ decimal b.num ++ 32 ∷ b.id ++ 32 ∷ decimal b.parent_num ++ 32 ∷ b.parent_id
    ++ 32 ∷ decimal b.lib_num ++ 32 ∷ decimal b.time ++ 32 ∷ encode_of standard b.payload ++ 10 ∷ []

-- what each block of the code has, and a block of a contract may lack: its ids are ids, its numbers have 64 bits, and its payload is bytes
pub record IsPrintable (b : Block) : Type 0 where
  pub id : IsId b.id
  pub parent_id : IsId b.parent_id
  pub num : b.num < 2 ^ 64
  pub lib_num : b.lib_num < 2 ^ 64
  pub time : b.time < 2 ^ 64
  pub payload : IsBytes b.payload
