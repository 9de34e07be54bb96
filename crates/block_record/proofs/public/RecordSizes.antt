-- How long an id and a record are.
use Rattle.std.proofs.Common.{arith, ◌≡◌, ◌≤◌, ◌&&◌, ℕ, nat_lt, nat_le, true, List, ◌++◌, length}
use Rattle.std.specs.List.{list_all}
use Rattle.std.specs.Int.{w32, to_be_bytes}
use Rattle.std.proofs.lemmas.Bool.{and_parts, leb-true}
use Rattle.std.proofs.lemmas.List.{length-append}
use Rattle.sha2.specs.Sha256.{sha256}
use Rattle.sha2.proofs.Facts256.{length-sha256}
use Rattle.block_record.specs.declared.blocks.Block.{Block}
use Rattle.block_record.specs.Texts.{IsId, is_id_byte}
use Rattle.block_record.specs.Records.{text_from, fields_of, id_text, payload_text, record_text, IsRecordable}

-- an id has at most 128 bytes
id_short : (id : List ℕ) → IsId id → length id ≤ 128
id_short id is =
    let front : (nat_lt 0 (length id) && nat_le (length id) 128) ≡ true = (and_parts (nat_lt 0 (length id) && nat_le (length id) 128) (list_all is_id_byte id) is).0 in
    leb-true (length id) 128 (and_parts (nat_lt 0 (length id)) (nat_le (length id) 128) front).1

-- a record is no longer than a message may be
pub record_small : (b : Block) → IsRecordable b → length (record_text b) ≤ 50_001_024
record_small b is =
    let ids : List ℕ = id_text b.id ++ id_text b.parent_id in
    omega (
      arith,
      id_short b.id is.id,
      id_short b.parent_id is.parent_id,
      b.small,
      length-sha256 b.payload,
      length-append (text_from 2 (fields_of b)) (sha256 b.payload),
      length-append ids (payload_text b.payload),
      length-append (id_text b.id) (id_text b.parent_id),
      length-append (to_be_bytes w32 (length b.payload)) b.payload,
    )
