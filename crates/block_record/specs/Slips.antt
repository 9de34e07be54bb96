-- The slip of a block, and when two blocks are the same.
use Rattle.std.specs.Prelude.{Bool, length, ◌==◌, ◌&&◌}
use Rattle.std.specs.Str.{bytes_eq}
use Rattle.sha2.specs.Sha256.{sha256}
use Rattle.block_record.specs.Ids.{same_id}
use Rattle.block_record.specs.declared.blocks.Block.{Block}
use Rattle.block_record.specs.declared.blocks.Slip.{Slip}

-- the block with the length and SHA-256 of its payload in place of the payload
abbrev pub slip : Block → Slip
slip b = record {
  num = b.num;
  id = b.id;
  parent_num = b.parent_num;
  parent_id = b.parent_id;
  lib_num = b.lib_num;
  time = b.time;
  length = length b.payload;
  digest = sha256 b.payload;
}

-- whether two slips are equal, so that their blocks are the same
abbrev pub same_slip : Slip → Slip → Bool
same_slip a b = a.num == b.num && same_id a.id b.id && (a.parent_num == b.parent_num) && same_id a.parent_id b.parent_id && (a.lib_num == b.lib_num) && (a.time == b.time) && (a.length == b.length) && bytes_eq a.digest b.digest
