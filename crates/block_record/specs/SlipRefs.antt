-- The slip that is seen where it stands.
use Rattle.block_record.specs.declared.blocks.Slip.{Slip}
use Rattle.block_record.specs.declared.slip_refs.SlipRef.{SlipRef}

-- the slip, with its ids and digest as they are borrowed
abbrev pub slip_seen : SlipRef → Slip
slip_seen s = record {
  num = s.num;
  id = s.id.now;
  parent_num = s.parent_num;
  parent_id = s.parent_id.now;
  lib_num = s.lib_num;
  time = s.time;
  length = s.length;
  digest = s.digest.now;
}
