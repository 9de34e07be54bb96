-- The table, by computing.
use Rattle.std.proofs.Common.{refl}
use Rattle.block_record.specs.Ids.{same_id}
use Rattle.relay_laws.specs.Tables.{ScratchTable}

pub scratch_by_table : ScratchTable
unfolding same_id
scratch_by_table = record {
  waits_order = refl;
  waits_history = refl;
  late_came = refl;
  late_order = refl;
  late_taken = refl;
  late_tip = refl;
  history_tip = refl;
  late_head = refl;
  history_head = refl;
  late_above = refl;
  history_above = refl;
  twice_order = refl;
  twice_history = refl;
  drops_order = refl;
  drops_history = refl;
}
