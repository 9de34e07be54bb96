-- The tables, by computing.
use Rattle.std.proofs.Common.{refl}
use Rattle.block_record.specs.Ids.{same_id}
use Rattle.relay_model.specs.Tables.{OfferTable, LookTable, OrderTable}

pub offers_by_table : OfferTable
unfolding same_id
offers_by_table = record {
  finality = refl;
  parent = refl;
  repeated = refl;
  waits = refl;
  waited = refl;
  skipped = refl;
  room = refl;
  full = refl;
  early = refl;
  drops = refl;
  above = refl;
  cycle = refl;
  over = refl;
  others = refl;
  stays = refl;
  shut = refl;
  bytes = refl;
  drops_two = refl;
  root_kind = refl;
  beside_root = refl;
  entries = refl;
}

pub looks_by_table : LookTable
unfolding same_id
looks_by_table = record {
  unknown = refl;
  unknown_block = refl;
  lib = refl;
  shape = refl;
  block_number = refl;
  end_number = refl;
  undo = refl;
  undo_apart = refl;
  ahead = refl;
  ahead_closed = refl;
  seen = refl;
  goes_on = refl;
  stop_below = refl;
  opens = refl;
  done = refl;
  idle = refl;
  closing = refl;
  empty = refl;
  empty_closed = refl;
  unknown_end = refl;
  block_before_end = refl;
  end_before_lib = refl;
  lib_before_step = refl;
  step_before_seen = refl;
}

pub orders_by_table : OrderTable
unfolding same_id
orders_by_table = record {
  waits = refl;
  first = refl;
  alone = refl;
  by_number = refl;
  numbers = refl;
  repeats = refl;
  branches = refl;
  waits_on = refl;
  waits_above = refl;
  opened = refl;
}
