use Rattle.std.proofs.Common.{◌≡◌, ◌≤◌, map, take}
use Rattle.block_relay.specs.Chronicle.{world_told}
use Rattle.shelf_load.specs.Asides.{put_seen}
use Rattle.shelf_load.specs.Ending.{lost_count}
use Rattle.shelf_load.proofs.ending.count_lost.Given as goal

abbrev pub invariant-loop-entry : goal.invariant-loop-entry
invariant-loop-entry l = record {
  counted : l.count ≡ lost_count (world_told l.relay) (map put_seen (take l.entry-index l.put_by));
  below : l.count ≤ l.entry-index;
}
