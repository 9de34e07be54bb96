use Rattle.std.proofs.Common.{◌≡◌, take}
use Rattle.block_relay.specs.Chronicle.{world_told}
use Rattle.shelf_load.proofs.EndingFacts.{with_late}
use Rattle.shelf_load.proofs.ending.store_late.Given as goal

abbrev pub invariant-loop-slip : goal.invariant-loop-slip
invariant-loop-slip l = world_told l.relay ≡ with_late (world_told l.fn.relay) (take l.slip-index l.late)
