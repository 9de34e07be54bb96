use Rattle.block_record.specs.SlipRefs.{slip_seen}
use Rattle.block_relay.specs.Chronicle.{world_told}
use Rattle.shelf_load.proofs.EndingFacts.{late_more}
use Rattle.shelf_load.proofs.ending.store_late.Goals as goal

pub loop-slip-preserved : goal.loop-slip-preserved
loop-slip-preserved c =
    late_more (world_told c.args.relay.now) (world_told c.loop-slip.relay) (world_told c.store.new.self) c.args.late.now c.loop-slip.slip-index c.slip-item.result (slip_seen c.of_slip.result)
    c.loop-slip-test.true c.slip-item.is c.of_slip.ensures c.loop-slip.invariant c.store.ensures.world
