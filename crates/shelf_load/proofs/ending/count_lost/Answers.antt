use Rattle.std.proofs.Common.{arith, ◌||◌}
use Rattle.block_relay.specs.Chronicle.{world_told}
use Rattle.block_relay.specs.Held.{holds_block}
use Rattle.shelf_load.specs.Ending.{is_noted}
use Rattle.shelf_load.proofs.EndingFacts.{lost_more, lost_most}
use Rattle.shelf_load.proofs.ending.count_lost.Goals as goal

pub loop-entry-preserved : goal.loop-entry-preserved
loop-entry-preserved c =
    let w = world_told c.args.relay.now in
    let s = c.entry-item.result.slip in
    record {
      counted = lost_more w c.args.put_by.now c.loop-entry.entry-index c.loop-entry.count c.lost_one-count.result c.entry-item.result c.loop-entry-test.true c.entry-item.is c.loop-entry.invariant.counted c.lost_one-count.ensures;
      below = let one = lost_most w s (holds_block w s || is_noted w.conflicts s) in omega (arith, c.loop-entry.invariant.below, c.lost_one-count.ensures, one);
    }
