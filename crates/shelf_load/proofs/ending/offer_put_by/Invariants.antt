use Rattle.block_relay.specs.Chronicle.{world_told}
use Rattle.shelf_load.proofs.EndingFacts.{IsRoundAt}
use Rattle.shelf_load.proofs.ending.offer_put_by.Given as goal

abbrev pub invariant-loop-entry : goal.invariant-loop-entry
invariant-loop-entry l = IsRoundAt (world_told l.fn.relay) l.put_by l.entry-index (world_told l.relay)
