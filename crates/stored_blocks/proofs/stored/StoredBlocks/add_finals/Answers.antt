use Rattle.std.proofs.Common.{arith, ◌≤◌, length}
use Rattle.stored_blocks.proofs.IndexFacts.{begun_full}
use Rattle.stored_blocks.proofs.stored.StoredBlocks.add_finals.Goals as goal

pub returns : goal.returns
returns c =
    let over : length c.args.db.now.history ≤ c.loop.self.finals = omega (arith, c.loop.invariant.finals, c.loop-test.false, c.len-end.ensures.len) in
    record { index = begun_full c.args.db.now c.loop.self c.loop.invariant.begun c.loop.invariant.whole over; stored = c.loop.invariant.stored }
