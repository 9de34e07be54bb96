use Rattle.std.proofs.Common.{◌≡◌, length}
use Rattle.stored_blocks.specs.Stored.{HasBegun}
use Rattle.stored_blocks.proofs.stored.StoredBlocks.add_finals.Given as goal

abbrev pub invariant-loop : goal.invariant-loop
invariant-loop l = record {
  begun : HasBegun l.db l.self;
  whole : l.self.seen ≡ length l.db.history;
  finals : l.self.finals ≡ l.counter;
  stored : l.self.stored ≡ l.fn.self.stored;
}
