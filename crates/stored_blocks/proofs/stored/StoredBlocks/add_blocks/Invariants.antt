use Rattle.std.proofs.Common.{◌≡◌, ◌≤◌, ◌+◌, length}
use Rattle.stored_blocks.specs.Stored.{HasBegun, RestIsOff}
use Rattle.stored_blocks.proofs.stored.StoredBlocks.add_blocks.Given as goal

abbrev pub invariant-loop : goal.invariant-loop
invariant-loop l = record {
  begun : HasBegun l.db l.self;
  rest : RestIsOff l.db l.self;
  room : length l.db.history ≤ l.self.seen + l.self.room;
  seen : l.self.seen ≡ l.counter;
  finals : l.self.finals ≡ l.fn.self.finals;
  stored : l.self.stored ≡ l.fn.self.stored;
}
