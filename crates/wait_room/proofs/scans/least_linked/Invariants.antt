use Rattle.std.proofs.Common.{◌≡◌, ◌<◌, length, take, IfSome}
use Rattle.block_tree.specs.Places.{slip_of}
use Rattle.relay_model.specs.Worlds.{next_waiting}
use Rattle.wait_room.specs.Rooms.{waiting_of}
use Rattle.wait_room.proofs.scans.least_linked.Given as goal

abbrev pub invariant-loop-i : goal.invariant-loop-i
invariant-loop-i g l = record {
  least : slip_of (waiting_of l.waiters) l.best ≡ next_waiting (g.H.Holds.history l.known) (waiting_of (take l.i l.waiters));
  range : IfSome l.best (λ b. b < length l.waiters);
}
