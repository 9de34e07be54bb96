use Rattle.std.proofs.Common.{◌≡◌, ◌≤◌, length, take, filter}
use Rattle.relay_model.specs.Worlds.{descends}
use Rattle.wait_room.specs.Rooms.{waiting_of}
use Rattle.wait_room.proofs.room.WaitRoom.count_descendants.Given as goal

abbrev pub invariant-loop-waiter : goal.invariant-loop-waiter
invariant-loop-waiter l = record {
  count : l.count ≡ length (filter (descends (length l.self.waiting) l.self.waiting l.id) (waiting_of (take l.waiter-index l.waiters)));
  small : l.count ≤ l.waiter-index;
}
