use Rattle.std.proofs.Common.{◌≡◌, ◌+◌, drop}
use Rattle.relay_model.specs.Worlds.{room_bytes}
use Rattle.wait_room.specs.Rooms.{slips_of}
use Rattle.wait_room.proofs.scans.bytes_of.Given as goal

abbrev pub invariant-loop-waiter : goal.invariant-loop-waiter
invariant-loop-waiter l = l.bytes + room_bytes (slips_of (drop l.waiter-index l.waiters)) ≡ room_bytes (slips_of l.waiters)
