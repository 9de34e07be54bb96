use Rattle.std.proofs.Common.{◌≡◌, ◌-◌, length}
use Rattle.relay_model.specs.Worlds.{descends}
use Rattle.wait_room.proofs.room.WaitRoom.descends.Given as goal

abbrev pub invariant-loop : goal.invariant-loop
invariant-loop l = descends (length l.self.waiting - l.counter) l.self.waiting l.id l.at ≡ descends (length l.self.waiting) l.self.waiting l.id l.slip
