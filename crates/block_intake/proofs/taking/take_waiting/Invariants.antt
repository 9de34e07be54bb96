use Rattle.std.proofs.Common.{◌≡◌, ◌-◌, length}
use Rattle.relay_model.specs.Offers.{take_in}
use Rattle.block_intake.specs.Taking.{CanTake, KeepsLimits, StaysHeld, intake_of}
use Rattle.wait_room.specs.Rooms.{AreKept, linked_in}
use Rattle.block_intake.proofs.taking.take_waiting.Given as goal

abbrev pub invariant-loop : goal.invariant-loop
invariant-loop l = record {
  linked : l.left ≡ linked_in l.db.history l.room.waiting;
  taken : take_in (length l.fn.room.waiting - l.counter) (intake_of l.db l.room l.drops) ≡ take_in (length l.fn.room.waiting) (intake_of l.fn.db l.fn.room l.fn.drops);
  can : CanTake (intake_of l.db l.room l.drops) l.db.room;
  spare : CanTake (intake_of l.db l.room l.drops) l.drops.spare;
  limits : KeepsLimits l.fn.db l.fn.room l.db l.room;
  held : AreKept l.fn.room → StaysHeld l.fn.db l.db l.room;
}
