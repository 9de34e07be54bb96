use Rattle.std.proofs.Common.{ap, sym, ◌∙◌}
use Rattle.relay_model.specs.Worlds.{room_bytes}
use Rattle.wait_room.specs.Rooms.{Room}
use Rattle.wait_room.proofs.public.RoomFacts.{bytes_turned}
use Rattle.wait_room.proofs.room.WaitRoom.bytes.Goals as goal

pub returns-clause-bytes : goal.returns-clause-bytes
returns-clause-bytes c = c.self.invariant.3 ∙ sym (bytes_turned _) ∙ ap (λ (v : Room). room_bytes v.waiting) c.self.view_is
