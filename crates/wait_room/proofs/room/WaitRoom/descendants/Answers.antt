use Rattle.std.proofs.Common.{sym, ◌∙◌}
use Rattle.wait_room.proofs.public.RoomFacts.{no_descendants}
use Rattle.wait_room.proofs.room.WaitRoom.descendants.Goals as goal

pub returns-then-not-has_child : goal.returns-then-not-has_child
returns-then-not-has_child c = sym (no_descendants c.args.self.now.waiting c.args.id.now (sym c.has_child.ensures ∙ c.if-not-has_child.true))
