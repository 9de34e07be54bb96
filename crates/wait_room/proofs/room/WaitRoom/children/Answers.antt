use Rattle.std.proofs.Common.{sym, ap, ◌∙◌}
use Rattle.wait_room.specs.Rooms.{Room, children_in, slips_of}
use Rattle.wait_room.proofs.CountFacts.{children_turned}
use Rattle.wait_room.proofs.room.WaitRoom.children.Goals as goal

pub returns : goal.returns
returns c =
    c.count_children.ensures ∙ c.self.invariant.6 c.args.id.now ∙ sym (children_turned (slips_of c.self.inside.waiters.keys) c.args.id.now)
    ∙ ap (λ (v : Room). children_in v.waiting c.args.id.now) c.self.view_is
