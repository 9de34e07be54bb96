use Rattle.std.proofs.Common.{sym, ap, ◌∙◌, ltb}
use Rattle.wait_room.proofs.CountFacts.{any_counted}
use Rattle.wait_room.proofs.room.WaitRoom.has_child.Goals as goal

pub returns : goal.returns
returns c = ap (ltb 0) c.children.ensures ∙ sym (any_counted c.args.self.now.waiting c.args.id.now)
