use Rattle.std.proofs.Common.{arith, ◌≡◌, ◌≤◌, length, sym, ◌∙◌}
use Rattle.relay_model.specs.Worlds.{descendants, descends}
use Rattle.wait_room.proofs.public.RoomFacts.{length_filtered, no_descendants}
use Rattle.block_intake.proofs.taking.most_in.Goals as goal

pub returns-then-has_child-clause-most : goal.returns-then-has_child-clause-most
returns-then-has_child-clause-most c =
    let room = c.args.room.now.waiting in
    let most : descendants room c.args.id.now ≤ length room = length_filtered (descends (length room) room c.args.id.now) room in
    omega (arith, most, c.blocks-waiting.ensures.count)

pub returns-else-has_child-clause-most : goal.returns-else-has_child-clause-most
returns-else-has_child-clause-most c =
    let none : descendants c.args.room.now.waiting c.args.id.now ≡ 0 = no_descendants c.args.room.now.waiting c.args.id.now (sym c.has_child.ensures ∙ c.if-has_child.false) in
    omega (arith, none)
