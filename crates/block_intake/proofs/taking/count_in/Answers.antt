use Rattle.std.proofs.Common.{arith, ◌≤◌, length}
use Rattle.relay_model.specs.Worlds.{descendants, descends}
use Rattle.wait_room.proofs.public.RoomFacts.{length_filtered}
use Rattle.block_intake.proofs.taking.count_in.Goals as goal

pub returns-clause-small : goal.returns-clause-small
returns-clause-small c =
    let room = c.args.room.now.waiting in
    let most : descendants room c.args.id.now ≤ length room = length_filtered (descends (length room) room c.args.id.now) room in
    omega (arith, most, c.in_ok-count.ensures, c.blocks-2.ensures.count, c.blocks-2.ensures.small)
