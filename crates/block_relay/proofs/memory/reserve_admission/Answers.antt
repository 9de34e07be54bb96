use Rattle.std.proofs.Common.{arith, ap, length}
use Rattle.relay_model.specs.Worlds.{descendants}
use Rattle.stored_blocks.specs.Stored.{Index}
use Rattle.wait_room.specs.Rooms.{Room}
use Rattle.block_relay.proofs.memory.reserve_admission.Goals as goal

pub returns-clause-ok : goal.returns-clause-ok
returns-clause-ok c =
    let same = ap (λ (r : Room). descendants r.waiting c.args.id.now) c.make_room.ensures.unchanged.room in
    let room = c.in_ok-follow.ensures.ok in
    record {
      history = omega (arith, same, room.follow, room.history);
      spare = omega (arith, same, room.follow, room.spare);
      marks = omega (arith, same, room.follow, c.in_ok-reserve_marks.ensures.ok, c.len.ensures.len, c.stored.ensures, ap (λ (i : Index). i.stored) c.reserve.ensures.same, c.requires, ap length c.make_room.ensures.unchanged.history);
      index_room = omega (arith, same, room.follow, c.in_ok-reserve.ensures.ok);
      conflicts = omega (arith, same, room.follow, c.in_ok-reserve-2.ensures.ok);
      buffers = omega (arith, same, room.follow, c.in_ok-reserve_buffers.ensures.enough);
    }
