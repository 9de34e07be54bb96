use Rattle.std.proofs.Common.{ap, sym, ◌∙◌}
use Rattle.relay_model.specs.Worlds.{room_bytes}
use Rattle.wait_room.specs.Rooms.{Room}
use Rattle.wait_room.proofs.public.RoomFacts.{bytes_turned, fits_by}
use Rattle.wait_room.proofs.room.WaitRoom.fits.Goals as goal

pub returns-then-blocks-self : goal.returns-then-blocks-self
returns-then-blocks-self c =
    fits_by c.args.self.now c.blocks-2.result c.self.inside.blocks_max c.self.inside.bytes c.self.inside.bytes_max c.args.length
    c.blocks-2.ensures.count
    (ap (λ (v : Room). v.most_blocks) c.self.view_is)
    (c.self.invariant.3 ∙ sym (bytes_turned _) ∙ ap (λ (v : Room). room_bytes v.waiting) c.self.view_is)
    (ap (λ (v : Room). v.most_bytes) c.self.view_is)
    c.self.invariant.4
    c.if-blocks-self.true
