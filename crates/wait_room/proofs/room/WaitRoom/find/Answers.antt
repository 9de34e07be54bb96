use Rattle.std.proofs.Common.{None, Some, ap, sym, ◌∙◌}
use Rattle.std.specs.Option.{option_copied}
use Rattle.chain_model.specs.Ancestry.{find_id}
use Rattle.wait_room.specs.Rooms.{Room}
use Rattle.wait_room.proofs.public.RoomFacts.{found_slip}
use Rattle.wait_room.proofs.room.WaitRoom.find.Goals as goal

pub returns-in-Some : goal.returns-in-Some
returns-in-Some c =
    found_slip c.self.inside.waiters.keys c.args.id.now (Some c.in-Some.waiter.now) (ap option_copied (sym c.in-Some.is) ∙ c.get.ensures.key) c.self.invariant.0
    ∙ ap (λ (v : Room). find_id v.waiting c.args.id.now) c.self.view_is

pub returns-in-None : goal.returns-in-None
returns-in-None c =
    found_slip c.self.inside.waiters.keys c.args.id.now None (ap option_copied (sym c.in-None.is) ∙ c.get.ensures.key) c.self.invariant.0
    ∙ ap (λ (v : Room). find_id v.waiting c.args.id.now) c.self.view_is
