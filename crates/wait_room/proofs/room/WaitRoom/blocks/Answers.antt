use Rattle.std.proofs.Common.{subst}
use Rattle.std.specs.List.{AllZip}
use Rattle.relay_model.specs.Soundness.{IsDistinct}
use Rattle.wait_room.specs.Rooms.{IsOwnSlip, Room}
use Rattle.wait_room.proofs.public.RoomFacts.{distinct_turned, own_slips}
use Rattle.wait_room.proofs.room.WaitRoom.blocks.Goals as goal

pub returns-clause-own : goal.returns-clause-own
returns-clause-own c = subst (λ (v : Room). AllZip IsOwnSlip v.waiting v.held) c.self.view_is (own_slips _ c.self.invariant.1)

pub returns-clause-distinct : goal.returns-clause-distinct
returns-clause-distinct c = subst (λ (v : Room). IsDistinct v.waiting) c.self.view_is (distinct_turned _ c.self.invariant.0)
