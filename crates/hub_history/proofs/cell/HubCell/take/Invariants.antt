use Rattle.std.proofs.Common.{◌≡◌}
use Rattle.hub_history.specs.Tells.{IsSameSeat}
use Rattle.hub_history.proofs.cell.HubCell.take.Given as goal

abbrev pub invariant-loop : goal.invariant-loop
invariant-loop g l = IsSameSeat l.initial.seat l.seat × (l.seat.me ≡ l.initial.seat.me)
