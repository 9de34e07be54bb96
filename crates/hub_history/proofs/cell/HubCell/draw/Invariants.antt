use Rattle.std.proofs.Common.{◌≡◌, ◌^◌, ◌<◌}
use Rattle.hub_history.specs.Tells.{IsSameSeat}
use Rattle.hub_history.proofs.cell.HubCell.draw.Given as goal

abbrev pub invariant-loop : goal.invariant-loop
invariant-loop g l = (l.guess < 2 ^ 62) × IsSameSeat l.initial.seat l.seat × (l.seat.me ≡ l.initial.seat.me)
