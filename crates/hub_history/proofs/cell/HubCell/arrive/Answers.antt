use Rattle.std.proofs.Common.{rules, ap, ◌∙◌}
use Rattle.hub_history.proofs.Keeps.{arrives}
use Rattle.hub_history.proofs.cell.HubCell.arrive.Goals as goal

pub load-reached-requires : goal.load-reached-requires
load-reached-requires g c = let i = c.loop.invariant in
    (search rules, search rules, arrives g.V.Chronicle.entries_of g.V.Chronicle.marked _ _ c.args.ticket c.loop.seat.me (ap (λ m. m.0.stage) i.1 ∙ c.requires.waits.0))
