use Rattle.std.proofs.Common.{sym, ◌∙◌}
use Rattle.wait_room.proofs.public.LinkedFacts.{only_next}
use Rattle.wait_room.proofs.scans.only_linked.Goals as goal

pub returns-clause-least : goal.returns-clause-least
returns-clause-least g c =
    c.slip_in.ensures
    ∙ only_next (g.H.Holds.history c.args.known.now) c.args.waiters.now c.args.at c.slip_in.result.now c.slip_in.ensures (sym c.holds.ensures ∙ c.if-not-holds.false) c.requires.one
