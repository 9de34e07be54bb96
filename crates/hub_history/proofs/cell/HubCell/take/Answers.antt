use Rattle.std.proofs.Common.{rules, sym, ap, ◌∙◌, ◌∷◌, Some}
use Rattle.atomic_table.specs.Table.{rest}
use Rattle.hub_history.proofs.Keeps.{takes_turn}
use Rattle.hub_history.proofs.cell.HubCell.take.Goals as goal

pub load-served-requires : goal.load-served-requires
load-served-requires g c = let i = c.loop.invariant in
    (search rules, search rules, takes_turn g.V.Chronicle.entries_of g.V.Chronicle.marked _ _ c.args.ticket c.loop.seat.me (ap (λ m. m.0.stage) i.1 ∙ c.requires.waits.0))

pub exchange-requires : goal.exchange-requires
exchange-requires g c = let i = c.loop.invariant in
    let did = (c.load-served.ensures.2 c.args.ticket (ap (λ m. m.0.stage) i.1 ∙ c.requires.waits.0)).0 c.if-served-ticket.true in
    let has = did.2 in
    (search rules, (Some did.0, has ∙ ap (λ l. (0, Some did.0) ∷ l) (sym (ap rest has))))
