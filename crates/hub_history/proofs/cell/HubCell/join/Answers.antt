use Rattle.std.proofs.Common.{rules, sym, ap, ◌∙◌}
use Rattle.hub_history.proofs.Keeps.{joins, learns, second_not}
use Rattle.hub_history.proofs.cell.HubCell.join.Goals as goal

pub join_seat-requires : goal.join_seat-requires
join_seat-requires g c = (
  search rules,
  search rules,
  search rules,
  search rules,
  joins g.V.Chronicle.entries_of g.V.Chronicle.marked _ c.args.pass.now.seat.me.0 _ c.args.other.seat.me.0 c.args.pass.now.idle.0 c.args.other.idle.0,
)

pub load-requires : goal.load-requires
load-requires g c = (search rules, search rules, learns g.V.Chronicle.entries_of g.V.Chronicle.marked _ _ _)

pub returns-clause-one_leads : goal.returns-clause-one_leads
returns-clause-one_leads g c = second_not c.args.pass.now.seat.me.0.leads c.args.other.seat.me.0.leads (sym (ap (λ m. m.0.both_led) c.join_seat.ensures.2) ∙ c.load.ensures.2.3)
