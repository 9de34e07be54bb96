use Rattle.std.proofs.Common.{sym, ◌∙◌, ap}
use mathlib.Core.Option.{some, some-injective}
use Rattle.hub_history.proofs.Keeps.{closes, last_finds}
use Rattle.hub_history.proofs.cell.HubCell.close.Goals as goal

pub unreachable-requires : goal.unreachable-requires
unreachable-requires g c =
    let end = c.arrive.ensures.told in
    let x = closes g.V.Chronicle.entries_of g.V.Chronicle.marked _ _ c.arrive.new.seat.id c.arrive.new.seat.me.0 end.0 (ap (λ m. m.0.stage) end.1) c.close_with-closed.ensures.values.2 in
    let same = some-injective _ _ (sym c.take-value.ensures.value ∙ x.1) in
    cc (same, c.in-None.is)

pub returns-clause-value : goal.returns-clause-value
returns-clause-value g c =
    let end = c.arrive.ensures.told in
    (last_finds g.V.Chronicle.entries_of g.V.Chronicle.marked _ _ c.arrive.new.seat.id c.in-Some.ticket c.arrive.new.seat.me.0 c.draw.new.seat.me.0 c.args.pass.seat.me.0 end.0
    c.in-Some-value.value (ap (λ m. m.0.stage) end.1) c.close_with-closed.ensures.values.2 (c.take-value.ensures.value ∙ ap some c.in-Some-value.is) c.in-Some.ensures.told.0 end.2).0

pub returns-clause-marks : goal.returns-clause-marks
returns-clause-marks g c =
    let end = c.arrive.ensures.told in
    (last_finds g.V.Chronicle.entries_of g.V.Chronicle.marked _ _ c.arrive.new.seat.id c.in-Some.ticket c.arrive.new.seat.me.0 c.draw.new.seat.me.0 c.args.pass.seat.me.0 end.0
    c.in-Some-value.value (ap (λ m. m.0.stage) end.1) c.close_with-closed.ensures.values.2 (c.take-value.ensures.value ∙ ap some c.in-Some-value.is) c.in-Some.ensures.told.0 end.2).1
