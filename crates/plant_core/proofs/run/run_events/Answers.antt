use Rattle.std.proofs.Common.{arith, sym}
use Rattle.std.proofs.lemmas.Result.{err_from_is_err_and}
use Rattle.plant_core.specs.Moments.{moment}
use Rattle.plant_core.proofs.RunFacts.{ends, goes_on, stops}
use Rattle.plant_core.proofs.run.run_events.Goals as goal

pub returns-in_err-run_event-clause-err : goal.returns-in_err-run_event-clause-err
returns-in_err-run_event-clause-err g c =
    let p = err_from_is_err_and c.from_residual.result c.from_residual.ensures.1 in
    rw (p.1, p.2)
    (stops c.args.events.now c.loop-event.event-index c.event-item.result
    (moment c.args.plant (g.S.Shelf.files c.args.shelf.now) (g.S.Shelf.shelf_faults c.args.shelf.now) c.args.out.now.items)
    (moment c.loop-event.plant (g.S.Shelf.files c.loop-event.shelf) (g.S.Shelf.shelf_faults c.loop-event.shelf) c.loop-event.out.items)
    c.run_event.new.self (g.S.Shelf.files c.run_event.new.shelf) (g.S.Shelf.shelf_faults c.run_event.new.shelf) c.run_event.new.out.items c.in_err-run_event.field-0.0
    c.loop-event-test.true c.event-item.is c.loop-event.invariant.run c.in_err-run_event.ensures.err)

pub loop-event-preserved : goal.loop-event-preserved
loop-event-preserved g c = record {
  run = goes_on c.args.events.now c.loop-event.event-index c.event-item.result
      (moment c.args.plant (g.S.Shelf.files c.args.shelf.now) (g.S.Shelf.shelf_faults c.args.shelf.now) c.args.out.now.items)
      (moment c.loop-event.plant (g.S.Shelf.files c.loop-event.shelf) (g.S.Shelf.shelf_faults c.loop-event.shelf) c.loop-event.out.items)
      (moment c.run_event.new.self (g.S.Shelf.files c.run_event.new.shelf) (g.S.Shelf.shelf_faults c.run_event.new.shelf) c.run_event.new.out.items)
      c.loop-event-test.true c.event-item.is c.loop-event.invariant.run c.in_ok-run_event.ensures.ok;
  steady = c.in_ok-run_event.ensures.steady;
  own = c.in_ok-run_event.ensures.own;
  later = omega (arith, c.loop-event.invariant.later, c.in_ok-run_event.ensures.later);
}

pub returns-clause-ok : goal.returns-clause-ok
returns-clause-ok g c =
    ends c.args.events.now c.loop-event.event-index
    (moment c.args.plant (g.S.Shelf.files c.args.shelf.now) (g.S.Shelf.shelf_faults c.args.shelf.now) c.args.out.now.items)
    c.loop-event.plant (g.S.Shelf.files c.loop-event.shelf) (g.S.Shelf.shelf_faults c.loop-event.shelf) c.loop-event.out.items _
    (omega (arith, c.loop-event.auto.event-index-end, c.loop-event-test.false)) (sym c.into_relay.ensures) c.loop-event.invariant.run
