use Rattle.std.proofs.Common.{◌≤◌, take}
use Rattle.plant_core.specs.Moments.{AllOwn, IsSteady, moment}
use Rattle.plant_core.specs.Runs.{IsRun}
use Rattle.plant_core.proofs.run.run_events.Given as goal

abbrev pub invariant-loop-event : goal.invariant-loop-event
invariant-loop-event g l = record {
  run : IsRun (take l.event-index l.events) (moment l.fn.plant (g.S.Shelf.files l.fn.shelf) (g.S.Shelf.shelf_faults l.fn.shelf) l.fn.out.items)
      (moment l.plant (g.S.Shelf.files l.shelf) (g.S.Shelf.shelf_faults l.shelf) l.out.items);
  steady : IsSteady l.plant;
  own : AllOwn (g.S.Shelf.files l.shelf) l.plant.readers;
  later : g.S.Shelf.shelf_faults l.fn.shelf ≤ g.S.Shelf.shelf_faults l.shelf;
}
