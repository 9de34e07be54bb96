use Rattle.std.proofs.Common.{◌≡◌, ◌≤◌}
use Rattle.block_relay.specs.Chronicle.{world_told}
use Rattle.shelf_load.proofs.AnswerFacts.{IsAt}
use Rattle.shelf_load.proofs.sweeps.sweep_names.Given as goal

abbrev pub invariant-loop-name : goal.invariant-loop-name
invariant-loop-name g l = record {
  here : IsAt (world_told l.relay) (g.S.Shelf.files l.fn.shelf) (g.S.Shelf.files l.shelf) l.names l.name-index l.count;
  below : l.count ≤ l.name-index;
  staged : g.S.Shelf.staged l.shelf ≡ g.S.Shelf.staged l.fn.shelf;
  later : g.S.Shelf.shelf_faults l.fn.shelf ≤ g.S.Shelf.shelf_faults l.shelf;
}
