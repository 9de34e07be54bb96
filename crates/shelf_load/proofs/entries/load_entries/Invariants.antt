use Rattle.std.proofs.Common.{◌≡◌, ◌≤◌}
use Rattle.block_relay.specs.Chronicle.{world_told}
use Rattle.shelf_load.specs.Taking.{stage}
use Rattle.shelf_load.proofs.FilesFacts.{IsThrough}
use Rattle.shelf_load.proofs.entries.load_entries.Given as goal

abbrev pub invariant-loop-entry : goal.invariant-loop-entry
invariant-loop-entry g l = record {
  read : IsThrough l.content (g.S.Shelf.files l.fn.shelf) l.entries l.entry-index (stage (world_told l.fn.relay) l.fn.left) (stage (world_told l.relay) l.left);
  files : g.S.Shelf.files l.shelf ≡ g.S.Shelf.files l.fn.shelf;
  staged : g.S.Shelf.staged l.shelf ≡ g.S.Shelf.staged l.fn.shelf;
  later : g.S.Shelf.shelf_faults l.fn.shelf ≤ g.S.Shelf.shelf_faults l.shelf;
}
