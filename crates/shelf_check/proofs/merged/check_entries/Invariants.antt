use Rattle.std.proofs.Common.{◌≡◌, ◌≤◌, take}
use Rattle.shelf_check.specs.Merged.{AreRead}
use Rattle.shelf_check.proofs.merged.check_entries.Given as goal

abbrev pub invariant-loop-entry : goal.invariant-loop-entry
invariant-loop-entry g l = record {
  read : AreRead l.size (g.S.Shelf.files l.fn.shelf) (take l.entry-index l.entries) l.read;
  files : g.S.Shelf.files l.shelf ≡ g.S.Shelf.files l.fn.shelf;
  staged : g.S.Shelf.staged l.shelf ≡ g.S.Shelf.staged l.fn.shelf;
  later : g.S.Shelf.shelf_faults l.fn.shelf ≤ g.S.Shelf.shelf_faults l.shelf;
}
