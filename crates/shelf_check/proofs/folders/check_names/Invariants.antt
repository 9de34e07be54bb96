use Rattle.std.proofs.Common.{◌≡◌, ◌≤◌, take}
use Rattle.shelf_check.specs.Folders.{AreRead}
use Rattle.shelf_check.proofs.folders.check_names.Given as goal

abbrev pub invariant-loop-name : goal.invariant-loop-name
invariant-loop-name g l = record {
  read : AreRead l.folder (g.S.Shelf.files l.fn.shelf) l.fn.kept (take l.name-index l.names) l.last;
  files : g.S.Shelf.files l.shelf ≡ g.S.Shelf.files l.fn.shelf;
  staged : g.S.Shelf.staged l.shelf ≡ g.S.Shelf.staged l.fn.shelf;
  later : g.S.Shelf.shelf_faults l.fn.shelf ≤ g.S.Shelf.shelf_faults l.shelf;
}
