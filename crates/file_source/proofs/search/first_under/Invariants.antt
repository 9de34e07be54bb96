use Rattle.std.proofs.Common.{◌≡◌, ◌≤◌, ◌-◌, ◌^◌}
use Rattle.file_source.proofs.SearchFacts.{HasSearched}
use Rattle.file_source.proofs.search.first_under.Given as goal

abbrev pub invariant-loop-block : goal.invariant-loop-block
invariant-loop-block g l = record {
  searched : HasSearched (g.S.Shelf.files l.fn.shelf) l.file l.fn.id;
  name : l.file.name ≡ l.fn.file.name;
  files : g.S.Shelf.files l.shelf ≡ g.S.Shelf.files l.fn.shelf;
  staged : g.S.Shelf.staged l.shelf ≡ g.S.Shelf.staged l.fn.shelf;
  later : g.S.Shelf.shelf_faults l.fn.shelf ≤ g.S.Shelf.shelf_faults l.shelf;
}

abbrev pub decreases-loop-block : goal.decreases-loop-block
decreases-loop-block g l = 2 ^ 64 - l.file.passed
