use Rattle.std.proofs.Common.{◌≡◌, ◌≤◌, ◌+◌, ◌-◌, ◌^◌, if◌then◌else◌}
use Rattle.file_reader.specs.Reading.{ReadsOn}
use Rattle.file_reader.proofs.reader.FileReader.fill.Given as goal

abbrev pub invariant-loop-self : goal.invariant-loop-self
invariant-loop-self g l = record {
  read : ReadsOn (g.S.Shelf.files l.fn.shelf) l.fn.self l.self;
  name : l.self.name ≡ l.fn.self.name;
  files : g.S.Shelf.files l.shelf ≡ g.S.Shelf.files l.fn.shelf;
  staged : g.S.Shelf.staged l.shelf ≡ g.S.Shelf.staged l.fn.shelf;
  later : g.S.Shelf.shelf_faults l.fn.shelf ≤ g.S.Shelf.shelf_faults l.shelf;
}

abbrev pub decreases-loop-self : goal.decreases-loop-self
decreases-loop-self g l = if l.self.over then 0 else 1 + (2 ^ 64 - l.self.at)
