use Rattle.std.proofs.Common.{◌≡◌, ◌≤◌, ◌-◌, ◌^◌}
use Rattle.block_relay.specs.Chronicle.{world_told}
use Rattle.shelf_load.specs.Taking.{stage}
use Rattle.shelf_load.proofs.ReadingFacts.{IsReading}
use Rattle.shelf_load.proofs.merged.load_bundle.Given as goal

abbrev pub invariant-loop-file : goal.invariant-loop-file
invariant-loop-file g l = record {
  read : IsReading (g.S.Shelf.files l.fn.shelf) l.fn.name (stage (world_told l.fn.relay) l.fn.left) (stage (world_told l.relay) l.left) l.file l.some;
  files : g.S.Shelf.files l.shelf ≡ g.S.Shelf.files l.fn.shelf;
  staged : g.S.Shelf.staged l.shelf ≡ g.S.Shelf.staged l.fn.shelf;
  later : g.S.Shelf.shelf_faults l.fn.shelf ≤ g.S.Shelf.shelf_faults l.shelf;
}

abbrev pub decreases-loop-file : goal.decreases-loop-file
decreases-loop-file g l = 2 ^ 64 - l.file.passed
