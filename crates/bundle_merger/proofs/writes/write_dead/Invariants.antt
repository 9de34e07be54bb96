use Rattle.std.proofs.Common.{◌≡◌, ◌≤◌, take}
use Rattle.outer_world.specs.Shelves.{emptied}
use Rattle.bundle_merger.specs.Containers.{blocks_of}
use Rattle.bundle_merger.specs.Writes.{dead_files, told_with_all}
use Rattle.bundle_merger.proofs.writes.write_dead.Given as goal

abbrev pub invariant-loop-block : goal.invariant-loop-block
invariant-loop-block g l = record {
  files : g.S.Shelf.files l.shelf ≡ told_with_all (dead_files l.kind (blocks_of (take l.block-index l.blocks))) (g.S.Shelf.files l.fn.shelf);
  staged : g.S.Shelf.staged l.shelf ≡ emptied (g.S.Shelf.staged l.fn.shelf);
  later : g.S.Shelf.shelf_faults l.fn.shelf ≤ g.S.Shelf.shelf_faults l.shelf;
}
