use Rattle.std.proofs.Common.{◌≡◌, ◌≤◌, ◌-◌, ◌^◌}
use Rattle.shelf_check.proofs.BundleFacts.{IsReading}
use Rattle.shelf_check.proofs.bundles.check_bundle.Given as goal

abbrev pub invariant-loop-last : goal.invariant-loop-last
invariant-loop-last g l = record {
  read : IsReading (g.S.Shelf.files l.fn.shelf) l.size l.base l.fn.name l.kept l.fn.tip l.file l.block_type-inside.bytes.items l.last l.blocks;
  files : g.S.Shelf.files l.shelf ≡ g.S.Shelf.files l.fn.shelf;
  staged : g.S.Shelf.staged l.shelf ≡ g.S.Shelf.staged l.fn.shelf;
  later : g.S.Shelf.shelf_faults l.fn.shelf ≤ g.S.Shelf.shelf_faults l.shelf;
}

abbrev pub decreases-loop-last : goal.decreases-loop-last
decreases-loop-last g l = 2 ^ 64 - l.file.passed
