use Rattle.std.proofs.Common.{◌≡◌, ◌≤◌, ◌+◌, List}
use Rattle.bundle_model.specs.Retained.{retained}
use Rattle.block_relay.specs.Chronicle.{world_told}
use Rattle.stored_blocks.specs.declared.plans.BundlePlan.{BundlePlan}
use Rattle.bundle_merger.specs.Merging.{AddsStored, HasMerged, bundle_count, plans_seen}
use Rattle.bundle_merger.proofs.merging.merge_owned.Given as goal

abbrev pub invariant-loop-plan : goal.invariant-loop-plan
invariant-loop-plan g l = record {
  merged : (plans : List BundlePlan) × HasMerged (world_told l.fn.relay) (world_told l.relay) (g.S.Shelf.files l.fn.shelf) (g.S.Shelf.files l.shelf) plans × (l.bundles ≡ bundle_count (plans_seen plans));
  entries : AddsStored l.fn.relay.entries l.relay.entries;
  conflicts : l.relay.conflicts ≡ l.fn.relay.conflicts;
  later : g.S.Shelf.shelf_faults l.fn.shelf ≤ g.S.Shelf.shelf_faults l.shelf;
  room : l.bundles + retained (world_told l.relay) ≤ retained (world_told l.fn.relay);
}

abbrev pub decreases-loop-plan : goal.decreases-loop-plan
decreases-loop-plan g l = retained (world_told l.relay)
