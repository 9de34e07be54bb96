use Rattle.std.proofs.Common.{◌≤◌}
use Rattle.bundle_model.specs.Bundles.{finals_up}
use Rattle.stored_blocks.specs.Stored.{front_count, is_given_up}
use Rattle.stored_blocks.proofs.stored.front_from.Given as goal

abbrev pub invariant-loop-index : goal.invariant-loop-index
invariant-loop-index l = l.index ≤ front_count (is_given_up l.db) (finals_up l.db.history)
