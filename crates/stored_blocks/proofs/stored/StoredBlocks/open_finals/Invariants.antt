use Rattle.std.proofs.Common.{◌≡◌, ◌++◌, drop, map}
use Rattle.std.specs.Arc.{arc_value}
use Rattle.std.specs.Option.{option_map}
use Rattle.block_record.specs.Slips.{slip as slip_of_block}
use Rattle.bundle_model.specs.Bundles.{finals_up}
use Rattle.stored_blocks.specs.BundlePlans.{open_until}
use Rattle.stored_blocks.specs.Stored.{is_given_up}
use Rattle.stored_blocks.proofs.stored.StoredBlocks.open_finals.Given as goal

abbrev pub invariant-loop-index : goal.invariant-loop-index
invariant-loop-index l = option_map (λ xs. map (λ b. slip_of_block (arc_value b)) l.blocks.items ++ xs) (open_until (is_given_up l.db) l.end (drop l.index (finals_up l.db.history)))
    ≡ open_until (is_given_up l.db) l.end (drop l.self.front (finals_up l.db.history))
