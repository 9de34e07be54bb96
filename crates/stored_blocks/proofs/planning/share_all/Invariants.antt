use Rattle.std.proofs.Common.{◌≡◌, Some, take, map}
use Rattle.block_record.specs.Slips.{slip as slip_of_block}
use Rattle.block_tree.specs.Places.{slip_at}
use Rattle.std.specs.Arc.{arc_value}
use Rattle.stored_blocks.proofs.planning.share_all.Given as goal

abbrev pub invariant-loop-at : goal.invariant-loop-at
invariant-loop-at l = map Some (map (λ b. slip_of_block (arc_value b)) l.blocks.items) ≡ map (slip_at l.db.history) (take l.at-index l.places)
