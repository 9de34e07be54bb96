use Rattle.std.proofs.Common.{take}
use Rattle.std.specs.List.{AllByRecursion}
use Rattle.block_record.specs.Records.{IsRecordable}
use Rattle.bundle_merger.specs.Containers.{blocks_of}
use Rattle.bundle_merger.proofs.held.show_all.Given as goal

abbrev pub invariant-loop-block : goal.invariant-loop-block
invariant-loop-block l = AllByRecursion IsRecordable (blocks_of (take l.block-index l.blocks))
