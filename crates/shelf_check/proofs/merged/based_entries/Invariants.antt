use Rattle.std.proofs.Common.{take}
use Rattle.shelf_check.specs.Merged.{AreBased}
use Rattle.shelf_check.proofs.merged.based_entries.Given as goal

abbrev pub invariant-loop-name : goal.invariant-loop-name
invariant-loop-name l = AreBased l.size (take l.name-index l.names) l.entries.items
