use Rattle.std.proofs.Common.{take}
use Rattle.shelf_load.specs.Singling.{IsGrown}
use Rattle.shelf_load.proofs.singles.add_names.Given as goal

abbrev pub invariant-loop-name : goal.invariant-loop-name
invariant-loop-name l = IsGrown (take l.name-index l.names) l.fn.entries.items l.entries.items
