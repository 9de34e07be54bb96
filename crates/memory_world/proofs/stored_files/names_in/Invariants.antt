use Rattle.std.proofs.Common.{◌≡◌, ◌++◌}
use Rattle.outer_world.specs.Files.{names_in}
use Rattle.memory_world.proofs.stored_files.names_in.Given as goal

abbrev pub invariant-loop-name : goal.invariant-loop-name
invariant-loop-name l = l.names.items ++ names_in l.folder l.name-iterator ≡ names_in l.folder l.files.entries
