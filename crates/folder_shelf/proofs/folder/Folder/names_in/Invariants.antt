use Rattle.folder_shelf.specs.Names.{AreFoundIn}
use Rattle.folder_shelf.proofs.folder.Folder.names_in.Given as goal

abbrev pub invariant-loop-entry : goal.invariant-loop-entry
invariant-loop-entry g l = AreFoundIn l.folder l.names.items
