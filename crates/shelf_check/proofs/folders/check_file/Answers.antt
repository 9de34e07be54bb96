use Rattle.shelf_check.proofs.FolderFacts.{file_read}
use Rattle.shelf_check.proofs.folders.check_file.Goals as goal

pub returns-in-Ok-clause-answer : goal.returns-in-Ok-clause-answer
returns-in-Ok-clause-answer g c =
    file_read c.args.folder (g.S.Shelf.files c.args.shelf.now) c.args.kept.now c.args.name.now c.in_ok-text.text.items c.in-Ok.block_type c.in_ok-text.ensures.text (rw c.as_slice.ensures.value at c.in-Ok.ensures)
