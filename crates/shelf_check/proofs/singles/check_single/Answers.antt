use Rattle.std.proofs.Common.{sym, ◌∙◌}
use Rattle.shelf_check.proofs.FolderFacts.{single_taken}
use Rattle.shelf_check.proofs.singles.check_single.Goals as goal

pub returns-in_ok-read-in-Some : goal.returns-in_ok-read-in-Some
returns-in_ok-read-in-Some c =
    single_taken c.args.folder c.args.name.now c.args.text.now c.args.kept.now c.in-Some.form c.in_ok-read-in-Some.read (sym c.in_ok-form.ensures ∙ c.in-Some.is) c.in_ok-read-in-Some.ensures
