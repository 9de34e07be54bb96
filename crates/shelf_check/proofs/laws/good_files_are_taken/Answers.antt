use Rattle.shelf_check.proofs.LawFacts.{good_files_are_taken}
use Rattle.shelf_check.proofs.laws.good_files_are_taken.Goals as goal

pub returns : goal.returns
returns c = good_files_are_taken
