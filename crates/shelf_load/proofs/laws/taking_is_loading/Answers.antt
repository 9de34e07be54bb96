use Rattle.shelf_load.proofs.LawFacts.{taking_is_loading as law}
use Rattle.shelf_load.proofs.laws.taking_is_loading.Goals as goal

pub returns : goal.returns
returns c = law
