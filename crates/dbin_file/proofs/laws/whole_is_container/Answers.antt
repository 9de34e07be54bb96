use Rattle.dbin_file.proofs.SpelledFacts.{whole_container}
use Rattle.dbin_file.proofs.laws.whole_is_container.Goals as goal

pub returns : goal.returns
returns c = whole_container
