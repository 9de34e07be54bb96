use Rattle.dbin_file.proofs.SpelledFacts.{read_spelled}
use Rattle.dbin_file.proofs.laws.read_is_spelled.Goals as goal

pub returns : goal.returns
returns c = read_spelled
