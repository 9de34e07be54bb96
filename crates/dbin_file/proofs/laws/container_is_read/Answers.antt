use Rattle.dbin_file.proofs.LawFacts.{container_read}
use Rattle.dbin_file.proofs.laws.container_is_read.Goals as goal

pub returns : goal.returns
returns c = container_read
