use Rattle.one_block.proofs.public.NameFacts.{names_are_read}
use Rattle.one_block.proofs.laws.names_are_read.Goals as goal

pub returns : goal.returns
returns c = names_are_read
