use Rattle.dbin_file.proofs.MessageFacts.{part_empty}
use Rattle.dbin_file.proofs.reader.DbinReader.stop.Goals as goal

pub invariant_of-self : goal.invariant_of-self
invariant_of-self c = part_empty _ _ c.clear.ensures.items
