use Rattle.fire_lines.proofs.PrintFacts.{printed_is_read}
use Rattle.fire_lines.proofs.laws.printed_is_read.Goals as goal

pub returns : goal.returns
returns c = printed_is_read
