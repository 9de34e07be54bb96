use Rattle.step_cursor.proofs.public.TextFacts.{printed_is_read}
use Rattle.step_cursor.proofs.laws.printed_is_read.Goals as goal

pub returns : goal.returns
returns c = printed_is_read
