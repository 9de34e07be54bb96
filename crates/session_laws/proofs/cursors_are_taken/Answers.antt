use Rattle.session_laws.proofs.Taken.{cursors_are_taken}
use Rattle.session_laws.proofs.cursors_are_taken.Goals as goal

pub returns : goal.returns
returns c = cursors_are_taken c.reads_front.ensures c.printed_is_read.ensures
