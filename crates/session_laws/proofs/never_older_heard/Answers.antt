use Rattle.session_laws.proofs.Chains.{never_older_heard}
use Rattle.session_laws.proofs.never_older_heard.Goals as goal

pub returns : goal.returns
returns c = never_older_heard c.read_is_received.ensures c.reads_front.ensures c.never_older.ensures
