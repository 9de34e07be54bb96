use Rattle.session_laws.proofs.Chains.{resumption_heard}
use Rattle.session_laws.proofs.resumption_heard.Goals as goal

pub returns : goal.returns
returns c = resumption_heard c.read_is_received.ensures c.reads_front.ensures c.resumption.ensures
