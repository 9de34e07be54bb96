use Rattle.session_model.proofs.public.Sent.{session_begins}
use Rattle.session_model.proofs.laws.session_begins.Goals as goal

pub returns : goal.returns
returns c = session_begins
