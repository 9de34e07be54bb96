use Rattle.session_model.proofs.public.Sent.{session_stays}
use Rattle.session_model.proofs.laws.session_stays.Goals as goal

pub returns : goal.returns
returns c = session_stays
