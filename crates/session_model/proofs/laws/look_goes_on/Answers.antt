use Rattle.session_model.proofs.public.Sent.{look_goes_on}
use Rattle.session_model.proofs.laws.look_goes_on.Goals as goal

pub returns : goal.returns
returns c = look_goes_on
