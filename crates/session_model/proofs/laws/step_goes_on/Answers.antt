use Rattle.session_model.proofs.public.Sent.{step_goes_on}
use Rattle.session_model.proofs.laws.step_goes_on.Goals as goal

pub returns : goal.returns
returns c = step_goes_on
