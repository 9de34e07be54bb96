use Rattle.store_model.proofs.public.StepFacts.{shed_keeps}
use Rattle.store_model.proofs.shed_keeps.Goals as goal

pub returns : goal.returns
returns c = shed_keeps
