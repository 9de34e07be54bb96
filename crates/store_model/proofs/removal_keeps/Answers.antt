use Rattle.store_model.proofs.public.StepFacts.{removal_keeps}
use Rattle.store_model.proofs.removal_keeps.Goals as goal

pub returns : goal.returns
returns c = removal_keeps
