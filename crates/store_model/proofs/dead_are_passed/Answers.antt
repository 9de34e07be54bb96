use Rattle.store_model.proofs.public.StepFacts.{dead_are_passed}
use Rattle.store_model.proofs.dead_are_passed.Goals as goal

pub returns : goal.returns
returns c = dead_are_passed
