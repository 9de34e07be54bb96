use Rattle.store_model.proofs.public.StepFacts.{bundle_keeps}
use Rattle.store_model.proofs.bundle_keeps.Goals as goal

pub returns : goal.returns
returns c = bundle_keeps
