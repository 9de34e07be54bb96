use Rattle.store_model.proofs.public.StepFacts.{sweep_keeps}
use Rattle.store_model.proofs.sweep_keeps.Goals as goal

pub returns : goal.returns
returns c = sweep_keeps
