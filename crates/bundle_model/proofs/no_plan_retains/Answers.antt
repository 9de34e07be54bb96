use Rattle.bundle_model.proofs.public.RetainedFacts.{no_plan_retains}
use Rattle.bundle_model.proofs.no_plan_retains.Goals as goal

pub returns : goal.returns
returns c = no_plan_retains
