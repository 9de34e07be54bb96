use Rattle.bundle_model.proofs.public.RetainedFacts.{own_plans_retain}
use Rattle.bundle_model.proofs.own_plans_retain.Goals as goal

pub returns : goal.returns
returns c = own_plans_retain
