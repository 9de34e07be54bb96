use Rattle.bundle_model.proofs.public.DoneFacts.{no_plan_is_all}
use Rattle.bundle_model.proofs.no_plan_is_all.Goals as goal

pub returns : goal.returns
returns c = no_plan_is_all
