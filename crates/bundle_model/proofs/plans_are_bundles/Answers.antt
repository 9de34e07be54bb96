use Rattle.bundle_model.proofs.public.MergeFacts.{plans_are_bundles}
use Rattle.bundle_model.proofs.plans_are_bundles.Goals as goal

pub returns : goal.returns
returns c = plans_are_bundles
