use Rattle.bundle_model.proofs.public.BundleFacts.{bundles_are_due}
use Rattle.bundle_model.proofs.bundles_are_due.Goals as goal

pub returns : goal.returns
returns c = bundles_are_due
