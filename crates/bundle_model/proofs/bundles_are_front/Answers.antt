use Rattle.bundle_model.proofs.public.BundleFacts.{bundles_are_front}
use Rattle.bundle_model.proofs.bundles_are_front.Goals as goal

pub returns : goal.returns
returns c = bundles_are_front
