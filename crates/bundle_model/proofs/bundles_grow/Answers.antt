use Rattle.bundle_model.proofs.public.BundleFacts.{bundles_grow}
use Rattle.bundle_model.proofs.bundles_grow.Goals as goal

pub returns : goal.returns
returns c = bundles_grow
