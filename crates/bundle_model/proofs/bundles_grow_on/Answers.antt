use Rattle.bundle_model.proofs.public.BundleFacts.{bundles_grow_on}
use Rattle.bundle_model.proofs.bundles_grow_on.Goals as goal

pub returns : goal.returns
returns c = bundles_grow_on
