use Rattle.bundle_model.proofs.public.BundleFacts.{finals_are_bundled}
use Rattle.bundle_model.proofs.finals_are_bundled.Goals as goal

pub returns : goal.returns
returns c = finals_are_bundled
