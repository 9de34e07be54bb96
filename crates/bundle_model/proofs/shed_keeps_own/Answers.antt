use Rattle.bundle_model.proofs.public.MergeFacts.{shed_keeps_own}
use Rattle.bundle_model.proofs.shed_keeps_own.Goals as goal

pub returns : goal.returns
returns c = shed_keeps_own
