use Rattle.bundle_model.proofs.public.MergeFacts.{shed_retains_less}
use Rattle.bundle_model.proofs.shed_retains_less.Goals as goal

pub returns : goal.returns
returns c = shed_retains_less
