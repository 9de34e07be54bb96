use Rattle.store_model.proofs.public.FrontFacts.{settled_by}
use Rattle.store_model.proofs.settled_by.Goals as goal

pub returns : goal.returns
returns c = settled_by
