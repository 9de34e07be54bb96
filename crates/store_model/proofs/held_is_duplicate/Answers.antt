use Rattle.store_model.proofs.public.HeldFacts.{held_is_duplicate}
use Rattle.store_model.proofs.held_is_duplicate.Goals as goal

pub returns : goal.returns
returns c = held_is_duplicate
