use Rattle.store_model.proofs.public.FrontFacts.{offer_keeps_own}
use Rattle.store_model.proofs.offer_keeps_own.Goals as goal

pub returns : goal.returns
returns c = offer_keeps_own
