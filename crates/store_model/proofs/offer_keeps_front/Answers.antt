use Rattle.store_model.proofs.public.FrontFacts.{offer_keeps_front}
use Rattle.store_model.proofs.offer_keeps_front.Goals as goal

pub returns : goal.returns
returns c = offer_keeps_front
