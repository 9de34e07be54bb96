use Rattle.store_model.proofs.public.StepFacts.{offer_stays_kept}
use Rattle.store_model.proofs.offer_stays_kept.Goals as goal

pub returns : goal.returns
returns c = offer_stays_kept
