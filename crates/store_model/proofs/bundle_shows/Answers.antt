use Rattle.store_model.proofs.public.StepFacts.{bundle_shows}
use Rattle.store_model.proofs.bundle_shows.Goals as goal

pub returns : goal.returns
returns c = bundle_shows
