use Rattle.store_model.proofs.public.StepFacts.{note_stays_kept}
use Rattle.store_model.proofs.note_stays_kept.Goals as goal

pub returns : goal.returns
returns c = note_stays_kept
