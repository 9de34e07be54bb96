use Rattle.step_laws.proofs.public.ScratchFacts.{steps_from_scratch}
use Rattle.step_laws.proofs.steps_from_scratch.Goals as goal

pub returns : goal.returns
returns c = steps_from_scratch
