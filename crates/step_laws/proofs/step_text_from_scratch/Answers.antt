use Rattle.step_laws.proofs.public.ScratchFacts.{step_text_from_scratch}
use Rattle.step_laws.proofs.step_text_from_scratch.Goals as goal

pub returns : goal.returns
returns c = step_text_from_scratch
