use Rattle.step_laws.proofs.public.ScratchFacts.{all_are_received}
use Rattle.step_laws.proofs.all_are_received.Goals as goal

pub returns : goal.returns
returns c = all_are_received
