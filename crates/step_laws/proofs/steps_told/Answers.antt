use Rattle.step_laws.proofs.TextFacts.{steps_told_lines}
use Rattle.step_laws.proofs.steps_told.Goals as goal

pub returns : goal.returns
returns c = steps_told_lines
