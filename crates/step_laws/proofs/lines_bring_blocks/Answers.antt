use Rattle.step_laws.proofs.LineFacts.{lines_bring_blocks}
use Rattle.step_laws.proofs.lines_bring_blocks.Goals as goal

pub returns : goal.returns
returns c = lines_bring_blocks
