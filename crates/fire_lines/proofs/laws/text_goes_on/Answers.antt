use Rattle.fire_lines.proofs.GrowthFacts.{text_goes_on}
use Rattle.fire_lines.proofs.laws.text_goes_on.Goals as goal

pub returns : goal.returns
returns c = text_goes_on
