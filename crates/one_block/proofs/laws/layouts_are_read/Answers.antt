use Rattle.one_block.proofs.public.LayoutFacts.{layouts_are_read}
use Rattle.one_block.proofs.laws.layouts_are_read.Goals as goal

pub returns : goal.returns
returns c = layouts_are_read
