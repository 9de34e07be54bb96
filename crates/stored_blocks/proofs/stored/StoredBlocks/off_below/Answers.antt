use Rattle.std.proofs.Common.{subst}
use Rattle.stored_blocks.specs.Places.{Rises}
use Rattle.stored_blocks.specs.Stored.{Index}
use Rattle.stored_blocks.proofs.stored.StoredBlocks.off_below.Goals as goal

pub returns-clause-rises : goal.returns-clause-rises
returns-clause-rises c = subst (λ (i : Index). Rises i.off) c.self.view_is c.len.ensures.rises
