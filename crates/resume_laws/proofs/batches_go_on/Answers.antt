use Rattle.resume_laws.proofs.Batches.{batches_go_on}
use Rattle.resume_laws.proofs.batches_go_on.Goals as goal

pub returns : goal.returns
returns c = batches_go_on
