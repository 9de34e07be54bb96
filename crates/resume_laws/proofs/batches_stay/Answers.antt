use Rattle.resume_laws.proofs.Batches.{batches_stay}
use Rattle.resume_laws.proofs.batches_stay.Goals as goal

pub returns : goal.returns
returns c = batches_stay
