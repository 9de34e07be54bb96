use Rattle.resume_laws.proofs.Dones.{done_stays}
use Rattle.resume_laws.proofs.done_stays.Goals as goal

pub returns : goal.returns
returns c = done_stays
