use Rattle.resume_laws.proofs.Chains.{resumption}
use Rattle.resume_laws.proofs.resumption.Goals as goal

pub returns : goal.returns
returns c = resumption
