use Rattle.resume_laws.proofs.Chains.{chain_goes_on}
use Rattle.resume_laws.proofs.chain_goes_on.Goals as goal

pub returns : goal.returns
returns c = chain_goes_on
