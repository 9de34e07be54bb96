use Rattle.chain_laws.proofs.public.Tips.{claims_go_on_to_agree}
use Rattle.chain_laws.proofs.claims_go_on_to_agree.Goals as goal

pub returns : goal.returns
returns c = claims_go_on_to_agree
