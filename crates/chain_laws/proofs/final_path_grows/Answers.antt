use Rattle.chain_laws.proofs.public.Growth.{final_path_grows}
use Rattle.chain_laws.proofs.final_path_grows.Goals as goal

pub returns : goal.returns
returns c = final_path_grows
