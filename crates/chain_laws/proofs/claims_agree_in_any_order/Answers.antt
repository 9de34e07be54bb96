use Rattle.chain_laws.proofs.public.Orders.{claims_agree_in_any_order}
use Rattle.chain_laws.proofs.claims_agree_in_any_order.Goals as goal

pub returns : goal.returns
returns c = claims_agree_in_any_order
