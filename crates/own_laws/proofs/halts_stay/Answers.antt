use Rattle.own_laws.proofs.public.MergeFacts.{halts_stay}
use Rattle.own_laws.proofs.halts_stay.Goals as goal

pub returns : goal.returns
returns c = halts_stay
