use Rattle.own_laws.proofs.public.TakeFacts.{take_stays_away}
use Rattle.own_laws.proofs.take_stays_away.Goals as goal

pub returns : goal.returns
returns c = take_stays_away
