use Rattle.own_laws.proofs.public.AwayFacts.{nothing_stays_away}
use Rattle.own_laws.proofs.nothing_stays_away.Goals as goal

pub returns : goal.returns
returns c = nothing_stays_away
