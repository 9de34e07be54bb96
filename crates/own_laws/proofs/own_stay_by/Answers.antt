use Rattle.own_laws.proofs.public.AwayFacts.{own_stay_by}
use Rattle.own_laws.proofs.own_stay_by.Goals as goal

pub returns : goal.returns
returns c = own_stay_by
