use Rattle.own_laws.proofs.public.AwayFacts.{others_stay}
use Rattle.own_laws.proofs.others_stay.Goals as goal

pub returns : goal.returns
returns c = others_stay
