use Rattle.own_laws.proofs.public.AwayFacts.{takes_go_on}
use Rattle.own_laws.proofs.takes_go_on.Goals as goal

pub returns : goal.returns
returns c = takes_go_on
