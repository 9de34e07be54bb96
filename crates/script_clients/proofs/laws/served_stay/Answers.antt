use Rattle.script_clients.proofs.ClientFacts.{served_stay}
use Rattle.script_clients.proofs.laws.served_stay.Goals as goal

pub returns : goal.returns
returns c = served_stay
