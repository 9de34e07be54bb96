use Rattle.script_clients.proofs.ClientFacts.{are_map}
use Rattle.script_clients.proofs.laws.clients_are_map.Goals as goal

pub returns : goal.returns
returns c = are_map
