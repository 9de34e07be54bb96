use Rattle.session_tests.proofs.ServingFacts.{new_serves}
use Rattle.session_tests.proofs.plants.Plant.new.Goals as goal

pub invariant_of-result : goal.invariant_of-result
invariant_of-result c = new_serves c.in_ok-relay.relay c.args.request 700 c.new-2.result c.in_ok-relay.ensures.run c.in_ok-relay.ensures.kind c.new-2.ensures.new c.new-2.ensures.sent
