use Rattle.session_tests.proofs.ServingFacts.{look_serves}
use Rattle.session_tests.proofs.plants.Plant.look.Goals as goal

pub invariant_of-self : goal.invariant_of-self
invariant_of-self c = look_serves c.self.inside.relay c.self.inside.client c.look.new.self c.self.inside.sent.items c.look.new.out.items c.self.invariant c.in_err-look.ensures.told

pub invariant_of-self-2 : goal.invariant_of-self-2
invariant_of-self-2 c = look_serves c.self.inside.relay c.self.inside.client c.look.new.self c.self.inside.sent.items c.look.new.out.items c.self.invariant c.in_ok-look.ensures.told
