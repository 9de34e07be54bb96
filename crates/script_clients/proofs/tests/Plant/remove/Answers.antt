use Rattle.script_clients.proofs.tests.Plant.remove.Goals as goal

pub invariant_of-self : goal.invariant_of-self
invariant_of-self c = (c.remove.ensures.served c.self.inside.relay c.self.invariant.0, c.self.invariant.1)
