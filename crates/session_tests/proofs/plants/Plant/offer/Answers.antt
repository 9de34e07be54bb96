use Rattle.block_record.specs.Slips.{slip as slip_of_block}
use Rattle.session_tests.proofs.ServingFacts.{offer_serves}
use Rattle.session_tests.proofs.plants.Plant.offer.Goals as goal

pub invariant_of-self : goal.invariant_of-self
invariant_of-self c = offer_serves c.self.inside.relay c.offer-answer.new.self (slip_of_block c.in_ok-block.block.value) _ c.offer-answer.ensures.world c.offer-answer.ensures.mem c.self.inside.client c.self.invariant
