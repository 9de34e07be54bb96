use Rattle.block_record.specs.Slips.{slip}
use Rattle.block_relay.specs.Chronicle.{world_told}
use Rattle.relay_model.specs.Offers.{offered}
use Rattle.block_intake.specs.Answers.{is_mem}
use Rattle.shelf_load.proofs.TakingFacts.{offer_said}
use Rattle.shelf_load.proofs.taking.offer_block.Goals as goal

pub returns : goal.returns
returns c =
    offer_said (world_told c.args.relay.now) (world_told c.offer.new.self) (slip c.args.block.value) (is_mem c.offer.result) c.count_answer.result
    (c.count_answer.ensures (offered (world_told c.args.relay.now) (slip c.args.block.value)).answer c.offer.ensures.said) c.offer.ensures.world
