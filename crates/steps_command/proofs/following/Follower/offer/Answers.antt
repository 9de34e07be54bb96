use Rattle.std.proofs.Common.{◌∙◌}
use Rattle.block_record.specs.Slips.{slip}
use Rattle.relay_model.specs.Offers.{offered}
use Rattle.steps_command.proofs.TellFacts.{taken_answer}
use Rattle.steps_command.proofs.following.Follower.offer.Goals as goal

pub returns-clause-taken : goal.returns-clause-taken
returns-clause-taken c =
    let said = (offered c.args.self.now.world (slip c.args.block)).answer in
    let ample = c.in_ok-refusal.ensures.mem in
    let is = c.offer_slip-answer.ensures.said in
    taken_answer c.offer_slip-answer.result (slip c.args.block) c.args.self.now.world c.offer_slip-answer.new.self.world c.args.self.now.place c.offer_slip-answer.new.self.place _ c.args.text.now.items _ c.in_ok-refusal.refusal
    ample c.offer_slip-answer.ensures.world c.offer_slip-answer.ensures.place
    (c.in_ok-tell_answer.ensures.place said ample is) (c.in_ok-tell_answer.ensures.text said ample is) (c.in_ok-refusal.ensures.refusal said is)

pub returns-clause-world : goal.returns-clause-world
returns-clause-world c = c.in_ok-tell_answer.ensures.world ∙ c.offer_slip-answer.ensures.world c.in_ok-refusal.ensures.mem
