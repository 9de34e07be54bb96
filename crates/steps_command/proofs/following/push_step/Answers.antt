use Rattle.std.proofs.Common.{subst, ◌≡◌, ◌++◌, OnOk}
use Rattle.chain_model.specs.Steps.{steps_of}
use Rattle.steps_command.proofs.TellFacts.{step_there, step_missing}
use Rattle.steps_command.proofs.following.push_step.Goals as goal

pub returns-in-Some : goal.returns-in-Some
returns-in-Some c = λ older m stop given.
    subst (λ w. OnOk c.push_line.result (c.push_line.new.text.items ≡ c.args.text.now.items ++ w))
    (step_there c.args.db.now.history c.step_at.result c.in-Some.found c.slip-block.result.now (steps_of older c.args.batch.now.place m stop) c.args.index c.in-Some.is c.slip-block.ensures (c.step_at.ensures.value older m stop given))
    c.push_line.ensures

pub returns-in-None : goal.returns-in-None
returns-in-None c = λ older m stop given.
    step_missing c.args.db.now.history c.step_at.result (steps_of older c.args.batch.now.place m stop) c.args.index c.args.text.now.items c.in-None.is (c.step_at.ensures.value older m stop given)
