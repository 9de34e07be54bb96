use Rattle.chain_model.specs.Steps.{steps_of}
use Rattle.steps_command.proofs.TellFacts.{lines_more, lines_whole, at_end}
use Rattle.steps_command.proofs.following.push_steps.Goals as goal

pub loop-index-preserved : goal.loop-index-preserved
loop-index-preserved c = λ older m stop given.
    lines_more (steps_of older c.args.batch.now.place m stop) c.args.text.now.items c.loop-index.text.items c.push_step.new.text.items c.loop-index.index
    (c.loop-index.invariant older m stop given) (c.in_ok-push_step.ensures older m stop given)

pub returns : goal.returns
returns c = λ older m stop given.
    lines_whole (steps_of older c.args.batch.now.place m stop) c.args.text.now.items c.loop-index.text.items c.loop-index.index (at_end c.loop-index.index c.step_count-index-end.result _ c.loop-index.auto.index-end c.loop-index-test.false (c.step_count-index-end.ensures older m stop given)) (c.loop-index.invariant older m stop given)
