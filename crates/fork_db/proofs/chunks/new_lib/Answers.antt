use Rattle.std.proofs.Common.{arith, ap, ◌∙◌, ◌-◌, Some}
use Rattle.fork_db.proofs.PlaceFacts.{batch_lib_new, batch_lib_same}
use Rattle.fork_db.proofs.StepFacts.{runs_of}
use Rattle.fork_db.proofs.chunks.new_lib.Goals as goal

pub returns-then-marked-batch : goal.returns-then-marked-batch
returns-then-marked-batch c = λ older m stop given.
    let r = runs_of _ older m stop _ c.requires.sound given in
    ap Some c.in_ok-last.ensures
    ∙ batch_lib_new _ _ _ r c.args.taken (c.min-marked.result - 1) _ (omega (arith, c.min-marked.ensures, c.if-marked-batch.true)) (omega (arith, c.if-marked-batch.true)) (c.step_slip.ensures older m stop given)

pub returns : goal.returns
returns c = λ older m stop given.
    let r = runs_of _ older m stop _ c.requires.sound given in
    batch_lib_same _ _ _ r c.args.taken (omega (arith, c.min-marked.ensures, c.if-marked-batch.false))
