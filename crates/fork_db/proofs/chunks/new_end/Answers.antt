use Rattle.std.proofs.Common.{arith, ap, ◌∙◌, ◌-◌, Some}
use Rattle.fork_db.proofs.PlaceFacts.{batch_end_new, batch_end_same, batch_end_undo}
use Rattle.fork_db.proofs.StepFacts.{runs_of}
use Rattle.fork_db.proofs.chunks.new_end.Goals as goal

pub returns-then-taken-batch : goal.returns-then-taken-batch
returns-then-taken-batch c = λ older m stop given.
    let r = runs_of _ older m stop _ c.requires.sound given in
    ap Some c.in_ok-last.ensures ∙ batch_end_new _ _ _ r c.args.taken (c.args.taken - 1) _ c.if-taken-batch.true (omega (arith, c.if-taken-batch.true)) (c.step_slip.ensures older m stop given)

pub returns-then-undone-gt0 : goal.returns-then-undone-gt0
returns-then-undone-gt0 c = λ older m stop given.
    let r = runs_of _ older m stop _ c.requires.sound given in
    ap Some c.in_ok-last-2.ensures
    ∙ batch_end_undo _ _ _ r c.args.taken (c.min-undone.result - 1) _ c.if-taken-batch.false (omega (arith, c.min-undone.ensures, c.if-undone-gt0.true)) (c.step_slip-then-undone-gt0.ensures older m stop given)

pub returns : goal.returns
returns c = λ older m stop given.
    let r = runs_of _ older m stop _ c.requires.sound given in
    batch_end_same _ _ _ r c.args.taken c.if-taken-batch.false (omega (arith, c.min-undone.ensures, c.if-undone-gt0.false))
