use Rattle.std.proofs.Common.{arith, ap, length, ◌+◌, ◌-◌}
use Rattle.block_tree.specs.Places.{slip_of}
use Rattle.fork_db.proofs.BatchFacts.{end_short, line_short}
use Rattle.fork_db.proofs.StepFacts.{final_deep, new_deep, runs_of, step_final, step_new, step_undo}
use Rattle.fork_db.proofs.chunks.step_in.Goals as goal

pub prove-unreachable-requires : goal.prove-unreachable-requires
prove-unreachable-requires c =
    let r = runs_of _ _ _ _ _ c.len-len.ensures.sound c.requires.given.given in
    absurd (let f : ⊥ = omega (arith, r.held_is, end_short c.args.tree.now.history c.args.batch.now.place.end, c.len-len.ensures.len, c.if-prove.true) in f)

pub overflow_sub-batch : goal.overflow_sub-batch
overflow_sub-batch c =
    let r = runs_of _ _ _ _ _ c.len-len.ensures.sound c.requires.given.given in
    omega (arith, r.held, r.held_is, c.if-index-batch.true)

pub overflow_sub-batch-then-index-batch : goal.overflow_sub-batch-then-index-batch
overflow_sub-batch-then-index-batch c =
    let r = runs_of _ _ _ _ _ c.len-len.ensures.sound c.requires.given.given in
    omega (arith, r.held, r.held_is, c.if-index-batch.true)

pub block_at-requires : goal.block_at-requires
block_at-requires c =
    let r = runs_of _ _ _ _ _ c.len-len.ensures.sound c.requires.given.given in
    omega (arith, r.held, r.held_is, c.if-index-batch.true, ap length (r.end_line (omega (arith, c.if-index-batch.true))))

pub returns-then-index-batch-clause-value : goal.returns-then-index-batch-clause-value
returns-then-index-batch-clause-value c = λ older m stop given.
    let r = runs_of _ older m stop _ c.len-len.ensures.sound given in
    step_undo _ _ _ r _ _ _ _ (r.end_line (omega (arith, c.if-index-batch.true))) c.if-index-batch.true (omega (arith, r.held, r.held_is, c.if-index-batch.true)) c.block_at.ensures.value

pub overflow_add-batch : goal.overflow_add-batch
overflow_add-batch c =
    let r = runs_of _ _ _ _ _ c.len-len.ensures.sound c.requires.given.given in
    let deep =
    final_deep _ _ _ r (c.args.index - c.args.batch.now.undos) (c.args.batch.now.known + (c.args.index - c.args.batch.now.undos)) c.if-index-batch-2.true
    (omega (arith, r.known_is)) in
    omega (arith, deep, line_short c.args.tree.now.history (slip_of c.args.tree.now.history c.args.batch.now.target), c.len-len.ensures.len, c.len-len.ensures.small)

pub block_at-requires-then-index-batch-2 : goal.block_at-requires-then-index-batch-2
block_at-requires-then-index-batch-2 c =
    let r = runs_of _ _ _ _ _ c.len-len.ensures.sound c.requires.given.given in
    final_deep _ _ _ r (c.args.index - c.args.batch.now.undos) _ c.if-index-batch-2.true (omega (arith, r.known_is))

pub returns-then-index-batch-2-clause-value : goal.returns-then-index-batch-2-clause-value
returns-then-index-batch-2-clause-value c = λ older m stop given.
    let r = runs_of _ older m stop _ c.len-len.ensures.sound given in
    step_final _ _ _ r (c.args.index - c.args.batch.now.undos) _ _ _ c.if-index-batch-2.true (omega (arith, r.known_is)) (omega (arith, c.if-index-batch.false)) c.block_at-then-index-batch-2.ensures.value

pub overflow_sub-batch-2 : goal.overflow_sub-batch-2
overflow_sub-batch-2 c =
    let r = runs_of _ _ _ _ _ c.len-len.ensures.sound c.requires.given.given in
    omega (arith, r.held, r.held_is)

pub overflow_add-batch-2 : goal.overflow_add-batch-2
overflow_add-batch-2 c =
    let r = runs_of _ _ _ _ _ c.len-len.ensures.sound c.requires.given.given in
    let i = c.args.index - c.args.batch.now.undos - c.args.batch.now.finals in
    let deep =
    new_deep _ _ _ r i (c.args.batch.now.held - c.args.batch.now.undos + i) (omega (arith, c.requires.range, c.if-index-batch.false, c.if-index-batch-2.false))
    (omega (arith, r.held, r.held_is)) in
    omega (arith, deep, line_short c.args.tree.now.history (slip_of c.args.tree.now.history c.args.batch.now.target), c.len-len.ensures.len, c.len-len.ensures.small)

pub block_at-requires-2 : goal.block_at-requires-2
block_at-requires-2 c =
    let r = runs_of _ _ _ _ _ c.len-len.ensures.sound c.requires.given.given in
    new_deep _ _ _ r (c.args.index - c.args.batch.now.undos - c.args.batch.now.finals) _ (omega (arith, c.requires.range, c.if-index-batch.false, c.if-index-batch-2.false))
    (omega (arith, r.held, r.held_is))

pub returns-clause-value : goal.returns-clause-value
returns-clause-value c = λ older m stop given.
    let r = runs_of _ older m stop _ c.len-len.ensures.sound given in
    step_new _ _ _ r (c.args.index - c.args.batch.now.undos - c.args.batch.now.finals) _ _ _ _ (omega (arith, c.requires.range, c.if-index-batch.false, c.if-index-batch-2.false))
    (omega (arith, r.held, r.held_is)) (omega (arith, c.if-index-batch.false, c.if-index-batch-2.false)) c.added_step.ensures c.block_at-2.ensures.value
