use Rattle.std.proofs.Common.{arith}
use Rattle.fork_db.proofs.BatchFacts.{path_length, path_missing, path_short}
use Rattle.fork_db.proofs.batches.path_len.Goals as goal

pub overflow_add-result : goal.overflow_add-result
overflow_add-result c =
    let few = path_short _ _ _ 134217727 (omega (arith, c.len-len.ensures.len)) c.depth.ensures (omega (arith, c.len-len.ensures.len, c.len-len.ensures.small)) in
    omega (arith, few)

pub returns-in-Some-clause-len : goal.returns-in-Some-clause-len
returns-in-Some-clause-len c = rw c.in-Some.is (path_length _ _ _ (omega (arith, c.len-len.ensures.len)) c.depth.ensures)

pub returns-in-Some-clause-short : goal.returns-in-Some-clause-short
returns-in-Some-clause-short c = path_short c.args.tree.now.history _ _ _ (omega (arith, c.len-len.ensures.len)) c.depth.ensures (omega arith)

pub returns-in_default-clause-len : goal.returns-in_default-clause-len
returns-in_default-clause-len c = rw c.in-Some.is (path_missing c.args.tree.now.history c.in-Some.at (omega (arith, c.len-len.ensures.len)))
