use Rattle.std.proofs.Common.{arith}
use Rattle.fork_db.proofs.BatchFacts.{first_cut, first_missing, first_whole}
use Rattle.fork_db.proofs.batches.cut_at.Goals as goal

pub returns-in-Some-Some-clause-value : goal.returns-in-Some-Some-clause-value
returns-in-Some-Some-clause-value g c = rw (c.in-Some-Some.is-0, c.in-Some-Some.is-1) (first_cut _ _ _ _ (omega (arith, c.len-len.ensures.len)) c.last_up_to.ensures.value)

pub returns-in_default-clause-value : goal.returns-in_default-clause-value
returns-in_default-clause-value g c = rw c.in-Some-Some.is-0 (first_missing c.args.tree.now.history c.in-Some-Some.at c.args.stop (omega (arith, c.len-len.ensures.len)))

pub returns-in_default-2-clause-value : goal.returns-in_default-2-clause-value
returns-in_default-2-clause-value g c = rw c.in_default.is-1 (first_whole c.args.tree.now.history c.len-len.ensures.sound c.args.last)
