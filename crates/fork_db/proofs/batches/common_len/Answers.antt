use Rattle.std.proofs.Common.{arith, None, refl}
use Rattle.chain_model.specs.Finality.{ancestry_of}
use Rattle.block_tree.specs.Places.{slip_of}
use Rattle.block_tree.proofs.public.PlaceFacts.{slip_none}
use Rattle.fork_db.proofs.BatchFacts.{common_length, none_common_left, none_common_right}
use Rattle.fork_db.proofs.batches.common_len.Goals as goal

pub returns-in-Some-Some-clause-len : goal.returns-in-Some-Some-clause-len
returns-in-Some-Some-clause-len g c =
    rw (c.in-Some-Some.is-0, c.in-Some-Some.is-1)
    (common_length c.args.tree.now.history c.in-Some-Some.a c.in-Some-Some.b c.meet.result c.path_len.result c.len.ensures.sound (omega (arith, c.len.ensures.len)) (omega (arith, c.len-then-a-len.ensures.len))
    c.meet.ensures.range c.meet.ensures.value c.path_len.ensures.len)

pub returns-in_default-clause-len : goal.returns-in_default-clause-len
returns-in_default-clause-len g c = rw c.in-Some-Some.is-1 (none_common_right c.args.tree.now.history _ _ (slip_none c.args.tree.now.history c.in-Some-Some.b (omega (arith, c.len-then-a-len.ensures.len))))

pub returns-in_default-2-clause-len : goal.returns-in_default-2-clause-len
returns-in_default-2-clause-len g c = rw c.in-Some-Some.is-0 (none_common_left c.args.tree.now.history _ _ (slip_none c.args.tree.now.history c.in-Some-Some.a (omega (arith, c.len.ensures.len))))

pub returns-in_default-4-clause-len : goal.returns-in_default-4-clause-len
returns-in_default-4-clause-len g c = rw c.in_default.is-0 (none_common_left c.args.tree.now.history (ancestry_of c.args.tree.now.history (slip_of c.args.tree.now.history c.args.b)) None refl)
