use Rattle.std.proofs.Common.{arith, ◌+◌, ◌-◌, length}
use Rattle.chain_model.proofs.public.ScanFacts.{push_last}
use Rattle.chain_model.proofs.steps.push_up.Goals as goal

pub loop-i-preserved : goal.loop-i-preserved
loop-i-preserved c =
    let n = length c.args.path.now in
    push_last _ _ _ _ _ _ (n - 1 - c.loop-i.i) (n - (c.loop-i.i + 1)) (n - c.loop-i.i) c.index-path-last.result (omega arith) (omega arith) (omega arith) c.index-path-last.is c.in_ok-push_wanted.ensures c.loop-i.invariant
