use Rattle.std.proofs.Common.{arith}
use Rattle.fork_db.proofs.StepFacts.{runs_of}
use Rattle.fork_db.proofs.chunks.count_in.Goals as goal

pub step_count-requires : goal.step_count-requires
step_count-requires c =
    let r = runs_of _ _ _ _ _ c.len-len.ensures.sound c.requires.given.given in
    record { small = omega (arith, r.total, c.len-len.ensures.len, c.len-len.ensures.small) }
