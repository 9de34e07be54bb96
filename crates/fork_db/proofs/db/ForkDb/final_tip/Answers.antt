use Rattle.std.proofs.Common.{arith, subst, ◌<◌, length}
use Rattle.fork_db.proofs.public.ClaimFacts.{tip_range}
use Rattle.fork_db.proofs.db.ForkDb.final_tip.Goals as goal

pub returns-clause-range : goal.returns-clause-range
returns-clause-range c =
    subst (λ v. c.self.inside.tip < length v.history) c.self.view_is
    (tip_range _ _ c.len.ensures.sound c.self.invariant.1 (grind (arith, c.if-len-eq0.false, c.len.ensures.len)))
