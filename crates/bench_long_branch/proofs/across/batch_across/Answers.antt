use Rattle.std.proofs.Common.{arith}
use Rattle.bench_long_branch.proofs.across.batch_across.Goals as goal

pub returns-clause-links : goal.returns-clause-links
returns-clause-links g c = omega (arith, c.batch.ensures.cost 21 c.requires.short)
