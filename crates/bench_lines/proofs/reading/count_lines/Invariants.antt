use Rattle.std.proofs.Common.{◌-◌}
use Rattle.bench_lines.proofs.reading.count_lines.Given as goal

abbrev pub decreases-loop-taken : goal.decreases-loop-taken
decreases-loop-taken g l = 1099511627776 - l.taken
