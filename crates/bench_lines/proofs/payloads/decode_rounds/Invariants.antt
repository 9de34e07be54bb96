use Rattle.std.proofs.Common.{◌≤◌, length}
use Rattle.bench_lines.proofs.payloads.decode_rounds.Given as goal

abbrev pub invariant-loop : goal.invariant-loop
invariant-loop l = 0 ≤ length l.decoded.items
