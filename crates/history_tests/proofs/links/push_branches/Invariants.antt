use Rattle.std.proofs.Common.{◌+◌, ◌≤◌}
use Rattle.history_tests.proofs.links.push_branches.Given as goal

abbrev pub invariant-loop-at : goal.invariant-loop-at
invariant-loop-at g l = 2000 ≤ l.rows.room + l.at
