use Rattle.std.proofs.Common.{take}
use Rattle.node_supervisor.specs.Runs.{IsRun}
use Rattle.node_supervisor.proofs.supervisor.Supervisor.run.Given as goal

abbrev pub invariant-loop-i : goal.invariant-loop-i
invariant-loop-i l = IsRun l.initial.self (take l.i l.events) (take l.i l.actions) l.self
