use Rattle.hub_history.specs.Passes.{IsPassOf}
use Rattle.bench_hub_history.proofs.threads.split_work.Given as goal

abbrev pub invariant-loop-from : goal.invariant-loop-from
invariant-loop-from l = IsPassOf l.hub l.pass
