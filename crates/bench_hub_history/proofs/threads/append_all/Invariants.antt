use Rattle.hub_history.specs.Passes.{IsPassOf}
use Rattle.bench_hub_history.proofs.threads.append_all.Given as goal

abbrev pub invariant-loop : goal.invariant-loop
invariant-loop g l = IsPassOf l.hub l.pass
