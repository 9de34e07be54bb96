use Rattle.hub_history.specs.Passes.{IsPassOf}
use Rattle.hub_history.proofs.tests.split_work.Given as goal

abbrev pub invariant-loop-k : goal.invariant-loop-k
invariant-loop-k l = IsPassOf l.hub l.pass
