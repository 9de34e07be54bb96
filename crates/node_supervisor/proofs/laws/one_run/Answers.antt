use Rattle.node_supervisor.proofs.RunFacts.{one_run_holds}
use Rattle.node_supervisor.proofs.laws.one_run.Goals as goal

pub returns : goal.returns
returns c = one_run_holds
