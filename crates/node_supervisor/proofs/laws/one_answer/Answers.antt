use Rattle.node_supervisor.proofs.RunFacts.{one_answer_holds}
use Rattle.node_supervisor.proofs.laws.one_answer.Goals as goal

pub returns : goal.returns
returns c = one_answer_holds
