use Rattle.node_supervisor.proofs.TableFacts.{step_stands, within}
use Rattle.node_supervisor.proofs.supervisor.Supervisor.step.Goals as goal

pub invariant_of-self : goal.invariant_of-self
invariant_of-self c = rw c.answer_to-next.ensures (within c.self.inside.max c.self.inside.state c.self.inside.deaths c.args.event c.self.invariant)

pub returns-clause-row : goal.returns-clause-row
returns-clause-row c = step_stands c.self.inside.max c.self.inside.state c.self.inside.deaths c.args.event _ c.answer_to-next.result c.self.view_is c.answer_to-next.ensures
