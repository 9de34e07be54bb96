use Rattle.std.proofs.Common.{◌∙◌, sym}
use Rattle.node_supervisor.specs.Runs.{ended}
use Rattle.node_supervisor.proofs.RunFacts.{run_next}
use Rattle.node_supervisor.proofs.supervisor.Supervisor.run.Goals as goal

pub loop-i-init : goal.loop-i-init
loop-i-init c = ended

pub loop-i-preserved : goal.loop-i-preserved
loop-i-preserved c = run_next _ _ _ _ _ c.loop-i.i _ _ c.loop-i-test.true (c.requires ∙ sym c.loop-i.auto.actions) c.loop-i.invariant c.step.ensures.row
