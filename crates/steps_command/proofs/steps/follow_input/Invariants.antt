use Rattle.std.proofs.Common.{◌-◌, ◌^◌}
use Rattle.command_io.specs.Streams.{flow_at}
use Rattle.steps_command.proofs.StepsFacts.{IsFlowing}
use Rattle.steps_command.proofs.steps.follow_input.Given as goal

abbrev pub invariant-loop-taken : goal.invariant-loop-taken
invariant-loop-taken g l =
    IsFlowing l.fn.first (flow_at g.I.Source g.O.Sink l.fn.input l.fn.output) (flow_at g.I.Source g.O.Sink l.input l.output)
    l.progress.reader l.progress.follower.world l.progress.follower.place l.taken

abbrev pub decreases-loop-taken : goal.decreases-loop-taken
decreases-loop-taken g l = 2 ^ 40 - l.taken
