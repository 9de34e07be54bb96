use Rattle.std.proofs.Common.{◌-◌}
use Rattle.command_io.specs.Streams.{sink_at}
use Rattle.node_command.proofs.WriteFacts.{IsWritten}
use Rattle.node_command.proofs.run.write_lines.Given as goal

abbrev pub invariant-loop-generator : goal.invariant-loop-generator
invariant-loop-generator g l = IsWritten l.options (sink_at g.O.Sink l.initial.output) (sink_at g.O.Sink l.output) l.text.items l.generator

abbrev pub decreases-loop-generator : goal.decreases-loop-generator
decreases-loop-generator g l = l.options.blocks - l.generator.num
