use Rattle.std.proofs.Common.{◌-◌, ◌^◌}
use Rattle.command_io.specs.Streams.{source_at}
use Rattle.input_text.proofs.ReadFacts.{IsReading}
use Rattle.input_text.proofs.read_input.Given as goal

abbrev pub invariant-loop-taken : goal.invariant-loop-taken
invariant-loop-taken g l = IsReading (source_at g.I.Source l.fn.input) (source_at g.I.Source l.input) l.text.items l.taken

abbrev pub decreases-loop-taken : goal.decreases-loop-taken
decreases-loop-taken g l = 2 ^ 40 - l.taken
