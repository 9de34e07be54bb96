use Rattle.command_io.specs.Streams.{sink_at}
use Rattle.steps_command.proofs.StepsFacts.{piece_written, piece_begun}
use Rattle.steps_command.proofs.steps.take_piece.Goals as goal

pub returns-in-Ok-write_whole-clause-taken : goal.returns-in-Ok-write_whole-clause-taken
returns-in-Ok-write_whole-clause-taken g c first input told start u grew =
    piece_written first _ told _ _ (sink_at g.O.Sink c.args.output.now) (sink_at g.O.Sink c.write_whole.new.sink) _ _ _ c.in-Ok.end (c.in-Ok.ensures.taken first input told u) grew (rw c.as_slice.ensures.value at c.in-Ok-write_whole.ensures.text)

pub returns-in-Err-clause-taken : goal.returns-in-Err-clause-taken
returns-in-Err-clause-taken g c first input told start u grew =
    (c.in-Err.ensures.cause.failed, piece_begun first _ told _ _ _ _ _ _ _ c.in-Ok.end (c.in-Ok.ensures.taken first input told u) grew (rw c.as_slice.ensures.value at c.in-Err.ensures.front))
