use Rattle.std.proofs.Common.{◌≡◌}
use Rattle.command_io.specs.Streams.{sink_at}
use Rattle.cursor_command.proofs.CursorFacts.{answered_line, utf8_read}
use Rattle.cursor_command.proofs.run.run_cursor.Goals as goal

pub returns-in-Ok : goal.returns-in-Ok
returns-in-Ok g c = λ input.
    answered_line c.args.text.now c.in-Ok.field-0.line.items c.as_slice.result.now input
    (sink_at g.O.Sink c.args.output.now) (sink_at g.O.Sink c.answer_cursor.new.output) (sink_at g.E.Sink c.args.errors.now) (sink_at g.E.Sink c.tell_error-in-Ok.new.errors) _
    (utf8_read c.args.text.now c.from_utf8.result (λ s. s.now ≡ c.args.text.now) _ c.is_err.result c.is_err.ensures.value c.if-is_err.false c.from_utf8.ensures.cases)
    c.as_slice.ensures.value c.in-Ok.ensures c.tell_error-in-Ok.ensures
