use Rattle.std.proofs.Common.{subst}
use Rattle.command_io.specs.Streams.{ToldLine, shelf_at, sink_at}
use Rattle.check_command.proofs.CheckFacts.{answered_run}
use Rattle.check_command.proofs.run.run_check.Goals as goal

pub returns-in-Ok-clause-run : goal.returns-in-Ok-clause-run
returns-in-Ok-clause-run g c = λ input.
    answered_run (shelf_at g.S.Shelf c.args.shelf.now) (shelf_at g.S.Shelf c.answer.new.shelf) c.in-Ok.field-0.line.items input
    (sink_at g.O.Sink c.args.output.now) (sink_at g.O.Sink c.answer.new.output) (sink_at g.E.Sink c.args.errors.now) (sink_at g.E.Sink c.tell_error.new.errors) c.in-Ok.field-0.status
    c.in-Ok.ensures.answer (subst (ToldLine (sink_at g.E.Sink c.args.errors.now) (sink_at g.E.Sink c.tell_error.new.errors)) c.as_slice.ensures.value c.tell_error.ensures)
