use Rattle.std.proofs.Common.{arith}
use Rattle.std.proofs.lemmas.Result.{err_from_is_err_and}
use Rattle.command_io.specs.Streams.{sink_at}
use Rattle.node_command.proofs.WriteFacts.{flushed, pushed, write_failed, no_memory, all_written}
use Rattle.node_command.proofs.run.write_lines.Goals as goal

pub returns-in_err-write_full-clause-stopped : goal.returns-in_err-write_full-clause-stopped
returns-in_err-write_full-clause-stopped g c =
    let p = err_from_is_err_and c.from_residual-in_err-write_full.result c.from_residual-in_err-write_full.ensures.1 in
    let e = c.in_err-write_full.ensures in
    rw (p.1, p.2)
    (write_failed c.args.options (sink_at g.O.Sink c.args.output.now) (sink_at g.O.Sink c.loop-generator.output) (sink_at g.O.Sink c.write_full.new.output) c.loop-generator.text.items c.loop-generator.generator c.loop-generator.invariant e.front e.cause.failed)

pub loop-generator-preserved : goal.loop-generator-preserved
loop-generator-preserved g c =
    let before = sink_at g.O.Sink c.args.output.now in
    let now = sink_at g.O.Sink c.write_full.new.output in
    let e = c.in_ok-push_next.ensures in
    let f = c.in_ok-write_full.ensures in
    let w = flushed c.args.options before (sink_at g.O.Sink c.loop-generator.output) now c.loop-generator.text.items c.write_full.new.text.items c.loop-generator.generator c.loop-generator.invariant f.grew f.cause.later in
    pushed c.args.options before now c.write_full.new.text.items c.push_next.new.out.items c.loop-generator.generator c.push_next.new.self w (omega (arith, c.loop-generator-test.true)) e.num e.forks e.random e.lines

pub returns-in_err-push_next-clause-stopped : goal.returns-in_err-push_next-clause-stopped
returns-in_err-push_next-clause-stopped g c =
    let before = sink_at g.O.Sink c.args.output.now in
    let now = sink_at g.O.Sink c.write_full.new.output in
    let p = err_from_is_err_and c.from_residual-in_err-push_next.result c.from_residual-in_err-push_next.ensures.1 in
    let f = c.in_ok-write_full.ensures in
    let w = flushed c.args.options before (sink_at g.O.Sink c.loop-generator.output) now c.loop-generator.text.items c.write_full.new.text.items c.loop-generator.generator c.loop-generator.invariant f.grew f.cause.later in
    rw (p.1, p.2) (no_memory c.args.options before now c.write_full.new.text.items c.loop-generator.generator w)

pub returns-in_err-write_whole-clause-stopped : goal.returns-in_err-write_whole-clause-stopped
returns-in_err-write_whole-clause-stopped g c =
    let p = err_from_is_err_and c.from_residual-in_err-write_whole.result c.from_residual-in_err-write_whole.ensures.1 in
    let e = c.in_err-write_whole.ensures in
    rw (p.1, p.2)
    (write_failed c.args.options (sink_at g.O.Sink c.args.output.now) (sink_at g.O.Sink c.loop-generator.output) (sink_at g.O.Sink c.write_whole.new.sink) c.loop-generator.text.items c.loop-generator.generator c.loop-generator.invariant
    (rw c.as_slice.ensures.value at e.front) e.cause.failed)

pub returns-clause-all : goal.returns-clause-all
returns-clause-all g c =
    all_written c.args.options (sink_at g.O.Sink c.args.output.now) (sink_at g.O.Sink c.loop-generator.output) (sink_at g.O.Sink c.write_whole.new.sink) c.loop-generator.text.items c.loop-generator.generator c.loop-generator.invariant
    (omega (arith, c.loop-generator-test.false)) (rw c.as_slice.ensures.value at c.in_ok-write_whole.ensures.text)
