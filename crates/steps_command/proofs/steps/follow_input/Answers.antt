use Rattle.std.proofs.Common.{◌≡◌, ◌<◌, ◌≤◌, ℕ, List, length, take, rules, arith}
use Rattle.std.proofs.lemmas.List.{length-take}
use Rattle.steps_command.proofs.StepsFacts.{ran_out_first, ends_known, flows_on, ends_whole, ends_at_read, ends_too_long, stops_in_piece, ends_by}
use Rattle.steps_command.proofs.steps.follow_input.Goals as goal

-- what a read gives fits into the buffer
piece_fits : (count : ℕ) (buf : List ℕ) → count ≤ length buf → count ≡ length (take count buf) → length buf ≡ 65_536 → length (take count buf) ≤ 65_536
piece_fits count buf within size room = omega (arith, within, size, room)

pub returns-in-Ok-eq0-clause-done : goal.returns-in-Ok-eq0-clause-done
returns-in-Ok-eq0-clause-done g c =
    let room : 0 < length c.read.new.buf = search rules in
    ends_whole c.args.first _ _ _ _ _ _ _ _ c.read.new.buf c.in-Ok-eq0.field-0 c.loop-taken.invariant c.in-Ok-eq0.field-0-test c.in-Ok-eq0.ensures.left.0 c.in-Ok-eq0.ensures.left.1 room c.in-Ok-eq0.ensures.given c.new-in-Ok-eq0.ensures.items

pub returns-in-Err-clause-done : goal.returns-in-Err-clause-done
returns-in-Err-clause-done g c =
    ends_at_read c.args.first _ _ _ _ _ _ _ c.loop-taken.invariant c.in-Err.ensures.left c.in-Err.ensures.given c.in-Err.ensures.cause.failed

pub loop-taken-preserved : goal.loop-taken-preserved
loop-taken-preserved g c =
    let i = c.loop-taken.invariant in
    let size : length (take c.in-Ok-read.count c.read.new.buf) ≡ c.in-Ok-read.count = omega (arith, length-take c.in-Ok-read.count c.read.new.buf, c.in-Ok-read.ensures.bound) in
    flows_on c.args.first _ _ _ _ _ _ _ _ _ _ c.in-Ok-read.count (take c.in-Ok-read.count c.read.new.buf) i c.in-Ok-read.ensures.left.0 c.in-Ok-read.ensures.given c.in-Ok-read.ensures.cause.later c.in-Ok-None.ensures.faults size
    (rw c.in-Ok-None.field-0-is at (c.in-Ok-None.ensures.taken c.args.first i.input i.told _ i.under_way i.wrote))

pub returns-in-Ok-Some-clause-done : goal.returns-in-Ok-Some-clause-done
returns-in-Ok-Some-clause-done g c =
    let i = c.loop-taken.invariant in
    let room : length c.read.new.buf ≡ 65_536 = search rules in
    ends_by c.args.first _ _ _ _ c.take_piece.new.progress.reader _ c.take_piece.new.progress.follower.world _ c.take_piece.new.progress.follower.place _ (take c.in-Ok-read.count c.read.new.buf) c.in-Ok-Some.end c.ended_by.result i c.in-Ok-read.ensures.left.0 c.in-Ok-read.ensures.given
    (piece_fits c.in-Ok-read.count c.read.new.buf c.in-Ok-read.ensures.bound.0 c.in-Ok-read.ensures.bound.1 room)
    (rw c.in-Ok-Some.field-0-is at (c.in-Ok-Some.ensures.taken c.args.first i.input i.told _ i.under_way i.wrote))
    c.ended_by.ensures.line c.ended_by.ensures.status c.ended_by.ensures.known c.ended_by.ensures.memory

pub returns-in-Err-take_piece-clause-done : goal.returns-in-Err-take_piece-clause-done
returns-in-Err-take_piece-clause-done g c =
    let i = c.loop-taken.invariant in
    let room : length c.read.new.buf ≡ 65_536 = search rules in
    stops_in_piece c.args.first _ _ _ _ c.take_piece.new.progress.reader _ c.take_piece.new.progress.follower.world _ c.take_piece.new.progress.follower.place _ (take c.in-Ok-read.count c.read.new.buf) c.in-Err-take_piece.stop i c.in-Ok-read.ensures.left.0 c.in-Ok-read.ensures.given
    (piece_fits c.in-Ok-read.count c.read.new.buf c.in-Ok-read.ensures.bound.0 c.in-Ok-read.ensures.bound.1 room)
    (c.in-Err-take_piece.ensures.taken c.args.first i.input i.told _ i.under_way i.wrote)

pub returns-clause-done : goal.returns-clause-done
returns-clause-done g c = ends_too_long c.args.first _ _ _ _ _ _ c.loop-taken.invariant c.loop-taken-test.false

pub returns-in_default-clause-done : goal.returns-in_default-clause-done
returns-in_default-clause-done g c = ran_out_first c.args.first _

pub returns-in-Ok-Some-clause-answer : goal.returns-in-Ok-Some-clause-answer
returns-in-Ok-Some-clause-answer g c = ends_known c.ended_by.result c.ended_by.ensures.known
