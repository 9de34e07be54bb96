use Rattle.std.proofs.Common.{ap, map}
use Rattle.block_record.specs.Slips.{slip}
use Rattle.steps_command.proofs.ProgressFacts.{at_err, told_first, piece_taken}
use Rattle.steps_command.proofs.progress.Progress.take_piece.Goals as goal

pub returns-in_err-fault-clause-memory : goal.returns-in_err-fault-clause-memory
returns-in_err-fault-clause-memory c first input told u = at_err c.from_residual.result (told_first c.text_goes_on.ensures first input told c.args.piece.now _ _ _ u)

pub returns-clause-taken : goal.returns-clause-taken
returns-clause-taken c first input told u =
    piece_taken c.text_goes_on.ensures first input told c.args.piece.now _ _ _ _ _ _ _ _ _ _ c.in_ok-refusal.refusal c.in_ok-fault.fault c.end_of.result
    (ap (map slip) c.new-blocks.ensures.items) c.clear.ensures.items c.end_of.ensures
    (c.in_ok-fault.ensures.read input u.read)
    (λ later. c.in_ok-refusal.ensures later)
    u
