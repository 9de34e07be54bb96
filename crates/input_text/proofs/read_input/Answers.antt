use Rattle.std.proofs.Common.{take}
use Rattle.input_text.proofs.ReadFacts.{runs_out}
use Rattle.input_text.proofs.read_input.Goals as goal

pub returns-then-is_err-clause-stopped : goal.returns-then-is_err-clause-stopped
returns-then-is_err-clause-stopped g c =
    let i = c.loop-taken.invariant in
    runs_out _ _ _ _ (take c.in-Ok.count c.read.new.buf) _ i c.in-Ok.ensures.left.0 c.in-Ok.ensures.given
