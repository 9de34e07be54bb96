use Rattle.std.proofs.Common.{◌≡◌, vec_len}
use Rattle.block_intake.proofs.buffers.reserve_buffers.Given as goal

abbrev pub invariant-loop : goal.invariant-loop
invariant-loop l = record {
  len : vec_len l.buffers ≡ l.counter;
}
