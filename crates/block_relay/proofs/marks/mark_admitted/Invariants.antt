use Rattle.std.proofs.Common.{◌≡◌, ◌+◌, ◌++◌, replicate, vec_len, vec_capacity}
use Rattle.block_relay.specs.declared.marks.Mark.TheVariants as mark
use Rattle.block_relay.proofs.marks.mark_admitted.Given as goal

abbrev pub invariant-loop : goal.invariant-loop
invariant-loop l = record {
  items : l.marks.items ≡ l.fn.marks.items ++ replicate l.counter mark.Admitted;
  len : vec_len l.marks ≡ vec_len l.fn.marks + l.counter;
  capacity : vec_capacity l.marks ≡ vec_capacity l.fn.marks;
}
