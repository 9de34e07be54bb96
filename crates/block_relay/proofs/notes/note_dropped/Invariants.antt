use Rattle.std.proofs.Common.{◌≡◌, ◌≤◌, ◌+◌, ◌*◌, ◌++◌, take, vec_len, vec_capacity}
use Rattle.block_relay.proofs.notes.note_dropped.Given as goal

abbrev pub invariant-loop-conflict : goal.invariant-loop-conflict
invariant-loop-conflict l = record {
  items : l.conflicts.items ≡ l.fn.conflicts.items ++ take l.conflict-index l.dropped;
  len : vec_len l.conflicts ≡ vec_len l.fn.conflicts + l.conflict-index;
  capacity : vec_capacity l.conflicts ≡ vec_capacity l.fn.conflicts;
  buffers : vec_len l.fn.buffers ≤ vec_len l.buffers + 2 * l.conflict-index;
}
