use Rattle.std.proofs.Common.{Some, ap}
use Rattle.std.proofs.Math.Seq.{length_front}
use Rattle.memory_world.proofs.ReadFacts.{left_read, given_read}
use Rattle.memory_world.proofs.memory.MemorySourceSource.read.Goals as goal

pub returns-clause-left : goal.returns-clause-left
returns-clause-left c =
    left_read _ _ _ _ c.args.buf.now _ _ (ap (λ v. v.left) c.self.view_is) (rw c.deref.ensures.value at c.copy_from_slice.ensures.after) c.self.invariant (rw (c.len.ensures, ← c.deref.ensures.len, c.deref.ensures.value) at c.min-count.ensures)
    (length_front c.args.buf.now _ _ c.copy_from_slice.ensures.len)

pub returns-clause-given : goal.returns-clause-given
returns-clause-given c =
    ap Some
    (given_read _ _ _ _ c.args.buf.now _ _ (ap (λ v. v.given) c.self.view_is) (rw c.deref.ensures.value at c.copy_from_slice.ensures.after) c.self.invariant (rw (c.len.ensures, ← c.deref.ensures.len, c.deref.ensures.value) at c.min-count.ensures))
