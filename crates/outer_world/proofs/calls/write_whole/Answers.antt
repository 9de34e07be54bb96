use Rattle.std.proofs.Common.{arith}
use Rattle.outer_world.proofs.public.Fronts.{grew_more}
use Rattle.outer_world.proofs.calls.write_whole.Goals as goal

pub loop-rest-preserved : goal.loop-rest-preserved
loop-rest-preserved g c = record {
  bytes = grew_more _ _ _ _ c.loop-rest.rest.now _ c.loop-rest.invariant.bytes c.in_ok-count.ensures.written;
  faults = omega (arith, c.in_ok-count.ensures.cause.later, c.loop-rest.invariant.faults);
}
