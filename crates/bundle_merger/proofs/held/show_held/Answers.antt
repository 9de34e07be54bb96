use Rattle.bundle_merger.proofs.HeldFacts.{plan_held}
use Rattle.bundle_merger.proofs.held.show_held.Goals as goal

pub returns : goal.returns
returns c = plan_held c.container_is_read.ensures c.args.kind.now c.args.plan.now c.show_kind.ensures (rw c.as_slice.ensures.value at c.show_all.ensures) (rw c.as_slice-2.ensures.value at c.show_all-2.ensures)
