use Rattle.outer_world.proofs.public.NameOrder.{in_order-without_file}
use Rattle.memory_world.proofs.memory_shelf.MemoryShelfShelf.remove.Goals as goal

pub invariant_of-self : goal.invariant_of-self
invariant_of-self c = rw c.take_away.ensures (in_order-without_file c.args.name.now c.self.inside.files.entries c.self.invariant)
