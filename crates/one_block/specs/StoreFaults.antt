-- The refusals of a shelf as refusals of a call on stored blocks.
use Rattle.outer_world.specs.declared.shelves.ShelfFail.{ShelfFail}
use Rattle.outer_world.specs.declared.shelves.ShelfFail.TheVariants as fail
use Rattle.one_block.specs.declared.faults.StoreFault.{StoreFault}
use Rattle.one_block.specs.declared.faults.StoreFault.TheVariants.{ShelfFault, Mem}

-- what a refusal of a shelf is
abbrev pub fault_of : ShelfFail → StoreFault
fault_of fail.Failed = ShelfFault
fault_of fail.Mem = Mem
