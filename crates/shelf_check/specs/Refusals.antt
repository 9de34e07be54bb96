-- Why a call that reads the whole shelf is refused.
use Rattle.std.specs.Prelude.{ℕ, ◌≡◌, ◌⊎◌, List, ⊤}
use Rattle.outer_world.specs.Causes.{Rose}
use Rattle.outer_world.specs.Shelves.{RefusesBy}
use Rattle.one_block.specs.StoreFaults.{fault_of}
use Rattle.shelf_check.specs.declared.faults.ReadFault.{ReadFault}
use Rattle.shelf_check.specs.declared.faults.ReadFault.TheVariants.{OnShelf, InFile}
use Rattle.one_block.specs.declared.faults.StoreFault.{StoreFault}
use Rattle.one_block.specs.declared.faults.StoreFault.TheVariants as store
use Rattle.one_block.specs.declared.file_faults.FileFault.{FileFault}
use Rattle.one_block.specs.declared.file_faults.FileFault.TheVariants.{Bad, OtherType, Mem}
use Rattle.shelf_check.specs.declared.faults.LoadFault.{LoadFault}
use Rattle.shelf_check.specs.declared.faults.LoadFault.TheVariants.{Store, KindClash, HistoryFull}

-- the refusal of a shelf whose file of this name was refused
abbrev pub named_fault : List ℕ → FileFault → LoadFault
named_fault name (Bad at) = Store (store.ShelfBad name at)
named_fault name (OtherType held offered) = KindClash held offered
named_fault name Mem = Store store.Mem

-- a refusal is that one, or there was no memory
abbrev pub IsNamedAs : List ℕ → FileFault → LoadFault → Type 0
IsNamedAs name fault told = (told ≡ named_fault name fault) ⊎ (told ≡ Store store.Mem)

-- what a refusal on the shelf rests on, where these are the faults of named files
abbrev pub StoreRefused : (List ℕ → FileFault → Type 0) → ℕ → ℕ → StoreFault → Type 0
StoreRefused IsFault before now store.ShelfFault = Rose before now
StoreRefused IsFault before now (store.ShelfBad name at) = IsFault name (Bad at)
StoreRefused IsFault before now (store.Missing name) = ⊥
StoreRefused IsFault before now (store.StoredOther kept read) = ⊥
StoreRefused IsFault before now (store.NameClash held offered) = ⊥
StoreRefused IsFault before now store.Mem = ⊤

-- what a refusal rests on: the count of faults that rose, the fault of a named file, or memory, which is free
abbrev pub Refused : (List ℕ → FileFault → Type 0) → ℕ → ℕ → LoadFault → Type 0
Refused IsFault before now (Store fault) = StoreRefused IsFault before now fault
Refused IsFault before now (KindClash held offered) = (name : List ℕ) × IsFault name (OtherType held offered)
Refused IsFault before now (HistoryFull len need) = ⊥

-- what a refusal of one file rests on: a call of the shelf that was refused, or the file's fault
abbrev pub ReadRefused : (FileFault → Type 0) → ℕ → ℕ → ReadFault → Type 0
ReadRefused IsFault before now (OnShelf fail) = RefusesBy fail before now
ReadRefused IsFault before now (InFile fault) = IsFault fault

-- the refusal of a shelf whose file of this name was refused so
abbrev pub IsReadAs : List ℕ → ReadFault → LoadFault → Type 0
IsReadAs name (OnShelf fail) told = told ≡ Store (fault_of fail)
IsReadAs name (InFile fault) told = IsNamedAs name fault told
