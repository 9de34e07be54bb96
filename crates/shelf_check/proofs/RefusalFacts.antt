-- Refusals that are handed on.
use Rattle.std.proofs.Common.{arith, ◌≤◌, inl, inr, ℕ, List, sym, subst}
use Rattle.outer_world.specs.Shelves.{RefusesBy}
use Rattle.outer_world.specs.declared.shelves.ShelfFail.{ShelfFail}
use Rattle.outer_world.specs.declared.shelves.ShelfFail.TheVariants as fail
use Rattle.one_block.specs.StoreFaults.{fault_of}
use Rattle.one_block.specs.declared.faults.StoreFault.{StoreFault}
use Rattle.one_block.specs.declared.faults.StoreFault.TheVariants as store
use Rattle.one_block.specs.declared.file_faults.FileFault.{FileFault}
use Rattle.one_block.specs.declared.file_faults.FileFault.TheVariants.{Bad, OtherType, Mem}
use Rattle.shelf_check.specs.declared.faults.LoadFault.{LoadFault}
use Rattle.shelf_check.specs.declared.faults.LoadFault.TheVariants.{Store, KindClash, HistoryFull}
use Rattle.shelf_check.specs.declared.faults.ReadFault.{ReadFault}
use Rattle.shelf_check.specs.declared.faults.ReadFault.TheVariants.{OnShelf, InFile}
use Rattle.shelf_check.specs.Refusals.{named_fault, IsNamedAs, StoreRefused, Refused, ReadRefused, IsReadAs}

module _ (F G : List ℕ → FileFault → Type 0) (before now before' now' : ℕ) (earlier : before' ≤ before) (later : now ≤ now') (wider : (name : List ℕ) (f : FileFault) → F name f → G name f) where
  store_on : (fault : StoreFault) → StoreRefused F before now fault → StoreRefused G before' now' fault
  store_on store.ShelfFault r = omega (arith, r)
  store_on (store.ShelfBad name at) r = wider name (Bad at) r
  store_on (store.Missing name) r = r
  store_on (store.StoredOther kept read) r = r
  store_on (store.NameClash held offered) r = r
  store_on store.Mem r = tt

  -- a refusal of a part, seen as one of the whole
  pub refused_on : (fault : LoadFault) → Refused F before now fault → Refused G before' now' fault
  refused_on (Store fault) r = store_on fault r
  refused_on (KindClash held offered) r = (r.0, wider r.0 (OtherType held offered) r.1)
  refused_on (HistoryFull len need) r = r

-- a refusal of a call of the shelf
pub refused_by : (F : List ℕ → FileFault → Type 0) (before now : ℕ) (f : ShelfFail) → RefusesBy f before now → Refused F before now (Store (fault_of f))
refused_by F before now fail.Failed r = r
refused_by F before now fail.Mem r = tt

at_name : (F : List ℕ → FileFault → Type 0) (name : List ℕ) (before now : ℕ) (f : FileFault) → F name f → Refused F before now (named_fault name f)
at_name F name before now (Bad at) r = r
at_name F name before now (OtherType held offered) r = (name, r)
at_name F name before now Mem r = tt

-- a refusal of a file, with its name
pub refused_at : (F : List ℕ → FileFault → Type 0) (name : List ℕ) (before now : ℕ) (f : FileFault) (fault : LoadFault) → IsNamedAs name f fault → F name f → Refused F before now fault
refused_at F name before now f fault (inl is) r = subst (Refused F before now) (sym is) (at_name F name before now f r)
refused_at F name before now f fault (inr is) r = subst (Refused F before now) (sym is) tt

-- a refusal of one file, with its name
pub refused_read : (F : List ℕ → FileFault → Type 0) (G : FileFault → Type 0) (name : List ℕ) (before now : ℕ) (e : ReadFault) (fault : LoadFault) → IsReadAs name e fault → ReadRefused G before now e → ((f : FileFault) → G f → F name f) → Refused F before now fault
refused_read F G name before now (OnShelf f) fault is r on = subst (Refused F before now) (sym is) (refused_by F before now f r)
refused_read F G name before now (InFile f) fault is r on = refused_at F name before now f fault is (on f r)
