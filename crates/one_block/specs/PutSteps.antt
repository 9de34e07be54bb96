-- What a file that is there answers to a block.
use Rattle.std.specs.Prelude.{ℕ, ◌≡◌, IsTrue, IsFalse, List, ⊤, Result, Ok, Err}
use Rattle.block_record.specs.declared.blocks.Slip.{Slip}
use Rattle.block_record.specs.Slips.{same_slip}
use Rattle.one_block.specs.declared.faults.Put.{Put}
use Rattle.one_block.specs.declared.faults.Put.TheVariants.{Written, Present}
use Rattle.one_block.specs.declared.faults.StoreFault.{StoreFault}
use Rattle.one_block.specs.declared.faults.StoreFault.TheVariants.{ShelfFault, ShelfBad, Missing, StoredOther, NameClash, Mem}
use Rattle.one_block.specs.Puts.{HoldsSlip, IsBadAt}

-- a file of this name and text holds a block of the same slip
pub record HoldsSame (by file text : List ℕ) (s : Slip) : Type 0 where
  pub held : Slip
  pub holds : HoldsSlip by file text held
  pub same : IsTrue (same_slip held s)

-- or of another
pub record HoldsOther (by file text : List ℕ) (s held offered : Slip) : Type 0 where
  pub holds : HoldsSlip by file text held
  pub offered_is : offered ≡ s
  pub other : IsFalse (same_slip held s)

-- or is bad
pub record IsBadAs (by file text : List ℕ) (told_name : List ℕ) (at : ℕ) : Type 0 where
  pub named : told_name ≡ file
  pub place : IsBadAt by file text at

abbrev pub CompareRefused : List ℕ → List ℕ → List ℕ → Slip → StoreFault → Type 0
CompareRefused by file text s ShelfFault = ⊥
CompareRefused by file text s (ShelfBad n at) = IsBadAs by file text n at
CompareRefused by file text s (Missing n) = ⊥
CompareRefused by file text s (StoredOther kept read) = ⊥
CompareRefused by file text s (NameClash held offered) = HoldsOther by file text s held offered
CompareRefused by file text s Mem = ⊤

abbrev pub CompareDone : List ℕ → List ℕ → List ℕ → Slip → Put → Type 0
CompareDone by file text s Written = ⊥
CompareDone by file text s Present = HoldsSame by file text s

-- the answer of a file of this name and text to a block of this slip
abbrev pub Compares : List ℕ → List ℕ → List ℕ → Slip → Result Put StoreFault → Type 0
Compares by file text s (Ok put) = CompareDone by file text s put
Compares by file text s (Err fault) = CompareRefused by file text s fault
