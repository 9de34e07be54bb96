-- Clauses of calls, at the shelf of an event.
use Rattle.std.proofs.Common.{ℕ, Option, Result, Ok, Err, OnOk}
use Rattle.outer_world.specs.Files.{Files}

-- what is so of any files and faults is so of these
pub at_these : {T E : Type 0} (P : Option Files → ℕ → Type 0) (files : Option Files) (faults : ℕ) (r : Result T E) → OnOk r ((f : Option Files) (n : ℕ) → P f n) → OnOk r (P files faults)
at_these P files faults (Ok x) h = h files faults
at_these P files faults (Err e) h = h

-- what is so is so at Ok
pub if_ok : {T E P : Type 0} (r : Result T E) → P → OnOk r P
if_ok (Ok x) h = h
if_ok (Err e) h = tt
