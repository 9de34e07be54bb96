-- Bytes that are told of an output, of which the last part is still kept.
use Rattle.std.specs.Prelude.{ℕ, ◌≡◌, List, ◌++◌, Option}
use Rattle.outer_world.specs.Told.{Grows}

-- told bytes grew by all of a text but its rest
abbrev pub GrewBut : Option (List ℕ) → Option (List ℕ) → List ℕ → List ℕ → Type 0
GrewBut before now text rest = (front : List ℕ) × (front ++ rest ≡ text) × Grows before now front
