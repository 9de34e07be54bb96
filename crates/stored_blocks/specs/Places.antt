-- Places of a history in the order of their numbers.
use Rattle.std.specs.Prelude.{ℕ, ◌≡◌, ◌<◌, ◌⊎◌, List, [], ◌∷◌}
use Rattle.std.specs.List.{AllByRecursion}
use Rattle.bundle_model.specs.Members.{Among}
use Rattle.stored_blocks.specs.declared.places.NumberedPlace.{NumberedPlace}

-- places by number, and for how many more there is room
pub record Numbered : Type 0 where
  pub places : List NumberedPlace
  pub room : ℕ

-- the first comes before the second: its number is lower, or it is the same and the place is lower
abbrev pub IsBefore : NumberedPlace → NumberedPlace → Type 0
IsBefore x y = (x.num < y.num) ⊎ ((x.num ≡ y.num) × (x.place < y.place))

-- each comes before all after it
abbrev pub Rises : List NumberedPlace → Type 0
Rises [] = Unit {0}
Rises (x ∷ xs) = AllByRecursion (IsBefore x) xs × Rises xs

-- one more place is there
pub record Adds (x : NumberedPlace) (old new : List NumberedPlace) : Type 0 where
  pub there : Among new x
  pub keeps : (y : NumberedPlace) → Among old y → Among new y
  pub only : (y : NumberedPlace) → Among new y → (x ≡ y) ⊎ Among old y

-- the place is not there, and all others that were are
pub record Drops (x : NumberedPlace) (old new : List NumberedPlace) : Type 0 where
  pub gone : Among new x → ⊥
  pub keeps : (y : NumberedPlace) → Among old y → (x ≡ y → ⊥) → Among new y
  pub only : (y : NumberedPlace) → Among new y → Among old y
