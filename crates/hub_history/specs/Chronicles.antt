-- Lists that only grow, with marked entries.
use Rattle.std.specs.Prelude.{◌≡◌, Bool, true, false, List, [], ◌∷◌, ◌++◌, length, cond, ltb}
use mathlib.Core.List.{IsPrefix}

module _ {E : Type 0} (marked : E → Bool) where
  -- no entry is marked
  abbrev pub AllUnmarked : List E → Type 0
  AllUnmarked [] = Unit {0}
  AllUnmarked (x ∷ xs) = (marked x ≡ false) × AllUnmarked xs

  -- `later` begins with `seen`, and none of the entries behind it is marked
  abbrev pub Covers : List E → List E → Type 0
  Covers seen later = (rest : List E) × (seen ++ rest ≡ later) × AllUnmarked rest

module _ {E : Type 0} where
  -- the longer of two lists, and the first where they are as long
  abbrev pub longer_of : List E → List E → List E
  longer_of xs ys = cond (ltb (length xs) (length ys)) ys xs

  -- a fact holds of every list that begins with this one
  abbrev pub HoldsFrom : List E → (List E → Type 0) → Type 0
  HoldsFrom seen P = (found : List E) → IsPrefix seen found → P found

-- A turn of a pass that had seen `seen` and has then seen `after`: the job found a list that begins with
-- what the pass had seen, its promise holds of the list found and the list left, and a leading pass had
-- seen each marked entry of the list found
pub record Ran {E : Type 0} (marked : E → Bool) (leads : Bool) (seen after : List E) (promise : List E → List E → Type 0) : Type 0 where
  pub found : List E
  pub begins : IsPrefix seen found
  pub grows : IsPrefix found after
  pub promised : promise found after
  pub marks : leads ≡ true → Covers marked seen found
