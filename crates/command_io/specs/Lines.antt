-- How a line names a block.
use Rattle.std.specs.Prelude.{ℕ, List, ◌∷◌, ◌++◌}
use Rattle.std.specs.Fmt.{decimal}

-- a number and an id
abbrev pub named : ℕ → List ℕ → List ℕ
named num id = decimal num ++ 32 ∷ id
