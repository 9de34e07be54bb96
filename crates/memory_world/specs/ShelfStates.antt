-- How contracts see a shelf in memory.
use Rattle.std.specs.Prelude.{ℕ, List, []}
use Rattle.outer_world.specs.Files.{Files}

-- its files in the order of their names, and the text that was staged
pub record ShelfState : Type 0 where
  pub files : Files
  pub staged : List ℕ

-- a shelf without files
abbrev pub bare_shelf : ShelfState
bare_shelf = record { files = []; staged = [] }
