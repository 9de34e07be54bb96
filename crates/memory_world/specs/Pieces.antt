-- How contracts see a source that gives its bytes in pieces.
use Rattle.std.specs.Prelude.{ℕ, min, max, List, [], ◌∷◌, length}

-- the bytes that it gave, those that it has left, and the lengths of the pieces that come next
pub record PiecesState : Type 0 where
  pub given : List ℕ
  pub left : List ℕ
  pub lengths : List ℕ

-- a source of these bytes that has given none
abbrev pub uncut : List ℕ → List ℕ → PiecesState
uncut bytes lengths = record { given = []; left = bytes; lengths = lengths }

-- how many bytes a read into this much room may give: the next length of the list, where a 0 counts as 1, and past the list all that fits
abbrev pub piece_limit : List ℕ → ℕ → ℕ
piece_limit [] room = room
piece_limit (n ∷ ns) room = min room (max n 1)

-- how many bytes a read into this much room gives
abbrev pub piece_size : PiecesState → ℕ → ℕ
piece_size source room = min (piece_limit source.lengths room) (length source.left)

-- the lengths after a read
abbrev pub rest_of : List ℕ → List ℕ
rest_of [] = []
rest_of (n ∷ ns) = ns
