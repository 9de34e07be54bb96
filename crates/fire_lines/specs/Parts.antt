-- The parts of a text between bytes of one kind.
use Rattle.std.specs.Prelude.{ℕ, ◌≡◌, ◌-◌, ◌==◌, List, [], ◌∷◌, length, take, slice_index, if◌then◌else◌, Option, None, Some}
use Rattle.std.specs.Borrow.{Bor}
use Rattle.fire_lines.specs.declared.words.Words.{Words}

-- the byte before the first of the parts
abbrev pub onto_first : ℕ → List (List ℕ) → List (List ℕ)
onto_first b [] = (b ∷ []) ∷ []
onto_first b (part ∷ more) = (b ∷ part) ∷ more

-- the parts of a text between the separators; a text without one is the only part
abbrev pub parts : ℕ → List ℕ → List (List ℕ)
parts separator [] = [] ∷ []
parts separator (b ∷ text) = if b == separator then [] ∷ parts separator text else onto_first b (parts separator text)

-- the last of the parts
abbrev pub last_part : List (List ℕ) → List ℕ
last_part [] = []
last_part (part ∷ []) = part
last_part (part ∷ next ∷ more) = last_part (next ∷ more)

-- what follows the last LF of a text
abbrev pub tail_of : List ℕ → List ℕ
tail_of text = last_part (parts 10 text)

-- the words of a text, between single spaces
abbrev pub words : List ℕ → List (List ℕ)
words text = parts 32 text

-- a text was cut at its first separator, or it has none
abbrev pub SplitsFirst : ℕ → List ℕ → Option (Bor (List ℕ) × Bor (List ℕ)) → Type 0
SplitsFirst separator text None = parts separator text ≡ text ∷ []
SplitsFirst separator text (Some cut) = parts separator text ≡ cut.0.now ∷ parts separator cut.1.now

-- the words of a text, or none where there is no text
abbrev pub words_of : Option (Bor (List ℕ)) → List (List ℕ)
words_of None = []
words_of (Some text) = words text.now

-- the words that are left to give
abbrev pub words_left : Words → List (List ℕ)
words_left w = words_of w.left

-- a line without the one CR at its end, where there is one
abbrev pub without_cr : List ℕ → List ℕ
without_cr line = if slice_index line (length line - 1) == 13 then take (length line - 1) line else line
