-- The lines that a client is sent, as a replay writes them.
use Rattle.std.specs.Prelude.{ℕ, ◌≡◌, Bool, true, ◌==◌, if◌then◌else◌, List, [], ◌∷◌, ◌++◌, codes}

-- a text with these bytes before each of its lines; whether a line begins where the text does is told
abbrev pub lines_after : List ℕ → Bool → List ℕ → List ℕ
lines_after front begins [] = []
lines_after front begins (b ∷ text) = (if begins then front else []) ++ b ∷ lines_after front (b == 10) text

-- a text with these bytes before each of its lines
abbrev pub each_line_after : List ℕ → List ℕ → List ℕ
each_line_after front text = lines_after front true text

-- the lines that a client is sent, each with its name and a space before it
abbrev pub client_lines : List ℕ → List ℕ → List ℕ
client_lines c text = each_line_after (c ++ codes " ") text

-- a text begins with a line and goes on with a rest: with bytes before each of its lines, it is the line with them, and then the lines of the rest
abbrev pub BeginsWithLine : List ℕ → List ℕ → List ℕ → Type 0
BeginsWithLine text line rest = (front : List ℕ) → each_line_after front text ≡ front ++ (line ++ each_line_after front rest)
