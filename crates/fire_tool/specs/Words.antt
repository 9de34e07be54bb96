-- What the words of the command line name.
use Rattle.std.specs.Prelude.{ℕ, Bool, false, ◌==◌, List, [], ◌∷◌, codes, drop, nat_eq, if◌then◌else◌, Option, None, Some}
use Rattle.std.specs.List.{starts_with}
use Rattle.std.specs.Str.{bytes_eq}
use Rattle.block_record.specs.Number.{number_of}

-- whether the words are `check` alone
abbrev pub names_check : List (List ℕ) → Bool
names_check [] = false
names_check (command ∷ []) = bytes_eq command (codes "check")
names_check (command ∷ next ∷ more) = false

-- the value of `--first` in the one word `--first=N`
abbrev pub first_in : List ℕ → Option ℕ
first_in word = if starts_with nat_eq word (codes "--first=") then number_of (drop 8 word) else None

-- the value of `--first` in the two words `--first` and N
abbrev pub first_after : List ℕ → List ℕ → Option ℕ
first_after name value = if bytes_eq name (codes "--first") then number_of value else None

-- the first number that is taken, where the words are `steps` alone, or with this option: 0 where it is not given
abbrev pub steps_first : List (List ℕ) → Option ℕ
steps_first [] = None
steps_first (command ∷ []) = if bytes_eq command (codes "steps") then Some 0 else None
steps_first (command ∷ word ∷ []) = if bytes_eq command (codes "steps") then first_in word else None
steps_first (command ∷ name ∷ value ∷ []) = if bytes_eq command (codes "steps") then first_after name value else None
steps_first (command ∷ name ∷ value ∷ next ∷ more) = None

-- the value of an option, unless it is empty or begins with a dash
abbrev pub plain_value : List ℕ → Option (List ℕ)
plain_value [] = None
plain_value (b ∷ value) = if b == 45 then None else Some (b ∷ value)

-- the value in the one word `--text=VALUE`
abbrev pub value_in : List ℕ → Option (List ℕ)
value_in word = if starts_with nat_eq word (codes "--text=") then plain_value (drop 7 word) else None

-- the value in the two words `--text` and VALUE
abbrev pub value_after : List ℕ → List ℕ → Option (List ℕ)
value_after name value = if bytes_eq name (codes "--text") then plain_value value else None

-- the value of `--text`, where the words are `cursor` with this option and nothing else
abbrev pub cursor_value : List (List ℕ) → Option (List ℕ)
cursor_value [] = None
cursor_value (command ∷ []) = None
cursor_value (command ∷ word ∷ []) = if bytes_eq command (codes "cursor") then value_in word else None
cursor_value (command ∷ name ∷ value ∷ []) = if bytes_eq command (codes "cursor") then value_after name value else None
cursor_value (command ∷ name ∷ value ∷ next ∷ more) = None
