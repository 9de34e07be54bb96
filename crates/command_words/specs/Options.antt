-- The options of a command, as its words give them.
use Rattle.std.specs.Prelude.{ℕ, Bool, false, not, ◌==◌, ◌&&◌, ◌+◌, List, [], ◌∷◌, codes, take, drop, nat_eq, if◌then◌else◌, Option, None, Some}
use Rattle.std.specs.List.{starts_with, position}
use Rattle.std.specs.Option.{is_some, option_map, option_and_then}

-- an option: its name without the dashes, and its value
pub record Named : Type 0 where
  pub name : List ℕ
  pub value : List ℕ

-- whether a value may be one of an option: it has a byte, and its first is no dash
abbrev pub is_value : List ℕ → Bool
is_value [] = false
is_value (b ∷ rest) = not (b == 45)

-- the option of a name with two dashes and a value
abbrev pub option_of : List ℕ → List ℕ → Option Named
option_of name value = if starts_with nat_eq name (codes "--") && is_value value then Some (record { name = drop 2 name; value = value }) else None

-- whether a byte is the sign between a name and its value in one word
abbrev pub is_equals : ℕ → Bool
is_equals b = b == 61

-- an option, and the words after it
abbrev pub with_rest : List (List ℕ) → Option Named → Option (Named × List (List ℕ))
with_rest rest option = option_map (λ o. (o, rest)) option

-- the option of a word and the next one
abbrev pub option_of_two : List ℕ → List (List ℕ) → Option (Named × List (List ℕ))
option_of_two word [] = None
option_of_two word (value ∷ more) = with_rest more (option_of word value)

-- the option of a word that has the sign at this place, and else of the word and the next one
abbrev pub option_at : List ℕ → List (List ℕ) → Option ℕ → Option (Named × List (List ℕ))
option_at word rest (Some at) = with_rest rest (option_of (take at word) (drop (at + 1) word))
option_at word rest None = option_of_two word rest

-- the first option of some words, as `--name=value` or as `--name` and the value, and the words after it
abbrev pub first_option : List (List ℕ) → Option (Named × List (List ℕ))
first_option [] = None
first_option (word ∷ rest) = option_at word rest (position is_equals word)

-- what the options of some words come to, each put to what those before it came to; none where the words are no options, or one of them isn't taken
abbrev pub all_options : {F : Type 0} → (F → Named → Option F) → F → List (List ℕ) → Option F
all_options put found [] = Some found
all_options put found (word ∷ []) = option_and_then (λ o. put found o.0) (first_option (word ∷ []))
all_options put found (word ∷ next ∷ more) =
    if is_some (position is_equals word) then
    option_and_then (λ o. option_and_then (λ f. all_options put f (next ∷ more)) (put found o.0)) (first_option (word ∷ next ∷ more))
    else option_and_then (λ o. option_and_then (λ f. all_options put f more) (put found o.0)) (first_option (word ∷ next ∷ more))
