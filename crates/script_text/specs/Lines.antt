-- What one line of a script says, by its words.
use Rattle.std.specs.Prelude.{ℕ, ◌==◌, ◌||◌, Bool, List, [], ◌∷◌, if◌then◌else◌, Option, None, Some, codes}
use Rattle.std.specs.Option.{option_map}
use Rattle.std.specs.Str.{bytes_eq}
use Rattle.block_record.specs.Number.{number_of}
use Rattle.script_text.specs.declared.script.Event.{Event}
use Rattle.script_text.specs.declared.script.Event.TheVariants as event
use Rattle.script_text.specs.declared.script.Saying.{Saying}
use Rattle.script_text.specs.declared.script.Saying.TheVariants.{Nothing, Sets, Tells}
use Rattle.script_text.specs.declared.script.Setting.{Setting}
use Rattle.script_text.specs.declared.script.Setting.TheVariants as setting
use Rattle.script_text.specs.Reading.{◌>>=◌}
use Rattle.script_text.specs.Words.{first_word, after_word, name_of, count_after, base64_of}
use Rattle.script_text.specs.Settings.{limit_of}

-- a name, a space, and bytes in base64
unfoldable pub bytes_event : List ℕ → Option Event
bytes_event text = do
  reader ← name_of (first_word text)
  rest ← after_word text
  bytes ← base64_of rest
  Some (event.Bytes reader bytes)

-- a name, a space, and any text
unfoldable pub line_event : List ℕ → Option Event
line_event text = do
  reader ← name_of (first_word text)
  rest ← after_word text
  Some (event.Line reader rest)

unfoldable pub open_event : List ℕ → Option Event
open_event text = do
  client ← name_of (first_word text)
  rest ← after_word text
  Some (event.Open client rest)

-- a name, a space, and a number of at least 1
unfoldable pub part_event : List ℕ → Option Event
part_event text = do
  client ← name_of (first_word text)
  steps ← count_after text
  Some (event.Part client steps)

-- an event of a reader's node, by its word and what stands after it
abbrev pub reader_event : List ℕ → List ℕ → Option Event
reader_event word text =
    if bytes_eq word (codes "bytes") then bytes_event text
    else if bytes_eq word (codes "line") then line_event text
    else if bytes_eq word (codes "death") then option_map (λ x. event.Death x) (name_of text)
    else None

-- an event by its word and what stands after it
unfoldable pub event_of : List ℕ → List ℕ → Option Event
event_of word text =
    if bytes_eq word (codes "open") then open_event text
    else if bytes_eq word (codes "look") then option_map (λ x. event.Look x) (name_of text)
    else if bytes_eq word (codes "part") then part_event text
    else if bytes_eq word (codes "drop") then option_map (λ x. event.Drop x) (name_of text)
    else reader_event word text

-- whether a word is that of a setting
abbrev pub is_setting : List ℕ → Bool
is_setting word = bytes_eq word (codes "first") || bytes_eq word (codes "run") || bytes_eq word (codes "limit")

-- a setting by its word and what stands after it
unfoldable pub setting_of : List ℕ → List ℕ → Option Setting
setting_of word text =
    if bytes_eq word (codes "first") then option_map (λ x. setting.First x) (number_of text)
    else if bytes_eq word (codes "run") then option_map (λ x. setting.Run x) (number_of text)
    else limit_of text

-- an event of one word, which nothing follows, not even a space
unfoldable pub lone_event : List ℕ → Option Event
lone_event word =
    if bytes_eq word (codes "merge") then Some event.Merge
    else if bytes_eq word (codes "close") then Some event.Close
    else None

-- what a word says with what stands after it
abbrev pub word_says : List ℕ → Option (List ℕ) → Option Saying
word_says word None = option_map (λ e. Tells e) (lone_event word)
word_says word (Some text) =
    if is_setting word then option_map (λ s. Sets s) (setting_of word text)
    else option_map (λ e. Tells e) (event_of word text)

-- what a line without its LF says; none where it is bad. An empty line, and one that begins with `#`, say nothing
unfoldable pub line_says : List ℕ → Option Saying
line_says [] = Some Nothing
line_says (b ∷ more) = if b == 35 then Some Nothing else word_says (first_word (b ∷ more)) (after_word (b ∷ more))
