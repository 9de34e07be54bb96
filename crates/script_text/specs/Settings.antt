-- The settings of a script, each at most once.
use Rattle.std.specs.Prelude.{ℕ, nat_le, Bool, List, if◌then◌else◌, Option, None, Some, codes}
use Rattle.std.specs.Option.{is_some, option_map}
use Rattle.std.specs.Str.{bytes_eq}
use Rattle.block_relay.specs.declared.limits.Limits.{Limits}
use Rattle.script_text.specs.declared.script.Setting.{Setting}
use Rattle.script_text.specs.declared.script.Setting.TheVariants as setting
use Rattle.script_text.specs.declared.settings.Settings.{Settings}
use Rattle.script_text.specs.Reading.{◌>>=◌}
use Rattle.script_text.specs.Words.{first_word, count_after}

-- a value that is at most this
abbrev pub at_most : ℕ → ℕ → Option ℕ
at_most max n = if nat_le n max then Some n else None

-- the limit that a word names, where its value is at most its greatest one
abbrev pub short_limit : List ℕ → ℕ → Option Setting
short_limit word n =
    if bytes_eq word (codes "chunk") then option_map (λ n. setting.Chunk n) (at_most 256 n)
    else if bytes_eq word (codes "deaths") then option_map (λ n. setting.Deaths n) (at_most 5 n)
    else if bytes_eq word (codes "hold") then option_map (λ n. setting.Hold n) (at_most 1_000_000 n)
    else None

abbrev pub block_limit : List ℕ → ℕ → Option Setting
block_limit word n =
    if bytes_eq word (codes "wait_blocks") then option_map (λ n. setting.WaitBlocks n) (at_most 1_024 n)
    else if bytes_eq word (codes "wait_bytes") then option_map (λ n. setting.WaitBytes n) (at_most 536_870_912 n)
    else if bytes_eq word (codes "history") then option_map (λ n. setting.History n) (at_most 4_194_304 n)
    else short_limit word n

unfoldable pub limit_with : List ℕ → ℕ → Option Setting
limit_with word n =
    if bytes_eq word (codes "line") then option_map (λ n. setting.Line n) (at_most 67_108_864 n)
    else if bytes_eq word (codes "request") then option_map (λ n. setting.Request n) (at_most 65_536 n)
    else block_limit word n

-- a limit by its name and its value, which is at least 1
abbrev pub limit_of : List ℕ → Option Setting
limit_of text = count_after text >>= limit_with (first_word text)

-- nothing is set
abbrev pub unset : Settings
unset = record { first = None; run = None; line = None; request = None; wait_blocks = None; wait_bytes = None; history = None; chunk = None; deaths = None; hold = None }

-- whether the setting has a value, whatever this one is
abbrev pub is_set : Settings → Setting → Bool
is_set s (setting.First n) = is_some s.first
is_set s (setting.Run n) = is_some s.run
is_set s (setting.Line n) = is_some s.line
is_set s (setting.Request n) = is_some s.request
is_set s (setting.WaitBlocks n) = is_some s.wait_blocks
is_set s (setting.WaitBytes n) = is_some s.wait_bytes
is_set s (setting.History n) = is_some s.history
is_set s (setting.Chunk n) = is_some s.chunk
is_set s (setting.Deaths n) = is_some s.deaths
is_set s (setting.Hold n) = is_some s.hold

-- the settings, where this one has its value
abbrev pub with : Settings → Setting → Settings
with s (setting.First n) = record s { first = Some n }
with s (setting.Run n) = record s { run = Some n }
with s (setting.Line n) = record s { line = Some n }
with s (setting.Request n) = record s { request = Some n }
with s (setting.WaitBlocks n) = record s { wait_blocks = Some n }
with s (setting.WaitBytes n) = record s { wait_bytes = Some n }
with s (setting.History n) = record s { history = Some n }
with s (setting.Chunk n) = record s { chunk = Some n }
with s (setting.Deaths n) = record s { deaths = Some n }
with s (setting.Hold n) = record s { hold = Some n }

-- a setting's value, or this one where it has none
abbrev pub or_else : ℕ → Option ℕ → ℕ
or_else n None = n
or_else n (Some m) = m

-- the limits; each is its greatest value where it isn't set
abbrev pub limits_of : Settings → Limits
limits_of s = record {
  line = or_else 67_108_864 s.line;
  request = or_else 65_536 s.request;
  wait_blocks = or_else 1_024 s.wait_blocks;
  wait_bytes = or_else 536_870_912 s.wait_bytes;
  history = or_else 4_194_304 s.history;
  chunk = or_else 256 s.chunk;
  deaths = or_else 5 s.deaths;
  hold = or_else 1_000_000 s.hold;
}
