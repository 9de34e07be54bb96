-- What a whole text says: its lines in order, each of which must fit those before it.
use Rattle.std.specs.Prelude.{ℕ, ◌≡◌, ◌+◌, ◌==◌, ◌++◌, List, [], ◌∷◌, length, if◌then◌else◌, Option, None, Some, Result, Ok, Err}
use Rattle.std.specs.List.{slice_split}
use Rattle.block_relay.specs.declared.limits.Limits.{Limits}
use Rattle.script_text.specs.declared.faults.ScriptFault.{ScriptFault}
use Rattle.script_text.specs.declared.faults.ScriptFault.TheVariants.{BadScript, Mem}
use Rattle.script_text.specs.declared.names.Used.{Used}
use Rattle.script_text.specs.declared.parse.Progress.{Progress}
use Rattle.script_text.specs.declared.script.Event.{Event}
use Rattle.script_text.specs.declared.script.Saying.{Saying}
use Rattle.script_text.specs.declared.script.Saying.TheVariants.{Nothing, Sets, Tells}
use Rattle.script_text.specs.declared.script.Script.{Script}
use Rattle.script_text.specs.declared.script.Setting.{Setting}
use Rattle.script_text.specs.declared.settings.Settings.{Settings}
use Rattle.script_text.specs.Lines.{line_says}
use Rattle.script_text.specs.Names.{used_after}
use Rattle.script_text.specs.Reading.{◌>>=◌}
use Rattle.script_text.specs.Settings.{unset, is_set, with, or_else, limits_of}

-- what the lines so far say: the settings, whose the names are, and the events
pub record State : Type 0 where
  pub settings : Settings
  pub used : List Used
  pub events : List Event

-- the same, as the code keeps it
abbrev pub state_seen : Progress → State
state_seen p = record { settings = p.settings; used = p.used.items; events = p.events.items }

-- before the first line
abbrev pub start : State
start = record { settings = unset; used = []; events = [] }

-- after a setting, which comes before each event and at most once
abbrev pub set_in : State → Setting → Option State
set_in state s = if length state.events == 0 then if is_set state.settings s then None else Some (record state { settings = with state.settings s }) else None

-- after an event, whose name must fit
abbrev pub told_in : State → Event → Option State
told_in state e = used_after e state.used >>= λ used. Some (record { settings = state.settings; used = used; events = state.events ++ e ∷ [] })

-- the state after a line that says this; none where the line doesn't fit those before it
abbrev pub state_after : State → Saying → Option State
state_after state Nothing = Some state
state_after state (Sets s) = set_in state s
state_after state (Tells e) = told_in state e

-- the state after a line
unfoldable pub line_after : State → List ℕ → Option State
line_after state text = line_says text >>= state_after state

-- what is read of the lines that follow, where so many were read and led to this state: the last state, or the number of the first bad line. Lines are counted from 1
abbrev pub read_lines : ℕ → Option State → List (List ℕ) → Result State ℕ
read_lines number None more = Err number
read_lines number (Some state) [] = Ok state
read_lines number (Some state) (text ∷ more) = read_lines (number + 1) (line_after state text) more

-- what a script sets, and what happens in it
pub record Plan : Type 0 where
  pub first : ℕ
  pub run : ℕ
  pub limits : Limits
  pub events : List Event

-- the same, as the code gives it
abbrev pub script_seen : Script → Plan
script_seen s = record { first = s.first; run = s.run; limits = s.limits; events = s.events.items }

-- the script of a last state
abbrev pub plan_of : State → Plan
plan_of state = record { first = or_else 0 state.settings.first; run = or_else 0 state.settings.run; limits = limits_of state.settings; events = state.events }

abbrev pub plan_in : Result State ℕ → Result Plan ℕ
plan_in (Ok state) = Ok (plan_of state)
plan_in (Err number) = Err number

-- the script that some lines are, or the number of the first bad one
abbrev pub lines_script : List (List ℕ) → Result Plan ℕ
lines_script lines = plan_in (read_lines 0 (Some start) lines)

-- the script that a text is, or the number of its first bad line. What stands after the last LF is a last line, and an empty one says nothing
abbrev pub script_of : List ℕ → Result Plan ℕ
script_of text = lines_script (slice_split (λ b. b == 10) text)

-- what a text that is this is answered; without memory nothing is said
abbrev pub Refuses : ScriptFault → Result Plan ℕ → Type 0
Refuses (BadScript line) expected = expected ≡ Err line
Refuses Mem expected = Unit {0}

abbrev pub Answers : Result Script ScriptFault → Result Plan ℕ → Type 0
Answers (Ok script) expected = expected ≡ Ok (script_seen script)
Answers (Err fault) expected = Refuses fault expected
