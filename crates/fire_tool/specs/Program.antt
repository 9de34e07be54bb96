-- What a run of the program has done, by the words of its command line.
use Rattle.std.specs.Prelude.{ℕ, ◌≡◌, Bool, true, false, List, [], Option, None, Some, codes}
use Rattle.check_command.specs.Check.{CheckRun}
use Rattle.cursor_command.specs.CursorCommand.{CursorRun}
use Rattle.node_command.specs.declared.options.NodeOptions.{NodeOptions}
use Rattle.node_command.specs.NodeRuns.{NodeRun}
use Rattle.node_command.specs.NodeWords.{names_node}
use Rattle.steps_command.specs.Runs.{StepsRun}
use Rattle.command_io.specs.Streams.{Flow, ShelfState, Streams, TookInput, WroteNothing, ToldError}
use Rattle.fire_tool.specs.Words.{cursor_value, names_check, steps_first}

-- the input and the output were not touched
pub record Untouched (before after : Flow) : Type 0 where
  pub took : TookInput before after []
  pub text : WroteNothing before after

-- a run with words that name no command: nothing was read or written
pub record Misused (before after : Streams) (status : ℕ) : Type 0 where
  pub status_is : status ≡ 2
  pub untouched : Untouched before.flow after.flow
  pub told : ToldError before after (codes "fire: usage\n")

-- a run of `steps` from this number, where the words name one, and else one of words that name no command
abbrev pub Runs : Option ℕ → Streams → Streams → ℕ → Type 0
Runs None before after status = Misused before after status
Runs (Some first) before after status = StepsRun first before after status

-- a run of `cursor` with this value, where the words name that, and else of another command
abbrev pub RunsCommand : Option (List ℕ) → List (List ℕ) → Streams → Streams → ℕ → Type 0
RunsCommand None words before after status = Runs (steps_first words) before after status
RunsCommand (Some text) words before after status = CursorRun text before after status

-- a run of `node` with these options, where the words name that, and else of another command
abbrev pub RunsNode : Option NodeOptions → List (List ℕ) → Streams → Streams → ℕ → Type 0
RunsNode None words before after status = RunsCommand (cursor_value words) words before after status
RunsNode (Some options) words before after status = NodeRun options before after status

-- a run of `check`, where the words name that, and else of another command
abbrev pub RunsNamed : Bool → List (List ℕ) → ShelfState → ShelfState → Streams → Streams → ℕ → Type 0
RunsNamed true words shelf shelf' before after status = CheckRun shelf shelf' before after status
RunsNamed false words shelf shelf' before after status = RunsNode (names_node words) words before after status

-- a run with these words over a shelf that was so and is now so, by the command that they name
abbrev pub RunsPlain : List (List ℕ) → ShelfState → ShelfState → Streams → Streams → ℕ → Type 0
RunsPlain words shelf shelf' before after status = RunsNamed (names_check words) words shelf shelf' before after status
