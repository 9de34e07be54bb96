-- Runs of the command that the words name.
use Rattle.std.proofs.Common.{◌≡◌, ℕ, Bool, true, false, List, None, Some, subst, sym}
use Rattle.check_command.specs.Check.{CheckRun}
use Rattle.cursor_command.specs.CursorCommand.{CursorRun}
use Rattle.fire_tool.specs.Program.{RunsCommand, RunsNamed, RunsNode, RunsPlain}
use Rattle.command_io.specs.Streams.{ShelfState, Streams}
use Rattle.node_command.specs.declared.options.NodeOptions.{NodeOptions}
use Rattle.node_command.specs.NodeRuns.{NodeRun}
use Rattle.node_command.specs.NodeWords.{names_node}
use Rattle.fire_tool.specs.Words.{cursor_value, names_check}

-- a run of `cursor`, where the words name it
pub cursor_words : (words : List (List ℕ)) (text : List ℕ) (before after : Streams) (status : ℕ) → None ≡ names_node words → Some text ≡ cursor_value words
    → CursorRun text before after status → RunsNode (names_node words) words before after status
cursor_words words text before after status other named run =
    subst (λ node. RunsNode node words before after status) other (subst (λ value. RunsCommand value words before after status) named run)

-- a run of `node`, where the words name it
pub node_words : (words : List (List ℕ)) (options : NodeOptions) (before after : Streams) (status : ℕ) → Some options ≡ names_node words → NodeRun options before after status → RunsNode (names_node words) words before after status
node_words words options before after status named run = subst (λ node. RunsNode node words before after status) named run

-- of another command than `check`
pub other_words : (words : List (List ℕ)) (shelf shelf' : ShelfState) (before after : Streams) (status : ℕ) → names_check words ≡ false → RunsNode (names_node words) words before after status
    → RunsPlain words shelf shelf' before after status
other_words words shelf shelf' before after status other run = subst (λ (check : Bool). RunsNamed check words shelf shelf' before after status) (sym other) run

-- the same of `check`
pub check_words : (words : List (List ℕ)) (shelf shelf' : ShelfState) (before after : Streams) (status : ℕ) → names_check words ≡ true → CheckRun shelf shelf' before after status → RunsPlain words shelf shelf' before after status
check_words words shelf shelf' before after status named run = subst (λ (check : Bool). RunsNamed check words shelf shelf' before after status) (sym named) run
