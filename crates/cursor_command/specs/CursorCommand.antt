-- What the command `cursor` does: it writes the line of the cursor whose text it is given.
use Rattle.std.specs.Prelude.{ℕ, ◌≡◌, ◌⊎◌, ◌↔◌, List, [], ◌∷◌, ◌++◌, codes, Option, None, Some}
use Rattle.std.specs.Fmt.{decimal}
use Rattle.std.specs.Str.{IsUtf8}
use Rattle.outer_world.specs.Causes.{Rose}
use Rattle.outer_world.specs.Told.{Grows, GrowsByFront}
use Rattle.block_record.specs.declared.blocks.BlockRef.{BlockRef}
use Rattle.step_cursor.specs.declared.cursor.Cursor.{Cursor}
use Rattle.step_cursor.specs.declared.cursor.Tail.{Tail}
use Rattle.step_cursor.specs.CursorText.{cursor_text, IsPrintable}
use Rattle.step_cursor.specs.CursorParts.{cursor_fault}
use Rattle.cursor_command.specs.declared.cursor.CursorStop.{CursorStop}
use Rattle.cursor_command.specs.declared.cursor.CursorStop.TheVariants.{Mem, Write}
use Rattle.command_io.specs.Lines.{named}
use Rattle.step_text.specs.StepText.{word_of}
use Rattle.command_io.specs.Streams.{SinkState, Streams, TookInput, WroteNothing, ToldError}

-- a block that may be missing: `0 -`
abbrev pub place_text : Option BlockRef → List ℕ
place_text None = codes "0 -"
place_text (Some r) = named r.num r.id

-- a tail that may be missing: a dash in place of each number
abbrev pub tail_text : Option Tail → List ℕ
tail_text None = codes " run - seen -"
tail_text (Some t) = codes " run " ++ decimal t.run ++ codes " seen " ++ decimal t.seen

-- the line of a cursor: its step, its block, the end, the lib, the run and what was seen
abbrev pub cursor_line : Cursor → List ℕ
cursor_line c = word_of c.step ++ 32 ∷ named c.block.num c.block.id ++ codes " end " ++ place_text c.place.end ++ codes " lib " ++ place_text c.place.lib ++ tail_text c.tail ++ 10 ∷ []

-- the line of a text whose first bad part has this place
abbrev pub malformed_line : ℕ → List ℕ
malformed_line place = codes "fire: malformed " ++ decimal place ++ 10 ∷ []

-- the text is that of this cursor
pub record IsTextOf (text : List ℕ) (c : Cursor) : Type 0 where
  pub printable : IsPrintable c
  pub text_is : text ≡ cursor_text c

-- the text is that of a cursor, whose line was written; no error line is told
pub record LineWritten (text : List ℕ) (before after : SinkState) (line : List ℕ) : Type 0 where
  pub cursor : Cursor
  pub text_of : IsTextOf text cursor
  pub written : Grows before.written after.written (cursor_line cursor)
  pub silent : line ≡ []

-- the text has a first bad part, which the error line names; nothing was written
pub record TextRefused (text : List ℕ) (before after : SinkState) (line : List ℕ) : Type 0 where
  pub place : ℕ
  pub place_is : cursor_fault text ≡ Some place
  pub line_is : line ≡ malformed_line place
  pub nothing : after.written ≡ before.written

-- the text is that of a cursor, and a front of its line was written
pub record LineCut (text : List ℕ) (before after : SinkState) : Type 0 where
  pub cursor : Cursor
  pub text_of : IsTextOf text cursor
  pub written : GrowsByFront before.written after.written (cursor_line cursor)

-- how the command ended with an answer: at 0 the line was written, at 16 the text was refused
abbrev pub CursorAnswered : List ℕ → SinkState → SinkState → List ℕ → ℕ → Type 0
CursorAnswered text before after line status =
    ((status ≡ 0) × LineWritten text before after line) ⊎ ((status ≡ 16) × TextRefused text before after line)

-- why it ended without one: memory, which is free, or a write failed
abbrev pub CursorStopped : CursorStop → List ℕ → SinkState → SinkState → Type 0
CursorStopped Mem text before after = after.written ≡ before.written
CursorStopped Write text before after = Rose before.faults after.faults × LineCut text before after

-- the line that says why
abbrev pub cursor_stop_line : CursorStop → List ℕ
cursor_stop_line Mem = codes "fire: out of memory\n"
cursor_stop_line Write = codes "fire: write fault\n"

-- and the status
abbrev pub cursor_stop_status : CursorStop → ℕ
cursor_stop_status Mem = 1
cursor_stop_status Write = 4

-- a run of the command with this value that ended with this status: which statuses there are, and what stands after each
pub record CursorRun (text : List ℕ) (before after : Streams) (status : ℕ) : Type 0 where
  pub known : (status ≡ 0) ⊎ (status ≡ 1) ⊎ (status ≡ 2) ⊎ (status ≡ 4) ⊎ (status ≡ 16)
  pub usage : (status ≡ 2) ↔ (¬ (IsUtf8 text))
  pub input : TookInput before.flow after.flow []
  pub told : status ≡ 0 → (line : List ℕ) × LineWritten text before.flow.output after.flow.output line × ToldError before after line
  pub refused : status ≡ 16 → (line : List ℕ) × TextRefused text before.flow.output after.flow.output line × ToldError before after line
  pub ran_out : status ≡ 1 → WroteNothing before.flow after.flow × ToldError before after (codes "fire: out of memory\n")
  pub misused : status ≡ 2 → WroteNothing before.flow after.flow × ToldError before after (codes "fire: usage\n")
  pub write_failed : status ≡ 4 → Rose before.flow.output.faults after.flow.output.faults × LineCut text before.flow.output after.flow.output × ToldError before after (codes "fire: write fault\n")
