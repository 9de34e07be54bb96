-- What a run of `steps` has done, by its status.
use Rattle.std.specs.Prelude.{ℕ, ◌≡◌, ◌≢◌, ◌≤◌, ◌^◌, ◌⊎◌, List, ◌++◌, length, codes}
use Rattle.std.specs.Io.KnownBytes.{IsAtEnd}
use Rattle.outer_world.specs.Causes.{Rose}
use Rattle.outer_world.specs.Told.{Grows, GrowsByFront}
use Rattle.steps_command.specs.declared.steps.StepsStop.{StepsStop}
use Rattle.steps_command.specs.declared.steps.StepsStop.TheVariants.{Mem, Read, Write, TooLong}
use Rattle.relay_model.specs.Orders.{linked_order}
use Rattle.step_laws.specs.Laws.{AreOrderly, TellsHead}
use Rattle.step_laws.specs.Telling.{blocks_of}
use Rattle.step_text.specs.StepText.{step_text, whole}
use Rattle.steps_command.specs.ErrorLines.{ending_line, ending_status}
use Rattle.command_io.specs.Streams.{Flow, Streams, TookInput, ToldError}

-- nothing in the input ended the run before its last piece, which is what one read may give
pub record EndsInPiece (first : ℕ) (input : List ℕ) : Type 0 where
  pub front : List ℕ
  pub piece : List ℕ
  pub input_is : input ≡ front ++ piece
  pub size : length piece ≤ 65_536
  pub goes_on : (step_text first front).ending ≡ whole

-- the statuses of a run that wrote its whole step text
abbrev pub IsAnswer : ℕ → Type 0
IsAnswer status = (status ≡ 0) ⊎ (status ≡ 5) ⊎ (status ≡ 6) ⊎ (status ≡ 12)

-- the step text of the bytes taken stands written, and the status and the line name what ended it. At 0 the input was read to its end; at another
-- status the step text is the same whatever the input goes on with, and the piece that brought the end of the run was the last that was taken
pub record Answered (first : ℕ) (before after : Flow) (line : List ℕ) (status : ℕ) : Type 0 where
  pub input : List ℕ
  pub took : TookInput before after input
  pub text : Grows before.output.written after.output.written (step_text first input).text
  pub status_is : status ≡ ending_status (step_text first input).ending
  pub line_is : line ≡ ending_line (step_text first input).ending
  pub at_end : status ≡ 0 → IsAtEnd after.input.left
  pub ended : status ≢ 0 → (rest : List ℕ) → step_text first (input ++ rest) ≡ step_text first input
  pub last : status ≢ 0 → EndsInPiece first input
  -- at 0 the steps lead to the head of the order from scratch of the input's blocks, where each id is of one of them and the claims of that order agree
  pub scratch : status ≡ 0 → AreOrderly first (blocks_of input) → TellsHead (step_text first input).text (linked_order first (blocks_of input))

-- there was no memory: a front of the step text of the bytes taken stands written, and none was taken after a piece that ended the run
pub record RanOut (first : ℕ) (before after : Flow) : Type 0 where
  pub input : List ℕ
  pub took : TookInput before after input
  pub last : EndsInPiece first input
  pub text : GrowsByFront before.output.written after.output.written (step_text first input).text

-- a read failed: nothing in the bytes taken had ended the run, and their step text stands written
pub record ReadFailed (first : ℕ) (before after : Flow) : Type 0 where
  pub input : List ℕ
  pub took : TookInput before after input
  pub cause : Rose before.input.faults after.input.faults
  pub goes_on : (step_text first input).ending ≡ whole
  pub text : Grows before.output.written after.output.written (step_text first input).text

-- a write failed: a front of the step text of the bytes taken stands written, and none was taken after a piece that ended the run
pub record WriteFailed (first : ℕ) (before after : Flow) : Type 0 where
  pub input : List ℕ
  pub took : TookInput before after input
  pub cause : Rose before.output.faults after.output.faults
  pub last : EndsInPiece first input
  pub text : GrowsByFront before.output.written after.output.written (step_text first input).text

-- so many bytes were taken that no end was waited for: nothing in them ended the run, and their step text stands written
pub record TookTooMuch (first : ℕ) (before after : Flow) : Type 0 where
  pub input : List ℕ
  pub took : TookInput before after input
  pub cause : 2 ^ 40 ≤ length input
  pub goes_on : (step_text first input).ending ≡ whole
  pub text : Grows before.output.written after.output.written (step_text first input).text

-- what `steps` has done where it stopped without an answer
abbrev pub Stopped : ℕ → StepsStop → Flow → Flow → Type 0
Stopped first Mem before after = RanOut first before after
Stopped first Read before after = ReadFailed first before after
Stopped first Write before after = WriteFailed first before after
Stopped first TooLong before after = TookTooMuch first before after

-- the line that says why
abbrev pub stop_line : StepsStop → List ℕ
stop_line Mem = codes "fire: out of memory\n"
stop_line Read = codes "fire: read fault\n"
stop_line Write = codes "fire: write fault\n"
stop_line TooLong = codes "fire: input too long\n"

-- and the status
abbrev pub stop_status : StepsStop → ℕ
stop_status Mem = 1
stop_status Read = 3
stop_status Write = 4
stop_status TooLong = 11

-- a run of `steps` for blocks with numbers of at least `first` that ended with this status: which statuses there are, and what stands after each
pub record StepsRun (first : ℕ) (before after : Streams) (status : ℕ) : Type 0 where
  pub known : IsAnswer status ⊎ (status ≡ 1) ⊎ (status ≡ 3) ⊎ (status ≡ 4) ⊎ (status ≡ 11)
  pub answered : IsAnswer status → (line : List ℕ) × Answered first before.flow after.flow line status × ToldError before after line
  pub ran_out : status ≡ 1 → RanOut first before.flow after.flow × ToldError before after (codes "fire: out of memory\n")
  pub read_failed : status ≡ 3 → ReadFailed first before.flow after.flow × ToldError before after (codes "fire: read fault\n")
  pub write_failed : status ≡ 4 → WriteFailed first before.flow after.flow × ToldError before after (codes "fire: write fault\n")
  pub too_much : status ≡ 11 → TookTooMuch first before.flow after.flow × ToldError before after (codes "fire: input too long\n")
