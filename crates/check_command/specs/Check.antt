-- What the command `check` does: it reads the whole shelf, and writes how many files and blocks there are.
use Rattle.std.specs.Prelude.{ℕ, ◌≡◌, ◌⊎◌, List, [], Option, codes}
use Rattle.outer_world.specs.Causes.{Rose}
use Rattle.outer_world.specs.Files.{Files}
use Rattle.outer_world.specs.Told.{Grows, GrowsByFront}
use Rattle.one_block.specs.declared.file_faults.FileFault.TheVariants.{Bad, OtherType}
use Rattle.shelf_check.specs.declared.check.Report.{Report}
use Rattle.shelf_check.specs.Shelf.{IsGood, IsGoodShelf, IsFirstFault}
use Rattle.command_io.specs.Streams.{ShelfState, SinkState, Streams, TookInput, ToldError}
use Rattle.check_command.specs.declared.run.CheckStop.{CheckStop}
use Rattle.check_command.specs.declared.run.CheckStop.TheVariants.{Mem, Write, Shelf}
use Rattle.check_command.specs.Report.{report_text, bad_line, clash_line}

-- the shelf is good, and how many files and blocks it has was written; no error line is told
pub record Reported (files : Option Files) (before after : SinkState) (line : List ℕ) : Type 0 where
  pub report : Report
  pub good : IsGood files report
  pub written : Grows before.written after.written (report_text report)
  pub silent : line ≡ []

-- the first fault of the shelf is a bad file, which the error line names; nothing was written
pub record FoundBad (files : Option Files) (before after : SinkState) (line : List ℕ) : Type 0 where
  pub name : List ℕ
  pub at : ℕ
  pub first : IsFirstFault files name (Bad at)
  pub line_is : line ≡ bad_line name at
  pub nothing : after.written ≡ before.written

-- the first fault of the shelf is a file of another type, and the error line names both types; nothing was written
pub record FoundOther (files : Option Files) (before after : SinkState) (line : List ℕ) : Type 0 where
  pub name : List ℕ
  pub held : List ℕ
  pub offered : List ℕ
  pub first : IsFirstFault files name (OtherType held offered)
  pub line_is : line ≡ clash_line held offered
  pub nothing : after.written ≡ before.written

-- the shelf is good, and a front of the report was written
pub record ReportCut (files : Option Files) (before after : SinkState) : Type 0 where
  pub report : Report
  pub good : IsGood files report
  pub written : GrowsByFront before.written after.written (report_text report)

-- how the command ended with an answer: at 0 the report was written, at 8 a file is bad, at 14 one has another type
abbrev pub CheckAnswered : Option Files → SinkState → SinkState → List ℕ → ℕ → Type 0
CheckAnswered files before after line status =
    ((status ≡ 0) × Reported files before after line)
    ⊎ ((status ≡ 8) × FoundBad files before after line)
    ⊎ ((status ≡ 14) × FoundOther files before after line)

-- why it ended without one: memory, which is free, or a write or the shelf failed
abbrev pub CheckStopped : CheckStop → Option Files → ℕ → ℕ → SinkState → SinkState → Type 0
CheckStopped Mem files faults faults' before after = after.written ≡ before.written
CheckStopped Write files faults faults' before after = Rose before.faults after.faults × ReportCut files before after
CheckStopped Shelf files faults faults' before after = Rose faults faults' × (after.written ≡ before.written)

-- the line that says why
abbrev pub stop_line : CheckStop → List ℕ
stop_line Mem = codes "fire: out of memory\n"
stop_line Write = codes "fire: write fault\n"
stop_line Shelf = codes "fire: shelf fault\n"

-- and the status
abbrev pub stop_status : CheckStop → ℕ
stop_status Mem = 1
stop_status Write = 4
stop_status Shelf = 7

-- a run over a shelf that was so and is now so, that ended with this status: which statuses there are, and what stands after each
pub record CheckRun (shelf shelf' : ShelfState) (before after : Streams) (status : ℕ) : Type 0 where
  pub known : (status ≡ 0) ⊎ (status ≡ 1) ⊎ (status ≡ 4) ⊎ (status ≡ 7) ⊎ (status ≡ 8) ⊎ (status ≡ 14)
  pub input : TookInput before.flow after.flow []
  pub told : status ≡ 0 → (line : List ℕ) × Reported shelf.files before.flow.output after.flow.output line × ToldError before after line
  pub bad : status ≡ 8 → (line : List ℕ) × FoundBad shelf.files before.flow.output after.flow.output line × ToldError before after line
  pub other : status ≡ 14 → (line : List ℕ) × FoundOther shelf.files before.flow.output after.flow.output line × ToldError before after line
  pub ran_out : status ≡ 1 → (after.flow.output.written ≡ before.flow.output.written) × ToldError before after (codes "fire: out of memory\n")
  pub write_failed : status ≡ 4 → Rose before.flow.output.faults after.flow.output.faults × ReportCut shelf.files before.flow.output after.flow.output × ToldError before after (codes "fire: write fault\n")
  pub shelf_failed : status ≡ 7 → Rose shelf.faults shelf'.faults × (after.flow.output.written ≡ before.flow.output.written) × ToldError before after (codes "fire: shelf fault\n")

-- a good shelf is reported, unless there was no memory, or a write or the shelf failed
pub record ReportsGood (files : Option Files) (before after : Streams) (status : ℕ) : Type 0 where
  pub known : (report : Report) → IsGoodShelf files report → (status ≡ 0) ⊎ (status ≡ 1) ⊎ (status ≡ 4) ⊎ (status ≡ 7)
  pub told : (report : Report) → IsGoodShelf files report → status ≡ 0 → Grows before.flow.output.written after.flow.output.written (report_text report)
