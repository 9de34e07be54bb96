-- The steps of the command.
use Rattle.std.specs.Prelude.{ℕ, ◌≡◌, List, [], Result, Err, ⊤, IfOk, IfErr}
use Rattle.outer_world.specs.Causes.{Rose}
use Rattle.outer_world.specs.Told.{Grows, GrowsByFront}
use Rattle.one_block.specs.declared.faults.StoreFault.TheVariants as store
use Rattle.shelf_check.specs.declared.check.Report.{Report}
use Rattle.shelf_check.specs.declared.faults.LoadFault.{LoadFault}
use Rattle.shelf_check.specs.declared.faults.LoadFault.TheVariants.{Store, KindClash, HistoryFull}
use Rattle.command_io.specs.declared.Ended.{Ended}
use Rattle.command_io.specs.Streams.{SinkState}
use Rattle.check_command.specs.declared.run.CheckStop.{CheckStop}
use Rattle.check_command.specs.declared.run.CheckStop.TheVariants.{Mem, Write, Shelf}
use Rattle.check_command.specs.Report.{report_text, bad_line, clash_line}

-- a report was written, and no error line is told
pub record TellsReport (report : Report) (before after : SinkState) (e : Ended) : Type 0 where
  pub status : e.status ≡ 0
  pub silent : e.line.items ≡ []
  pub written : Grows before.written after.written (report_text report)

-- why a report was not: memory, or a write that failed
abbrev pub StopsReport : CheckStop → Report → SinkState → SinkState → Type 0
StopsReport Mem report before after = after.written ≡ before.written
StopsReport Write report before after = Rose before.faults after.faults × GrowsByFront before.written after.written (report_text report)
StopsReport Shelf report before after = ⊥

-- an end with this status and this error line
pub record EndsWith (status : ℕ) (line : List ℕ) (e : Ended) : Type 0 where
  pub status_is : e.status ≡ status
  pub line_is : e.line.items ≡ line

-- such an end, or there was no memory
pub record EndsOrMem (status : ℕ) (line : List ℕ) (result : Result Ended CheckStop) : Type 0 where
  pub ends : IfOk result (EndsWith status line)
  pub memory : IfErr result (λ stop. stop ≡ Mem)

-- the refusals of a check
abbrev pub IsRefusal : LoadFault → Type 0
IsRefusal (Store store.ShelfFault) = ⊤
IsRefusal (Store (store.ShelfBad name at)) = ⊤
IsRefusal (Store (store.Missing name)) = ⊥
IsRefusal (Store (store.StoredOther kept read)) = ⊥
IsRefusal (Store (store.NameClash held offered)) = ⊥
IsRefusal (Store store.Mem) = ⊤
IsRefusal (KindClash held offered) = ⊤
IsRefusal (HistoryFull len need) = ⊥

-- how the command ends after such a refusal
abbrev pub EndsAfter : LoadFault → Result Ended CheckStop → Type 0
EndsAfter (Store store.ShelfFault) result = result ≡ Err Shelf
EndsAfter (Store (store.ShelfBad name at)) result = EndsOrMem 8 (bad_line name at) result
EndsAfter (Store (store.Missing name)) result = ⊥
EndsAfter (Store (store.StoredOther kept read)) result = ⊥
EndsAfter (Store (store.NameClash held offered)) result = ⊥
EndsAfter (Store store.Mem) result = result ≡ Err Mem
EndsAfter (KindClash held offered) result = EndsOrMem 14 (clash_line held offered) result
EndsAfter (HistoryFull len need) result = ⊥
