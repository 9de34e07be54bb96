-- What an answer to a look says.
use Rattle.std.specs.Prelude.{ℕ, ◌≡◌, ◌<◌, ◌^◌, ◌||◌, Bool, not, nat_lt, List, length, if◌then◌else◌, Option, None, Some, Result, Ok, Err}
use Rattle.block_record.specs.declared.blocks.Slip.{Slip}
use Rattle.block_record.specs.declared.blocks.BlockRef.{BlockRef}
use Rattle.chain_model.specs.Places.{PlaceFits}
use Rattle.chain_model.specs.Steps.{BlockStep}
use Rattle.step_cursor.specs.declared.cursor.Request.{Request}
use Rattle.step_cursor.specs.declared.cursor.Tail.{Tail}
use Rattle.step_cursor.specs.declared.cursor.MisfitField.{MisfitField}
use Rattle.step_cursor.specs.declared.cursor.MisfitField.TheVariants as field
use Rattle.relay_model.specs.Worlds.{World}
use Rattle.relay_model.specs.Looks.{Position as Standing, Start, At, Look as Said, Batch, NotYet, Done, Closing, Unknown, Misfit, StopBelow, is_ahead, is_final_by, is_none, look_idle}
use Rattle.fork_db.specs.Batches.{IsGiven, step_total}
use Rattle.relay_look.specs.declared.answers.Look.{Look}
use Rattle.relay_look.specs.declared.answers.Look.TheVariants as look
use Rattle.relay_look.specs.declared.answers.LookFault.{LookFault}
use Rattle.relay_look.specs.declared.answers.LookFault.TheVariants as fault
use Rattle.relay_look.specs.declared.answers.Position.{Position}
use Rattle.relay_look.specs.declared.answers.Position.TheVariants as position

-- the answer is what the rules say; want of memory may come in place of any
abbrev pub IsLook : Said → Result Look LookFault → Type 0
IsLook said (Ok (look.Batch b)) = said ≡ Batch b.seen b.place
IsLook said (Ok (look.NotYet len)) = said ≡ NotYet len
IsLook said (Ok (look.Done len)) = said ≡ Done len
IsLook said (Ok (look.Closing len)) = said ≡ Closing len
IsLook said (Err (fault.Unknown id)) = said ≡ Unknown id
IsLook said (Err (fault.Misfit field)) = said ≡ Misfit field
IsLook said (Err (fault.StopBelow end)) = said ≡ StopBelow end
IsLook said (Err fault.Mem) = Unit {0}

-- a batch that is answered has the steps of this history to the request's target
abbrev pub HasBatchOf : List Slip → Request → Result Look LookFault → Type 0
HasBatchOf newest r (Ok (look.Batch b)) = IsGiven newest newest r.mode r.stop b
HasBatchOf newest r (Ok (look.NotYet len)) = Unit {0}
HasBatchOf newest r (Ok (look.Done len)) = Unit {0}
HasBatchOf newest r (Ok (look.Closing len)) = Unit {0}
HasBatchOf newest r (Err e) = Unit {0}

-- a batch that is answered has fewer than 2 ^ 64 steps, by its counts
abbrev pub HasFewSteps : Result Look LookFault → Type 0
HasFewSteps (Ok (look.Batch b)) = step_total b < 2 ^ 64
HasFewSteps (Ok (look.NotYet len)) = Unit {0}
HasFewSteps (Ok (look.Done len)) = Unit {0}
HasFewSteps (Ok (look.Closing len)) = Unit {0}
HasFewSteps (Err e) = Unit {0}

-- the position as the rules have it
abbrev pub position_of : Position → Standing
position_of position.Start = Start
position_of (position.At place) = At place

-- a place where a client stands fits the history
abbrev pub FitsAt : List Slip → Position → Type 0
FitsAt newest position.Start = Unit {0}
FitsAt newest (position.At place) = PlaceFits newest place.end place.lib

-- the world has this history, and is closed or not
pub record Shows (w : World) (newest : List Slip) (is_closed : Bool) : Type 0 where
  pub history : w.history ≡ newest
  pub closed : w.closed ≡ is_closed

-- and is of this run
pub record LooksAt (w : World) (newest : List Slip) (number : ℕ) (is_closed : Bool) : Type 0 where
  pub shows : Shows w newest is_closed
  pub run : w.run ≡ number

-- the number of the end, where the stop is below it
abbrev pub stop_passed : Option ℕ → Option BlockRef → Option ℕ
stop_passed (Some stop) (Some end) = if nat_lt stop end.num then Some end.num else None
stop_passed stop end = None

-- whether a batch with these steps is an answer: at the start it may have none
abbrev pub sends : Bool → List BlockStep → Bool
sends is_first steps = is_first || not (is_none steps)

-- the answer where there are no steps
abbrev pub idle_or_done : World → Option ℕ → Said
idle_or_done w stop = if is_final_by w.history stop then Done (length w.history) else look_idle w

-- the field of what was seen, where that is more than the run has
abbrev pub seen_misfit : ℕ → List Slip → Option Tail → Option MisfitField
seen_misfit number newest tail = if is_ahead number newest tail then Some field.Seen else None
