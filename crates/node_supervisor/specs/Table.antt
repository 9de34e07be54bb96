-- The table of the supervisor, as a relation. It has one constructor for each row.
use Rattle.std.specs.Prelude.{◌≢◌, ℕ, ◌+◌, ◌-◌, ◌^◌, ◌<◌, ◌≤◌, min, max, Option, Some}
use Rattle.node_supervisor.specs.declared.event.Event.{Event}
use Rattle.node_supervisor.specs.declared.event.Event.TheVariants.{Begin, Started, StartFailed, Admitted, Exited, Broken, Waited, Stop}
use Rattle.node_supervisor.specs.declared.event.Action.{Action}
use Rattle.node_supervisor.specs.declared.event.Action.TheVariants.{Start, Read, Wait, Kill, Finished, GivenUp, Nothing}
use Rattle.node_supervisor.specs.declared.state.State.{State}
use Rattle.node_supervisor.specs.declared.state.State.TheVariants.{Idle, Starting, Running, Killing, Resting, Over}

-- what contracts see of a supervisor: its maximum, its state and its deaths in a row
pub record Standing : Type 0 where
  pub max : ℕ
  pub state : State
  pub deaths : ℕ

-- at so many deaths in a row it gives up: at the maximum, and never before the first
abbrev pub limit_of : ℕ → ℕ
limit_of maximum = max 1 maximum

-- the units of the wait after so many deaths in a row: 1, doubled with each further death, at most 16
abbrev pub wait_units : ℕ → ℕ
wait_units deaths = min (2 ^ (deaths - 1)) 16

-- a death after `before` deaths in a row raises their number by one; at the maximum the end comes, and else a wait
pub data Death (maximum before : ℕ) : Action → State → ℕ → Type 0 where
  gives_up : maximum ≤ before + 1 → Death maximum before (GivenUp (before + 1)) Over (before + 1)
  rests : before + 1 < maximum → Death maximum before (Wait (wait_units (before + 1))) Resting (before + 1)

-- the rows that ask for something: state, event, action, new state, new number of deaths in a row
pub data Row (maximum deaths : ℕ) : State → Event → Action → State → ℕ → Type 0 where
  begins : Row maximum deaths Idle Begin Start Starting deaths
  started : Row maximum deaths Starting Started Read Running deaths
  start_fails : {action : Action} {state : State} {now : ℕ} → Death maximum deaths action state now → Row maximum deaths Starting StartFailed action state now
  admits : Row maximum deaths Running Admitted Read Running 0
  exits_clean : Row maximum deaths Running (Exited (Some 0)) Finished Over deaths
  exits_dead : {code : Option ℕ} {action : Action} {state : State} {now : ℕ} → code ≢ Some 0 → Death maximum deaths action state now → Row maximum deaths Running (Exited code) action state now
  breaks : Row maximum deaths Running Broken Kill Killing deaths
  killed : {code : Option ℕ} {action : Action} {state : State} {now : ℕ} → Death maximum deaths action state now → Row maximum deaths Killing (Exited code) action state now
  waited : Row maximum deaths Resting Waited Start Starting deaths
  stops_running : Row maximum deaths Running Stop Kill Over deaths
  stops_idle : Row maximum deaths Idle Stop Finished Over deaths
  stops_starting : Row maximum deaths Starting Stop Finished Over deaths
  stops_killing : Row maximum deaths Killing Stop Finished Over deaths
  stops_resting : Row maximum deaths Resting Stop Finished Over deaths

-- the state and the event have a row
abbrev pub HasRow : Standing → Event → Type 0
HasRow old event = (action : Action) × (state : State) × (deaths : ℕ) × Row old.max old.deaths old.state event action state deaths

-- the whole table: a row, or in any state any other event gives nothing and changes nothing. The maximum stays
pub data supervise (old : Standing) (event : Event) : Action → Standing → Type 0 where
  by_row : {action : Action} {state : State} {deaths : ℕ} → Row old.max old.deaths old.state event action state deaths → supervise old event action (record { max = old.max; state = state; deaths = deaths })
  by_no_row : ¬ HasRow old event → supervise old event Nothing old

-- before the end there are fewer deaths in a row than the limit
abbrev pub IsWithin : ℕ → State → ℕ → Type 0
IsWithin maximum Idle deaths = deaths < limit_of maximum
IsWithin maximum Starting deaths = deaths < limit_of maximum
IsWithin maximum Running deaths = deaths < limit_of maximum
IsWithin maximum Killing deaths = deaths < limit_of maximum
IsWithin maximum Resting deaths = deaths < limit_of maximum
IsWithin maximum Over deaths = deaths ≤ limit_of maximum
