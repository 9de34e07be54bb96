-- The answer of the table as a function, for the code that computes it. That it stands in the table is proved.
use Rattle.std.specs.Prelude.{ℕ, suc, zero, ◌+◌, Option, Some, None, nat_le, if◌then◌else◌}
use Rattle.node_supervisor.specs.Table.{wait_units}
use Rattle.node_supervisor.specs.declared.event.Event.{Event}
use Rattle.node_supervisor.specs.declared.event.Event.TheVariants.{Begin, Started, StartFailed, Admitted, Exited, Broken, Waited, Stop}
use Rattle.node_supervisor.specs.declared.event.Action.{Action}
use Rattle.node_supervisor.specs.declared.event.Action.TheVariants.{Start, Read, Wait, Kill, Finished, GivenUp, Nothing}
use Rattle.node_supervisor.specs.declared.state.State.{State}
use Rattle.node_supervisor.specs.declared.state.State.TheVariants.{Idle, Starting, Running, Killing, Resting, Over}
use Rattle.node_supervisor.specs.declared.state.Answer.{Answer}

-- an action, a new state and a new number of deaths in a row
abbrev pub answers : Action → State → ℕ → Answer
answers action state deaths = record { action = action; state = state; deaths = deaths }

-- the answer to a death, where `deaths` counts it
abbrev pub answer_at : ℕ → ℕ → Answer
answer_at maximum deaths = if nat_le maximum deaths then answers (GivenUp deaths) Over deaths else answers (Wait (wait_units deaths)) Resting deaths

-- the answer to a death after so many deaths in a row
abbrev pub death_of : ℕ → ℕ → Answer
death_of maximum deaths = answer_at maximum (deaths + 1)

-- the answer to an exit of a child that runs
abbrev pub exit_of : ℕ → ℕ → Option ℕ → Answer
exit_of maximum deaths None = death_of maximum deaths
exit_of maximum deaths (Some zero) = answers Finished Over deaths
exit_of maximum deaths (Some (suc code)) = death_of maximum deaths

-- the answer of the table
abbrev pub answer_of : ℕ → State → ℕ → Event → Answer
answer_of maximum Idle deaths Begin = answers Start Starting deaths
answer_of maximum Idle deaths Stop = answers Finished Over deaths
answer_of maximum Starting deaths Started = answers Read Running deaths
answer_of maximum Starting deaths StartFailed = death_of maximum deaths
answer_of maximum Starting deaths Stop = answers Finished Over deaths
answer_of maximum Running deaths Admitted = answers Read Running 0
answer_of maximum Running deaths (Exited code) = exit_of maximum deaths code
answer_of maximum Running deaths Broken = answers Kill Killing deaths
answer_of maximum Running deaths Stop = answers Kill Over deaths
answer_of maximum Killing deaths (Exited code) = death_of maximum deaths
answer_of maximum Killing deaths Stop = answers Finished Over deaths
answer_of maximum Resting deaths Waited = answers Start Starting deaths
answer_of maximum Resting deaths Stop = answers Finished Over deaths
answer_of maximum state deaths event = answers Nothing state deaths
