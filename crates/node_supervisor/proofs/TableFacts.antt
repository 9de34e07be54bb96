-- The table is a function: each answer stands in it, and nothing else does.
use Rattle.std.proofs.Common.{◌≡◌, ◌≢◌, ℕ, zero, suc, ◌+◌, ◌<◌, Bool, true, false, Option, Some, None, sym, refl, ◌∙◌, subst, arith, true≢false}
use Rattle.std.proofs.lemmas.Bool.Decides.{nat_tests}
use Rattle.std.specs.Prelude.{nat_le, if◌then◌else◌}
use Rattle.node_supervisor.specs.Table.{Standing, limit_of, wait_units, Death, gives_up, rests, Row, begins, started, start_fails, admits, exits_clean, exits_dead, breaks, killed, waited, stops_running, stops_idle, stops_starting, stops_killing, stops_resting, HasRow, supervise, by_row, by_no_row, IsWithin}
use Rattle.node_supervisor.specs.Answers.{answers, death_of, exit_of, answer_of}
use Rattle.node_supervisor.specs.declared.event.Event.{Event}
use Rattle.node_supervisor.specs.declared.event.Event.TheVariants.{Begin, Started, StartFailed, Admitted, Exited, Broken, Waited, Stop}
use Rattle.node_supervisor.specs.declared.event.Action.{Action}
use Rattle.node_supervisor.specs.declared.event.Action.TheVariants.{Wait, GivenUp, Nothing}
use Rattle.node_supervisor.specs.declared.state.State.{State}
use Rattle.node_supervisor.specs.declared.state.State.TheVariants.{Idle, Starting, Running, Killing, Resting, Over}
use Rattle.node_supervisor.specs.declared.state.Answer.{Answer}

-- a standing by its parts
abbrev pub at : ℕ → State → ℕ → Standing
at maximum state deaths = record { max = maximum; state = state; deaths = deaths }

-- the standing that an answer leads to
abbrev pub after : ℕ → Answer → Standing
after maximum next = at maximum next.state next.deaths

-- these are the parts of the answer
abbrev Is : Answer → Action → State → ℕ → Type 0
Is next action state deaths = (action ≡ next.action) × (state ≡ next.state) × (deaths ≡ next.deaths)

-- a child that died has the answer to a death
death_stands : (maximum before : ℕ) → Death maximum before (death_of maximum before).action (death_of maximum before).state (death_of maximum before).deaths
death_stands maximum before =
    let here : Bool → Answer = λ b. if b then answers (GivenUp (before + 1)) Over (before + 1) else answers (Wait (wait_units (before + 1))) Resting (before + 1) in
    let P : Bool → Type 0 = λ b. nat_le maximum (before + 1) ≡ b → Death maximum before (here b).action (here b).state (here b).deaths in
    (elim (nat_le maximum (before + 1)) as P [
      | true ↦ λ e. gives_up (grind (arith, nat_tests))
      | false ↦ λ e. rests (grind (arith, nat_tests))
    ]) refl

death_is : {maximum before : ℕ} {action : Action} {state : State} {now : ℕ} → Death maximum before action state now → Is (death_of maximum before) action state now
death_is {maximum} {before} (gives_up full) =
    let here : Bool → Answer = λ b. if b then answers (GivenUp (before + 1)) Over (before + 1) else answers (Wait (wait_units (before + 1))) Resting (before + 1) in
    let e : nat_le maximum (before + 1) ≡ true = grind (arith, nat_tests) in
    subst (λ (b : Bool). Is (here b) (GivenUp (before + 1)) Over (before + 1)) (sym e) (refl, refl, refl)
death_is {maximum} {before} (rests room) =
    let here : Bool → Answer = λ b. if b then answers (GivenUp (before + 1)) Over (before + 1) else answers (Wait (wait_units (before + 1))) Resting (before + 1) in
    let e : nat_le maximum (before + 1) ≡ false = grind (arith, nat_tests) in
    subst (λ (b : Bool). Is (here b) (Wait (wait_units (before + 1))) Resting (before + 1)) (sym e) (refl, refl, refl)

exit_is : (maximum deaths : ℕ) (code : Option ℕ) → code ≢ Some 0 → exit_of maximum deaths code ≡ death_of maximum deaths
exit_is maximum deaths None dead = refl
exit_is maximum deaths (Some zero) dead = absurd (dead refl)
exit_is maximum deaths (Some (suc code)) dead = refl

exit_stands : (maximum deaths : ℕ) (code : Option ℕ) → Row maximum deaths Running (Exited code) (exit_of maximum deaths code).action (exit_of maximum deaths code).state (exit_of maximum deaths code).deaths
exit_stands maximum deaths None = exits_dead (λ e. cc) (death_stands maximum deaths)
exit_stands maximum deaths (Some zero) = exits_clean
exit_stands maximum deaths (Some (suc code)) = exits_dead (λ e. cc) (death_stands maximum deaths)

-- the state and the event have a row
abbrev has_row : State → Event → Bool
has_row Idle Begin = true
has_row Idle Stop = true
has_row Starting Started = true
has_row Starting StartFailed = true
has_row Starting Stop = true
has_row Running Admitted = true
has_row Running (Exited code) = true
has_row Running Broken = true
has_row Running Stop = true
has_row Killing (Exited code) = true
has_row Killing Stop = true
has_row Resting Waited = true
has_row Resting Stop = true
has_row state event = false

row_has : {maximum deaths : ℕ} {state : State} {event : Event} {action : Action} {new : State} {now : ℕ} → Row maximum deaths state event action new now → has_row state event ≡ true
row_has begins = refl
row_has started = refl
row_has (start_fails death) = refl
row_has admits = refl
row_has exits_clean = refl
row_has (exits_dead dead death) = refl
row_has breaks = refl
row_has (killed death) = refl
row_has waited = refl
row_has stops_running = refl
row_has stops_idle = refl
row_has stops_starting = refl
row_has stops_killing = refl
row_has stops_resting = refl

no_row : (maximum : ℕ) (state : State) (deaths : ℕ) (event : Event) → has_row state event ≡ false → ¬ HasRow (at maximum state deaths) event
no_row maximum state deaths event none has = true≢false (sym (row_has has.3) ∙ none)

row_is : {maximum deaths : ℕ} {state : State} {event : Event} {action : Action} {new : State} {now : ℕ} → Row maximum deaths state event action new now → Is (answer_of maximum state deaths event) action new now
row_is begins = (refl, refl, refl)
row_is started = (refl, refl, refl)
row_is (start_fails death) = death_is death
row_is admits = (refl, refl, refl)
row_is exits_clean = (refl, refl, refl)
row_is {maximum} {deaths} {action = action} {new = new} {now = now} (exits_dead {code} dead death) = subst (λ (next : Answer). Is next action new now) (sym (exit_is maximum deaths code dead)) (death_is death)
row_is breaks = (refl, refl, refl)
row_is (killed death) = death_is death
row_is waited = (refl, refl, refl)
row_is stops_running = (refl, refl, refl)
row_is stops_idle = (refl, refl, refl)
row_is stops_starting = (refl, refl, refl)
row_is stops_killing = (refl, refl, refl)
row_is stops_resting = (refl, refl, refl)

-- each answer stands in the table
pub stands : (maximum : ℕ) (state : State) (deaths : ℕ) (event : Event) → supervise (at maximum state deaths) event (answer_of maximum state deaths event).action (after maximum (answer_of maximum state deaths event))
stands maximum Idle deaths Begin = by_row begins
stands maximum Idle deaths Stop = by_row stops_idle
stands maximum Starting deaths Started = by_row started
stands maximum Starting deaths StartFailed = by_row (start_fails (death_stands maximum deaths))
stands maximum Starting deaths Stop = by_row stops_starting
stands maximum Running deaths Admitted = by_row admits
stands maximum Running deaths (Exited code) = by_row (exit_stands maximum deaths code)
stands maximum Running deaths Broken = by_row breaks
stands maximum Running deaths Stop = by_row stops_running
stands maximum Killing deaths (Exited code) = by_row (killed (death_stands maximum deaths))
stands maximum Killing deaths Stop = by_row stops_killing
stands maximum Resting deaths Waited = by_row waited
stands maximum Resting deaths Stop = by_row stops_resting
stands maximum state deaths event = by_no_row (no_row maximum state deaths event refl)

-- where there is no row, an answer of the table is nothing
nothing_else : {old : Standing} {event : Event} {action : Action} {new : Standing} → supervise old event action new → ¬ HasRow old event → (Nothing ≡ action) × (old ≡ new)
nothing_else (by_row row) none = absurd (none (_, _, _, row))
nothing_else (by_no_row _) none = (refl, refl)

-- nothing else stands in the table
pub only : {old : Standing} {event : Event} {action : Action} {new : Standing} → supervise old event action new
    → (action ≡ (answer_of old.max old.state old.deaths event).action) × (new ≡ after old.max (answer_of old.max old.state old.deaths event))
only {old} (by_row row) = let is = row_is row in (is.0, λ i. record { max = old.max; state = is.1 i; deaths = is.2 i })
only {old} {event} (by_no_row none) = nothing_else (stands old.max old.state old.deaths event) none

-- what a step does stands in the table
pub step_stands : (maximum : ℕ) (state : State) (deaths : ℕ) (event : Event) (old : Standing) (next : Answer) → at maximum state deaths ≡ old → next ≡ answer_of maximum state deaths event
    → supervise old event next.action (record { max = maximum; state = next.state; deaths = next.deaths })
step_stands maximum state deaths event old next is answered =
    let there : supervise (at maximum state deaths) event next.action (after maximum next) =
    subst (λ (next : Answer). supervise (at maximum state deaths) event next.action (after maximum next)) (sym answered) (stands maximum state deaths event)
    in subst (λ (old : Standing). supervise old event next.action (after maximum next)) is there

death_within : (maximum before : ℕ) → before < limit_of maximum → IsWithin maximum (death_of maximum before).state (death_of maximum before).deaths
death_within maximum before room =
    let here : Bool → Answer = λ b. if b then answers (GivenUp (before + 1)) Over (before + 1) else answers (Wait (wait_units (before + 1))) Resting (before + 1) in
    let P : Bool → Type 0 = λ b. nat_le maximum (before + 1) ≡ b → IsWithin maximum (here b).state (here b).deaths in
    (elim (nat_le maximum (before + 1)) as P [ true ↦ λ e. omega arith | false ↦ λ e. grind (arith, nat_tests) ]) refl

exit_within : (maximum deaths : ℕ) (code : Option ℕ) → deaths < limit_of maximum → IsWithin maximum (exit_of maximum deaths code).state (exit_of maximum deaths code).deaths
exit_within maximum deaths None room = death_within maximum deaths room
exit_within maximum deaths (Some zero) room = omega arith
exit_within maximum deaths (Some (suc code)) room = death_within maximum deaths room

-- before the end the deaths stay below the limit
pub within : (maximum : ℕ) (state : State) (deaths : ℕ) (event : Event) → IsWithin maximum state deaths → IsWithin maximum (answer_of maximum state deaths event).state (answer_of maximum state deaths event).deaths
within maximum Idle deaths Begin room = room
within maximum Idle deaths Stop room = omega arith
within maximum Starting deaths Started room = room
within maximum Starting deaths StartFailed room = death_within maximum deaths room
within maximum Starting deaths Stop room = omega arith
within maximum Running deaths Admitted room = omega arith
within maximum Running deaths (Exited code) room = exit_within maximum deaths code room
within maximum Running deaths Broken room = room
within maximum Running deaths Stop room = omega arith
within maximum Killing deaths (Exited code) room = death_within maximum deaths room
within maximum Killing deaths Stop room = omega arith
within maximum Resting deaths Waited room = room
within maximum Resting deaths Stop room = omega arith
within maximum state deaths event room = room
