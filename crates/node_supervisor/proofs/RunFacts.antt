-- Runs over lists of events.
use Rattle.std.proofs.Common.{◌≡◌, ℕ, ◌+◌, ◌<◌, List, [], ◌∷◌, ◌++◌, length, get_or, set, take, sym, refl, ◌∙◌, subst, add-one, arith}
use Rattle.std.proofs.Math.Seq.{take-suc}
use Rattle.std.proofs.lemmas.List.{take_more_set}
use Rattle.node_supervisor.specs.Table.{Standing, supervise}
use Rattle.node_supervisor.specs.Answers.{answer_of}
use Rattle.node_supervisor.specs.Runs.{IsRun, ended, stepped, OneAnswer, OneRun}
use Rattle.node_supervisor.specs.declared.event.Event.{Event}
use Rattle.node_supervisor.specs.declared.event.Action.{Action}
use Rattle.node_supervisor.proofs.TableFacts.{after, stands, only}

pub one_answer_holds : OneAnswer
one_answer_holds old event =
    ((answer_of old.max old.state old.deaths event).action, after old.max (answer_of old.max old.state old.deaths event), stands old.max old.state old.deaths event, λ other else row. only row)

-- a run has its events' actions and end
run_there : (events : List Event) (old : Standing) → (actions : List Action) × (last : Standing) × IsRun old events actions last
run_there [] old = ([], old, ended)
run_there (event ∷ events) old =
    let first = one_answer_holds old event in
    let later = run_there events first.1 in (first.0 ∷ later.0, later.1, stepped first.2 later.2)

-- two runs over the same events are one
run_same : {old : Standing} {events : List Event} {actions others : List Action} {last else : Standing} → IsRun old events actions last → IsRun old events others else → (others ≡ actions) × (else ≡ last)
run_same ended ended = (refl, refl)
run_same (stepped row later) (stepped {last = else} {events = events} {actions = others} row' later') =
    let a = only row in
    let b = only row' in
    let same = run_same later (subst (λ (s : Standing). IsRun s events others else) (b.1 ∙ sym a.1) later') in
    ((λ i. (b.0 ∙ sym a.0) i ∷ same.0 i), same.1)

pub one_run_holds : OneRun
one_run_holds old events = let there = run_there events old in (there.0, there.1, there.2, λ others else run. run_same there.2 run)

-- one event more
pub run_more : {old mid last : Standing} {events : List Event} {actions : List Action} {event : Event} {action : Action} → IsRun old events actions mid → supervise mid event action last → IsRun old (events ++ event ∷ []) (actions ++ action ∷ []) last
run_more ended row = stepped row ended
run_more (stepped first later) row = stepped first (run_more later row)

-- the loop's next event
pub run_next : (old mid last : Standing) (events : List Event) (actions : List Action) (i : ℕ) (other : Event) (action : Action) → i < length events → length events ≡ length actions
    → IsRun old (take i events) (take i actions) mid → supervise mid (get_or events i other) action last → IsRun old (take (i + 1) events) (take (i + 1) (set actions i action)) last
run_next old mid last events actions i other action here same so_far row =
    let there : i < length actions = omega arith in
    rw (take_more_set actions i action there, add-one, take-suc events i other here) (run_more so_far row)
