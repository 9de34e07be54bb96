-- Lists of events, and what the table is by itself.
use Rattle.std.specs.Prelude.{◌≡◌, List, [], ◌∷◌}
use Rattle.node_supervisor.specs.Table.{Standing, supervise}
use Rattle.node_supervisor.specs.declared.event.Event.{Event}
use Rattle.node_supervisor.specs.declared.event.Action.{Action}

-- the events come one after another, each with its action, and lead from one standing to another
pub data IsRun : Standing → List Event → List Action → Standing → Type 0 where
  ended : {standing : Standing} → IsRun standing [] [] standing
  stepped : {old next last : Standing} {event : Event} {action : Action} {events : List Event} {actions : List Action} → supervise old event action next → IsRun next events actions last → IsRun old (event ∷ events) (action ∷ actions) last

-- each standing and event have an answer in the table, and only one
abbrev pub OneAnswer : Type 0
OneAnswer =
    (old : Standing) (event : Event) → (action : Action) × (new : Standing) × supervise old event action new
    × ((other : Action) (else : Standing) → supervise old event other else → (other ≡ action) × (else ≡ new))

-- each standing and list of events have a list of actions and an end, and only one of each
abbrev pub OneRun : Type 0
OneRun =
    (old : Standing) (events : List Event) → (actions : List Action) × (last : Standing) × IsRun old events actions last
    × ((others : List Action) (else : Standing) → IsRun old events others else → (others ≡ actions) × (else ≡ last))
