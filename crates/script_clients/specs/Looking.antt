-- What an event of a client brings about.
use Rattle.std.specs.Prelude.{ℕ, ◌≡◌, ◌++◌, ◌⊎◌, List, [], Option, None, Some, Result, Ok, Err}
use Rattle.outer_world.specs.Files.{Files}
use Rattle.one_block.specs.declared.faults.StoreFault.{StoreFault}
use Rattle.one_block.specs.declared.faults.StoreFault.TheVariants as store
use Rattle.block_relay.specs.Chronicle.{Told, world_told}
use Rattle.client_stream.specs.Sessions.{State}
use Rattle.relay_session.specs.declared.turn.Turn.{Turn}
use Rattle.relay_session.specs.declared.turn.Turn.TheVariants as turn
use Rattle.relay_session.specs.Serving.{GoesOn}
use Rattle.relay_session.specs.Turns.{HasCause, IsStill, IsTurn, WasStopped}
use Rattle.replay_text.specs.Lines.{not_yet_line, over_line}
use Rattle.replay_text.specs.Replies.{client_lines}
use Rattle.script_clients.specs.declared.named.Named.{Named}
use Rattle.script_clients.specs.Clients.{client_of, with_client}

-- the lines of an event by what came of it, where this was sent to the client
abbrev pub turn_lines : List ℕ → List ℕ → Turn → List ℕ
turn_lines name sent (turn.NotYet len) = not_yet_line name len
turn_lines name sent turn.Sent = client_lines name sent
turn_lines name sent turn.WasOver = over_line name

-- the same of one that may have been refused: then they are those of what was sent before
abbrev pub look_lines : List ℕ → List ℕ → Result Turn StoreFault → List ℕ
look_lines name sent (Ok turned) = turn_lines name sent turned
look_lines name sent (Err fault) = client_lines name sent

-- lines were appended, and a fault is that of what they tell; or there was no memory for them
abbrev pub IsToldOr : List ℕ → Type 0 → StoreFault → List ℕ → List ℕ → Type 0
IsToldOr lines told fault before after = (told × (after ≡ before ++ lines)) ⊎ ((fault ≡ store.Mem) × (after ≡ before))

-- why the lines of an event were not appended or its refusal was handed on
abbrev pub IsTold : List ℕ → List ℕ → Result Turn StoreFault → StoreFault → List ℕ → List ℕ → Type 0
IsTold name sent looked fault before after = IsToldOr (look_lines name sent looked) (looked ≡ Err fault) fault before after

-- a session was looked at: what came of it, what was sent, and the lines of it
pub record HasLooked (t : Told) (most : Option ℕ) (name : List ℕ) (old new : State) (before after : List ℕ) : Type 0 where
  pub turned : Turn
  pub came : IsTurn (world_told t) most old.progress new.progress turned
  pub still : IsStill (Ok turned) → new ≡ old
  pub sent : List ℕ
  pub goes_on : GoesOn t old new [] sent
  pub told : after ≡ before ++ turn_lines name sent turned

-- the same of one that was stopped: how far it went and why, and the lines of what was sent; or there was no memory for lines
pub record HasStopped (t : Told) (most : Option ℕ) (name : List ℕ) (files : Option Files) (faults_before faults_after : ℕ) (old new : State) (before after : List ℕ) (fault : StoreFault) : Type 0 where
  pub went : WasStopped (world_told t) most old.progress new.progress
  pub cause : HasCause (world_told t).history files faults_before faults_after new.progress fault
  pub sent : List ℕ
  pub goes_on : GoesOn t old new [] sent
  pub told : (after ≡ before ++ client_lines name sent) ⊎ ((fault ≡ store.Mem) × (after ≡ before))

-- nobody is served under a name
abbrev pub IsGone : List ℕ → List Named → Type 0
IsGone name clients = (client_of name clients ≡ None) ⊎ (client_of name clients ≡ Some None)

-- nobody is served under the name, and nothing has changed
pub record WasGone (name : List ℕ) (old new : List Named) : Type 0 where
  pub gone : IsGone name old
  pub same : new ≡ old

-- the session under the name has become another as it may, and no other client has changed
pub record TurnsOne (P : State → State → Type 0) (name : List ℕ) (old new : List Named) : Type 0 where
  pub was : State
  pub found : client_of name old ≡ Some (Some was)
  pub now : State
  pub turns : P was now
  pub clients : new ≡ with_client name (Some now) old

-- what an event of a client brings about
abbrev pub IsLooked : Told → Option ℕ → List ℕ → List Named → List Named → List ℕ → List ℕ → Type 0
IsLooked t most name old new before after =
    (WasGone name old new × (after ≡ before ++ over_line name))
    ⊎ TurnsOne (λ was now. HasLooked t most name was now before after) name old new

-- what one that was stopped has brought about
abbrev pub IsStopped : Told → Option ℕ → List ℕ → Option Files → ℕ → ℕ → List Named → List Named → List ℕ → List ℕ → StoreFault → Type 0
IsStopped t most name files faults_before faults_after old new before after fault =
    (WasGone name old new × (fault ≡ store.Mem) × (after ≡ before))
    ⊎ TurnsOne (λ was now. HasStopped t most name files faults_before faults_after was now before after fault) name old new
