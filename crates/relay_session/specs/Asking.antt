-- What one look of a session brings about.
use Rattle.std.specs.Prelude.{◌≡◌, Result}
use Rattle.relay_model.specs.Worlds.{World}
use Rattle.relay_model.specs.Looks.{Position, Look as Said, Batch, NotYet, Done, Closing, Unknown, Misfit, StopBelow, looked}
use Rattle.relay_look.specs.declared.answers.Look.{Look}
use Rattle.relay_look.specs.declared.answers.LookFault.{LookFault}
use Rattle.relay_look.specs.Answers.{IsLook, HasBatchOf, HasFewSteps}
use Rattle.session_model.specs.Progress.{Progress, Waits}
use Rattle.relay_session.specs.declared.turn.Turn.{Turn}
use Rattle.relay_session.specs.declared.turn.Turn.TheVariants as turn
use Rattle.relay_session.specs.Turns.{IsAsked, IsEnded, IsToWait}

-- the relay's answer to the look of a session that waits for it
pub record IsLookFor (w : World) (p : Progress) (look : Result Look LookFault) : Type 0 where
  pub position : Position
  pub waits : p.stage ≡ Waits position
  pub said : IsLook (looked w p.request position) look
  pub batch : HasBatchOf w.history p.request look
  pub few : HasFewSteps look

-- what an answer brings about
abbrev pub turn_said : Said → Turn
turn_said (Batch seen place) = turn.Sent
turn_said (NotYet len) = turn.NotYet len
turn_said (Done len) = turn.Sent
turn_said (Closing len) = turn.Sent
turn_said (Unknown id) = turn.Sent
turn_said (Misfit field) = turn.Sent
turn_said (StopBelow end) = turn.Sent

-- what came of one look: the session waits or is over, or has taken an answer where no batch was open
abbrev pub IsLookTaken : World → Progress → Progress → Turn → Type 0
IsLookTaken w p q (turn.NotYet len) = IsToWait w p len
IsLookTaken w p q turn.Sent = IsAsked w p q
IsLookTaken w p q turn.WasOver = IsEnded p

-- the session has nothing to be sent
abbrev pub IsIdle : Turn → Type 0
IsIdle (turn.NotYet len) = Unit {0}
IsIdle turn.Sent = ⊥
IsIdle turn.WasOver = Unit {0}
