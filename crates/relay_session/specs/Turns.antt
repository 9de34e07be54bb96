-- What a client's event makes of its session.
use Rattle.std.specs.Prelude.{ℕ, ◌≡◌, ◌≢◌, ◌≤◌, ◌+◌, ◌⊎◌, List, length, Option, Some, IfSome, Result, Ok, Err, ⊤, slice_get}
use Rattle.block_record.specs.declared.blocks.Slip.{Slip}
use Rattle.chain_model.specs.declared.places.Place.{Place}
use Rattle.chain_model.specs.Steps.{steps_of}
use Rattle.chain_model.specs.Places.{PlacedStep, steps_to}
use Rattle.chain_laws.specs.Oldest.{oldest}
use Rattle.outer_world.specs.Files.{Files}
use Rattle.one_block.specs.declared.faults.StoreFault.{StoreFault}
use Rattle.one_block.specs.declared.faults.StoreFault.TheVariants.{ShelfFault, ShelfBad, Missing, StoredOther, NameClash, Mem}
use Rattle.file_source.specs.Sources.{FetchRefused}
use Rattle.relay_model.specs.Worlds.{World}
use Rattle.relay_model.specs.Looks.{Position, Batch, NotYet, looked}
use Rattle.session_model.specs.declared.over.SessionOver.{SessionOver}
use Rattle.session_model.specs.Progress.{OpenBatch, Stage, Waits, Sends, IsOver, Progress, after_look}
use Rattle.relay_session.specs.declared.turn.Turn.{Turn}
use Rattle.relay_session.specs.declared.turn.Turn.TheVariants as turn

-- so many steps of the open batch were given: it is open still, or they were its last ones. Where none is open none was given
abbrev pub IsGivenBy : ℕ → Stage → Stage → Type 0
IsGivenBy n (Waits position) s = (n ≡ 0) × (s ≡ Waits position)
IsGivenBy n (IsOver o) s = (n ≡ 0) × (s ≡ IsOver o)
IsGivenBy n (Sends b) (Sends c) = c ≡ record b { given = b.given + n }
IsGivenBy n (Sends b) (Waits position) = b.given + n ≡ b.total
IsGivenBy n (Sends b) (IsOver o) = ⊥

-- steps of the open batch were given, at most so many where there is a limit, and nothing else changed
pub record HasGiven (most : Option ℕ) (p q : Progress) : Type 0 where
  pub given : ℕ
  pub steps : IsGivenBy given p.stage q.stage
  pub few : IfSome most (λ n. given ≤ n)
  pub kept : q ≡ record p { stage = q.stage }

-- the whole rest of the open batch was given, or exactly as many steps as there might be
pub record HasGivenRest (most : Option ℕ) (p q : Progress) : Type 0 where
  pub steps : HasGiven most p q
  pub rest : (b : OpenBatch) → q.stage ≡ Sends b → most ≡ Some steps.given

-- a batch was open
pub record WasOpen (p q : Progress) : Type 0 where
  pub b : OpenBatch
  pub sends : p.stage ≡ Sends b
  pub same : q ≡ p

-- the session waited for a look, and took an answer that is not to wait
pub record WasLooked (w : World) (p q : Progress) : Type 0 where
  pub position : Position
  pub waits : p.stage ≡ Waits position
  pub some : (len : ℕ) → looked w p.request position ≢ NotYet len
  pub total : ℕ
  pub counted : (seen : ℕ) (place : Place) → looked w p.request position ≡ Batch seen place → total ≡ length (steps_of w.history place p.request.mode p.request.stop)
  pub after : q ≡ after_look total p (looked w p.request position)

-- one look, where no batch is open
abbrev pub IsAsked : World → Progress → Progress → Type 0
IsAsked w p q = WasOpen p q ⊎ WasLooked w p q

-- one look, where no batch is open, and then steps
pub record HasTurned (w : World) (P : Progress → Progress → Type 0) (p q : Progress) : Type 0 where
  pub asked : Progress
  pub look : IsAsked w p asked
  pub steps : P asked q

-- the answer to the look is to wait
pub record IsToWait (w : World) (p : Progress) (len : ℕ) : Type 0 where
  pub position : Position
  pub waits : p.stage ≡ Waits position
  pub said : looked w p.request position ≡ NotYet len
  pub len_is : len ≡ length w.history

-- the session is over
pub record IsEnded (p : Progress) : Type 0 where
  pub o : SessionOver
  pub over : p.stage ≡ IsOver o

-- what came of an event
abbrev pub IsTurn : World → Option ℕ → Progress → Progress → Turn → Type 0
IsTurn w most p q (turn.NotYet len) = IsToWait w p len
IsTurn w most p q turn.Sent = HasTurned w (HasGivenRest most) p q
IsTurn w most p q turn.WasOver = IsEnded p

-- nothing came of it
abbrev pub IsStill : Result Turn StoreFault → Type 0
IsStill (Ok (turn.NotYet len)) = ⊤
IsStill (Ok turn.Sent) = ⊥
IsStill (Ok turn.WasOver) = ⊤
IsStill (Err fault) = ⊥

-- the block of the next step of the open batch could not be fetched
pub record IsNextRefused (newest : List Slip) (files : Option Files) (before now : ℕ) (q : Progress) (fault : StoreFault) : Type 0 where
  pub b : OpenBatch
  pub sends : q.stage ≡ Sends b
  pub step : PlacedStep
  pub next : slice_get (steps_to (oldest b.seen newest) b.place q.request.mode q.request.stop) b.given ≡ Some step
  pub cause : FetchRefused files step.step.slip before now fault

-- why an event was refused: for the next step, or for want of memory
abbrev pub HasCause : List Slip → Option Files → ℕ → ℕ → Progress → StoreFault → Type 0
HasCause newest files before now q ShelfFault = IsNextRefused newest files before now q ShelfFault
HasCause newest files before now q (ShelfBad name at) = IsNextRefused newest files before now q (ShelfBad name at)
HasCause newest files before now q (Missing name) = IsNextRefused newest files before now q (Missing name)
HasCause newest files before now q (StoredOther kept read) = IsNextRefused newest files before now q (StoredOther kept read)
HasCause newest files before now q (NameClash held offered) = ⊥
HasCause newest files before now q Mem = ⊤

-- an event was refused: nothing was taken, or an answer and steps
abbrev pub WasStopped : World → Option ℕ → Progress → Progress → Type 0
WasStopped w most p q = (q ≡ p) ⊎ HasTurned w (HasGiven most) p q
