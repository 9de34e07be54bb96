-- The next steps of an open batch, as they are given.
use Rattle.std.specs.Prelude.{ℕ, ◌≡◌, ◌+◌, ◌++◌, ◌≤◌, ◌-◌, ◌==◌, Bool, false, List, [], ◌∷◌, length, map, drop, Option, None, Some, IsSome}
use Rattle.block_record.specs.declared.blocks.Slip.{Slip}
use Rattle.chain_model.specs.Ancestry.{IsHistory}
use Rattle.chain_model.specs.Finality.{ClaimsAgree}
use Rattle.chain_model.specs.Places.{PlacedStep, steps_to}
use Rattle.chain_laws.specs.Oldest.{oldest}
use Rattle.outer_world.specs.Files.{Files}
use Rattle.one_block.specs.declared.faults.StoreFault.{StoreFault}
use Rattle.one_block.specs.declared.faults.StoreFault.TheVariants.{ShelfFault, ShelfBad, Missing, StoredOther, NameClash, Mem}
use Rattle.join_source.specs.Items.{Left}
use Rattle.join_source.specs.Answers.{IsRefused}
use Rattle.session_model.specs.Progress.{OpenBatch, Sends}
use Rattle.client_stream.specs.Sessions.{State}
use Rattle.client_stream.specs.Sent.{HasSent}
use Rattle.relay_session.specs.Turns.{IsGivenBy}

-- these are the next steps of the open batch
pub record AreStepsOf (newest : List Slip) (s : State) (xs : List PlacedStep) : Type 0 where
  pub batch : IsSome s.batch
  pub b : OpenBatch
  pub sends : s.progress.stage ≡ Sends b
  pub total_is : b.total ≡ length (steps_to (oldest b.seen newest) b.place s.progress.request.mode s.progress.request.stop)
  pub rest : List PlacedStep
  pub next : drop b.given (steps_to (oldest b.seen newest) b.place s.progress.request.mode s.progress.request.stop) ≡ xs ++ rest

-- the same of steps that may be none
abbrev pub AreSteps : List Slip → State → List PlacedStep → Type 0
AreSteps newest s [] = Unit {0}
AreSteps newest s (x ∷ xs) = AreStepsOf newest s (x ∷ xs)

-- the steps of items that are left
abbrev pub placed_left : List Left → List PlacedStep
placed_left xs = map (λ x. x.placed) xs

-- these are the next items of a session, over a sound history
pub record AreNext (newest : List Slip) (s : State) (xs : List Left) : Type 0 where
  pub history : IsHistory newest
  pub agreed : ClaimsAgree newest
  pub steps : AreSteps newest s (placed_left xs)

-- the same over some history
pub record MayBeGiven (s : State) (xs : List Left) : Type 0 where
  pub newest : List Slip
  pub next : AreNext newest s xs

-- bytes were appended: with them what the session has sent over a history goes on to be that
pub record Adds (newest : List Slip) (old new : State) (before after : List ℕ) : Type 0 where
  pub added : List ℕ
  pub text_is : after ≡ before ++ added
  pub sent : (type text : List ℕ) → HasSent newest type old text → HasSent newest type new (text ++ added)

-- so many steps were given, and told
pub record Gave (newest : List Slip) (n : ℕ) (old new : State) (before after : List ℕ) : Type 0 where
  pub steps : IsGivenBy n old.progress.stage new.progress.stage
  pub kept : new.progress ≡ record old.progress { stage = new.progress.stage }
  pub adds : Adds newest old new before after

-- the same of at most so many
pub record GaveSome (newest : List Slip) (most : ℕ) (old new : State) (before after : List ℕ) : Type 0 where
  pub given : ℕ
  pub few : given ≤ most
  pub gave : Gave newest given old new before after

-- the items before these were given, and these are next
pub record GaveUpTo (newest : List Slip) (old new : State) (items left : List Left) (before after : List ℕ) : Type 0 where
  pub given : ℕ
  pub count : length items ≡ given + length left
  pub next : AreNext newest new left
  pub gave : Gave newest given old new before after

-- why no item was given: for the first of them, or for want of memory
abbrev pub IsStopped : Option Files → List Left → ℕ → ℕ → StoreFault → Type 0
IsStopped files xs before now ShelfFault = IsRefused files xs before now ShelfFault
IsStopped files xs before now (ShelfBad name at) = IsRefused files xs before now (ShelfBad name at)
IsStopped files xs before now (Missing name) = IsRefused files xs before now (Missing name)
IsStopped files xs before now (StoredOther kept read) = IsRefused files xs before now (StoredOther kept read)
IsStopped files xs before now (NameClash held offered) = ⊥
IsStopped files xs before now Mem = Unit {0}

-- whether there is a limit, and it is reached
abbrev pub is_none_left : Option ℕ → Bool
is_none_left None = false
is_none_left (Some n) = n == 0

-- how many steps may be given after so many, where there is a limit
abbrev pub left_after : Option ℕ → ℕ → Option ℕ
left_after None given = None
left_after (Some n) given = Some (n - given)
