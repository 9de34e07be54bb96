-- A chain of sessions: what a client receives, and what it makes of it.
use Rattle.std.specs.Prelude.{ℕ, ◌≡◌, ◌≤◌, Bool, true, false, IsTrue, List, [], ◌∷◌, ◌++◌, take, length, Option, Some}
use Rattle.std.specs.List.{AllByRecursion}
use Rattle.block_record.specs.declared.blocks.Slip.{Slip}
use Rattle.chain_model.specs.declared.places.Mode.{Mode}
use Rattle.chain_model.specs.declared.places.Place.{Place}
use Rattle.chain_model.specs.Ancestry.{has_id, find_id}
use Rattle.chain_model.specs.Steps.{BlockStep, ref_of, target}
use Rattle.chain_model.specs.Fold.{FoldState, after_step}
use Rattle.chain_model.specs.Places.{PlacedStep, steps_to, place_to, PlaceFits, IsAhead}
use Rattle.step_cursor.specs.Fitting.{StepFitsAt}
use Rattle.chain_laws.specs.Oldest.{oldest}
use Rattle.chain_laws.specs.Marks.{mark, taken_back}
use Rattle.chain_laws.specs.Standing.{stands, has_all}

-- a whole line after the open line: a step with what its cursor has, the length of the history that it was sent from and the place after it; or the head line that ends a batch, with its length
pub data Line : Type 0 where
  StepLine : ℕ → PlacedStep → Line
  HeadLine : Mode → Option ℕ → ℕ → Line

-- what a client asked for, the lengths of the history at its batches, and how many lines of them it received
pub record Session : Type 0 where
  pub mode : Mode
  pub stop : Option ℕ
  pub lens : List ℕ
  pub cut : ℕ

-- a line for each step, of a batch at a length
abbrev pub step_lines : ℕ → List PlacedStep → List Line
step_lines len [] = []
step_lines len (x ∷ xs) = StepLine len x ∷ step_lines len xs

-- the batches from a place on: each begins where the one before ended
abbrev pub batches : List Slip → Mode → Option ℕ → Place → List ℕ → List Line
batches newest mode stop place [] = []
batches newest mode stop place (len ∷ lens) =
    step_lines len (steps_to (oldest len newest) place mode stop)
    ++ HeadLine mode stop len ∷ batches newest mode stop (place_to (oldest len newest) place mode stop) lens

-- the place after whole batches
abbrev pub place_through : List Slip → Mode → Option ℕ → Place → List ℕ → Place
place_through newest mode stop place [] = place
place_through newest mode stop place (len ∷ lens) = place_through newest mode stop (place_to (oldest len newest) place mode stop) lens

-- the lines received of a session that began at the place
abbrev pub received : List Slip → Place → Session → List Line
received newest place s = take s.cut (batches newest s.mode s.stop place s.lens)

-- the place of the last step received, or the place before
abbrev pub place_of : Place → List Line → Place
place_of place [] = place
place_of place (StepLine len x ∷ lines) = place_of x.place lines
place_of place (HeadLine mode stop len ∷ lines) = place_of place lines

-- all lines of a chain: each next session begins at the place of the last step received
abbrev pub chain_lines : List Slip → Place → List Session → List Line
chain_lines newest place [] = []
chain_lines newest place (s ∷ later) = received newest place s ++ chain_lines newest (place_of place (received newest place s)) later

-- the length of the history at a line
abbrev pub line_len : Line → ℕ
line_len (StepLine len x) = len
line_len (HeadLine mode stop len) = len

-- the lengths at the lines of steps alone
abbrev pub step_lens : List Line → List ℕ
step_lens [] = []
step_lens (StepLine len x ∷ lines) = len ∷ step_lens lines
step_lens (HeadLine mode stop len ∷ lines) = step_lens lines

-- what the cursor of the last step received has seen, or the one before
abbrev pub seen_of : ℕ → List Line → ℕ
seen_of seen [] = seen
seen_of seen (StepLine len x ∷ lines) = seen_of len lines
seen_of seen (HeadLine mode stop len ∷ lines) = seen_of seen lines

-- whether the last line is that of a step
abbrev pub ends_in_step : List Line → Bool
ends_in_step [] = false
ends_in_step (StepLine len x ∷ []) = true
ends_in_step (HeadLine mode stop len ∷ []) = false
ends_in_step (line ∷ next ∷ lines) = ends_in_step (next ∷ lines)

-- the numbers do not fall
abbrev pub Rises : List ℕ → Type 0
Rises [] = Unit {0}
Rises (n ∷ []) = Unit {0}
Rises (n ∷ m ∷ lens) = (n ≤ m) × Rises (m ∷ lens)

-- the first place fits the history at the first batch, if there is one
abbrev pub FitsFirst : List Slip → Place → List ℕ → Type 0
FitsFirst newest place [] = Unit {0}
FitsFirst newest place (len ∷ lens) = PlaceFits (oldest len newest) place.end place.lib

-- what is known of a session that began at the place
pub record IsSession (newest : List Slip) (place : Place) (s : Session) : Type 0 where
  pub rises : Rises s.lens
  pub within : AllByRecursion (λ len. len ≤ length newest) s.lens
  pub ahead : IsAhead s.stop place.end

-- sessions that were opened with cursors, the first of them with one of the place
abbrev pub IsChain : List Slip → Place → List Session → Type 0
IsChain newest place [] = Unit {0}
IsChain newest place (s ∷ later) =
    FitsFirst newest place s.lens × IsSession newest place s × IsChain newest (place_of place (received newest place s)) later

-- the first of the numbers, if there is one, is not below this one
abbrev pub BeginsAt : ℕ → List ℕ → Type 0
BeginsAt seen [] = Unit {0}
BeginsAt seen (len ∷ lens) = seen ≤ len

-- sessions of which each begins at a length that its cursor has seen, or later, and goes on to no shorter one
abbrev pub AreOnward : List Slip → Place → ℕ → List Session → Type 0
AreOnward newest place seen [] = Unit {0}
AreOnward newest place seen (s ∷ later) =
    BeginsAt seen s.lens × Rises s.lens
    × AreOnward newest (place_of place (received newest place s)) (seen_of seen (received newest place s)) later

-- each session but the last is cut after the line of a step, whose cursor the next one uses
abbrev pub AreCut : List Slip → Place → List Session → Type 0
AreCut newest place [] = Unit {0}
AreCut newest place (s ∷ []) = Unit {0}
AreCut newest place (s ∷ next ∷ later) =
    IsTrue (ends_in_step (received newest place s)) × AreCut newest (place_of place (received newest place s)) (next ∷ later)

-- the fold goes through all lines: after each step the client stands at its place, and at each head line it has the target
abbrev pub Follow : List Slip → FoldState → List Line → Type 0
Follow newest f [] = Unit {0}
Follow newest f (StepLine len x ∷ lines) = (after_step f x.step ≡ Some (stands newest f.base x.place)) × Follow newest (stands newest f.base x.place) lines
Follow newest f (HeadLine mode stop len ∷ lines) = (f ≡ has_all (oldest len newest) f.base (target (oldest len newest) mode stop)) × Follow newest f lines

-- whether the cursor of a step fits: it does with the block named by number and id, and that block is the one of the step
pub record CursorFits (newest : List Slip) (x : PlacedStep) : Type 0 where
  pub fits : StepFitsAt newest x.step.step (ref_of x.step.slip) x.place.end x.place.lib
  pub block : find_id newest x.step.slip.id ≡ Some x.step.slip

-- no step takes back a block that was told as final before
abbrev pub KeepsFinals : List Slip → List Line → Type 0
KeepsFinals told [] = Unit {0}
KeepsFinals told (StepLine len x ∷ lines) = AllByRecursion (λ s. has_id told s.id ≡ false) (taken_back x.step) × KeepsFinals (told ++ mark x.step) lines
KeepsFinals told (HeadLine mode stop len ∷ lines) = KeepsFinals told lines

-- the steps alone
abbrev pub only_steps : List Line → List BlockStep
only_steps [] = []
only_steps (StepLine len x ∷ lines) = x.step ∷ only_steps lines
only_steps (HeadLine mode stop len ∷ lines) = only_steps lines

-- the blocks that were told as final, in order
abbrev pub told_final : List Line → List Slip
told_final [] = []
told_final (StepLine len x ∷ lines) = mark x.step ++ told_final lines
told_final (HeadLine mode stop len ∷ lines) = told_final lines
