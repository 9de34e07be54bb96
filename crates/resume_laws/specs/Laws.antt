-- The laws of sessions that follow each other by cursors, as statements.
use Rattle.std.specs.Prelude.{ℕ, ◌≡◌, ◌≤◌, take, length, List, [], ◌∷◌, ◌++◌, map, reverse, Option, Some}
use Rattle.std.specs.List.{AllByRecursion}
use mathlib.Core.List.{IsPrefix}
use Rattle.block_record.specs.declared.blocks.Slip.{Slip}
use Rattle.block_record.specs.declared.blocks.BlockRef.{BlockRef}
use Rattle.chain_model.specs.declared.places.Mode.{Mode}
use Rattle.chain_model.specs.declared.places.Place.{Place}
use Rattle.chain_model.specs.Ancestry.{IsHistory}
use Rattle.chain_model.specs.Finality.{ClaimsAgree, final_tip, final_ancestry}
use Rattle.chain_model.specs.Steps.{BlockStep, ancestry_at, steps_of}
use Rattle.chain_model.specs.Places.{PlaceFits, IsAhead, opening, steps_to}
use Rattle.chain_model.specs.Fold.{FoldState, after_step, fold_steps}
use Rattle.chain_laws.specs.Oldest.{oldest}
use Rattle.chain_laws.specs.Standing.{after_base, stands, begins, IsUnder}
use Rattle.resume_laws.specs.Sessions.{CursorFits, Line, line_len, step_lens, KeepsFinals, only_steps, Session, Rises, IsSession, IsChain, AreOnward, AreCut, batches, place_through, chain_lines, place_of, received, Follow, told_final}

-- and so does the cursor of each step
abbrev pub CursorsFit : Type 0
CursorsFit = (older more : List Slip) (place : Place) (mode : Mode) (stop : Option ℕ)
    → IsHistory (more ++ older) → ClaimsAgree (more ++ older) → PlaceFits older place.end place.lib → IsAhead stop place.end
    → AllByRecursion (CursorFits (more ++ older)) (steps_to older place mode stop)

-- where the final tip has reached the stop, a client that has all steps has them for good
abbrev pub DoneStays : Type 0
DoneStays = (older more : List Slip) (place : Place) (mode : Mode) (stop : ℕ) (t : Slip)
    → IsHistory (more ++ older) → ClaimsAgree (more ++ older) → PlaceFits older place.end place.lib → IsAhead (Some stop) place.end
    → final_tip older ≡ Some t → stop ≤ t.num
    → steps_of older place mode (Some stop) ≡ [] → steps_of (more ++ older) place mode (Some stop) ≡ []

-- the blocks that a client counts as final, in order
abbrev pub finals_of : FoldState → List BlockRef
finals_of f = take f.finals (reverse f.blocks)

-- what a step keeps of a client's state: its base, and the blocks that are counted as final
pub record KeepsCount (f g : FoldState) : Type 0 where
  pub base : g.base ≡ f.base
  pub bound : g.finals ≤ length g.blocks
  pub finals : IsPrefix (finals_of f) (finals_of g)

-- a fold keeps the blocks that it counts as final, whatever the step is
abbrev pub FoldKeepsFinals : Type 0
FoldKeepsFinals = (f g : FoldState) (x : BlockStep) → f.finals ≤ length f.blocks → after_step f x ≡ Some g → KeepsCount f g

-- a session with further batches goes on at the place where it was
abbrev pub BatchesGoOn : Type 0
BatchesGoOn = (newest : List Slip) (mode : Mode) (stop : Option ℕ) (place : Place) (lens more : List ℕ)
    → (batches newest mode stop place (lens ++ more)
    ≡ batches newest mode stop place lens ++ batches newest mode stop (place_through newest mode stop place lens) more)
    × (place_of place (batches newest mode stop place lens) ≡ place_through newest mode stop place lens)

-- and what it was does not change when the history grows
abbrev pub BatchesStay : Type 0
BatchesStay = (newest more : List Slip) (mode : Mode) (stop : Option ℕ) (place : Place) (lens : List ℕ)
    → AllByRecursion (λ len. len ≤ length newest) lens
    → batches (more ++ newest) mode stop place lens ≡ batches newest mode stop place lens

-- the first length, or 0 where there is none
abbrev pub first_len : List ℕ → ℕ
first_len [] = 0
first_len (len ∷ lens) = len

-- the place where a first session opens
abbrev pub opens_at : List Slip → ℕ → Session → Place
opens_at newest start s = opening (oldest (first_len s.lens) newest) start

-- a chain of sessions: the first without a cursor, each next one with the cursor of the last step received
pub record IsChainFrom (newest : List Slip) (start : ℕ) (first : Session) (later : List Session) : Type 0 where
  pub history : IsHistory newest
  pub agreed : ClaimsAgree newest
  pub begun : IsSession newest (opens_at newest start first) first
  pub resumed : IsChain newest (place_of (opens_at newest start first) (received newest (opens_at newest start first) first)) later

-- all lines that a client received over the chain
abbrev pub lines_of : List Slip → ℕ → Session → List Session → List Line
lines_of newest start first later = chain_lines newest (opens_at newest start first) (first ∷ later)

-- what a client makes of all the lines, from the base where the first session opened
pub record Resumes (newest : List Slip) (start : ℕ) (first : Session) (later : List Session) : Type 0 where
  -- the fold is defined at each line: after a step the client stands at its place, at a head line it has the target
  pub follow : Follow newest (begins (opens_at newest start first).end) (lines_of newest start first later)
  -- so it is defined for all steps together
  pub fold : fold_steps (begins (opens_at newest start first).end) (only_steps (lines_of newest start first later))
      ≡ Some (stands newest (opens_at newest start first).end (place_of (opens_at newest start first) (lines_of newest start first later)))
  -- the blocks told as final are the first blocks of the final path after the base, in order, each once
  pub finals : IsPrefix (told_final (lines_of newest start first later)) (reverse (after_base (opens_at newest start first).end (final_ancestry newest)))
  -- and none of them is taken back
  pub kept : KeepsFinals [] (lines_of newest start first later)

-- resumption: whatever sessions follow each other by cursors, each cut after any line, a client that folds all steps loses none and repeats none
abbrev pub Resumption : Type 0
Resumption = (newest : List Slip) (start : ℕ) (first : Session) (later : List Session)
    → IsChainFrom newest start first later → Resumes newest start first later

-- what a client makes of a chain of sessions that begins where it stands, whatever its base
pub record GoesOn (newest : List Slip) (base : Option BlockRef) (place : Place) (sessions : List Session) : Type 0 where
  pub follow : Follow newest (stands newest base place) (chain_lines newest place sessions)
  pub fold : fold_steps (stands newest base place) (only_steps (chain_lines newest place sessions))
      ≡ Some (stands newest base (place_of place (chain_lines newest place sessions)))
  pub finals : IsPrefix (reverse (after_base base (ancestry_at newest place.lib)) ++ told_final (chain_lines newest place sessions))
      (reverse (after_base base (final_ancestry newest)))
  pub kept : KeepsFinals (reverse (after_base base (ancestry_at newest place.lib))) (chain_lines newest place sessions)

-- a client that stands at a place that fits goes on with cursors
abbrev pub ChainGoesOn : Type 0
ChainGoesOn = (newest : List Slip) (base : Option BlockRef) (place : Place) (sessions : List Session)
    → IsHistory newest → ClaimsAgree newest → PlaceFits newest place.end place.lib → IsUnder newest base place.lib
    → IsChain newest place sessions → GoesOn newest base place sessions

-- how the lengths of the history go on over the lines of a chain, from what the first cursor has seen
pub record NeverFalls (newest : List Slip) (place : Place) (seen : ℕ) (sessions : List Session) : Type 0 where
  -- at the lines of steps they do not fall
  pub steps : Rises (seen ∷ step_lens (chain_lines newest place sessions))
  -- and where each session but the last is cut after a step, they do not at all lines
  pub lines : AreCut newest place sessions → Rises (seen ∷ map line_len (chain_lines newest place sessions))

-- never older: where each session begins at what its cursor has seen or later, a client is never told of an older history
abbrev pub NeverOlder : Type 0
NeverOlder = (newest : List Slip) (place : Place) (seen : ℕ) (sessions : List Session)
    → AreOnward newest place seen sessions → NeverFalls newest place seen sessions
