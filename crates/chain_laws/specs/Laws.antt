-- The laws of histories, steps and places, as statements.
use Rattle.std.specs.Prelude.{ℕ, ◌≡◌, ◌≤◌, take, length, List, [], ◌∷◌, ◌++◌, reverse, Option, Some, IsTrue}
use Rattle.std.specs.List.{AllByRecursion}
use mathlib.Core.List.{IsPrefix}
use Rattle.block_record.specs.declared.blocks.Slip.{Slip}
use Rattle.block_record.specs.declared.blocks.BlockRef.{BlockRef}
use Rattle.chain_model.specs.declared.places.Mode.{Mode}
use Rattle.chain_model.specs.declared.places.Place.{Place}
use Rattle.chain_model.specs.Ancestry.{find_id, IsHistory}
use Rattle.chain_model.specs.Finality.{ClaimsAgree, agrees, claim, final_tip, final_ancestry, final_path}
use Rattle.chain_model.specs.Steps.{steps_of, target}
use Rattle.chain_model.specs.Places.{PlaceFits, IsAhead, opening, steps_to, place_to}
use Rattle.chain_model.specs.Fold.{fold_steps}
use Rattle.chain_laws.specs.Oldest.{oldest}
use Rattle.chain_laws.specs.Standing.{stands, has_all, begins, place_at_end, IsUnder}

-- where claims agree, the final path of the first blocks of a history is a front of its final path
abbrev pub FinalPathGrows : Type 0
FinalPathGrows = (front more : List Slip) → IsHistory (reverse (front ++ more)) → ClaimsAgree (reverse (front ++ more))
    → IsPrefix (final_path front) (final_path (front ++ more))

-- two histories have the same blocks
pub record SameBlocks (a b : List Slip) : Type 0 where
  pub there : (s : Slip) → find_id a s.id ≡ Some s → find_id b s.id ≡ Some s
  pub back : (s : Slip) → find_id b s.id ≡ Some s → find_id a s.id ≡ Some s

-- whether claims agree does not depend on the order of the blocks
abbrev pub ClaimsAgreeInAnyOrder : Type 0
ClaimsAgreeInAnyOrder = (a b : List Slip) → IsHistory a → IsHistory b → SameBlocks a b → ClaimsAgree a → ClaimsAgree b

-- where they agree, the final path does not either
abbrev pub FinalInAnyOrder : Type 0
FinalInAnyOrder = (a b : List Slip) → IsHistory a → IsHistory b → SameBlocks a b → ClaimsAgree a
    → (final_tip a ≡ final_tip b) × (final_ancestry a ≡ final_ancestry b)

-- where the claim of the next block agrees with the final tip, all claims go on to agree
abbrev pub ClaimsGoOnToAgree : Type 0
ClaimsGoOnToAgree = (s : Slip) (older : List Slip) → IsHistory (s ∷ older) → ClaimsAgree older
    → ((t c : Slip) → final_tip older ≡ Some t → claim (s ∷ older) s ≡ Some c → IsTrue (agrees (s ∷ older) c t))
    → ClaimsAgree (s ∷ older)

-- an opening fits
abbrev pub OpeningFits : Type 0
OpeningFits = (newest : List Slip) (start : ℕ) → IsHistory newest
    → PlaceFits newest (opening newest start).end (opening newest start).lib

-- from a place that fits, the place after each step fits every later history whose claims agree
abbrev pub PlacesFit : Type 0
PlacesFit = (older more : List Slip) (place : Place) (mode : Mode) (stop : Option ℕ)
    → IsHistory (more ++ older) → ClaimsAgree (more ++ older) → PlaceFits older place.end place.lib → IsAhead stop place.end
    → AllByRecursion (λ x. PlaceFits (more ++ older) x.place.end x.place.lib) (steps_to older place mode stop)

-- the place after all steps is at the end of the target, no steps lead on from it, it fits, and the stop is not below its end
pub record Settles (newest : List Slip) (place : Place) (mode : Mode) (stop : Option ℕ) : Type 0 where
  pub reached : place_to newest place mode stop ≡ place_at_end (final_ancestry newest) (target newest mode stop)
  pub still : steps_of newest (place_to newest place mode stop) mode stop ≡ []
  pub fits : PlaceFits newest (place_to newest place mode stop).end (place_to newest place mode stop).lib
  pub ahead : IsAhead stop (place_to newest place mode stop).end

-- the steps from a place that fits come to rest
abbrev pub PlaceReached : Type 0
PlaceReached = (newest : List Slip) (place : Place) (mode : Mode) (stop : Option ℕ) → IsHistory newest
    → PlaceFits newest place.end place.lib → IsAhead stop place.end → Settles newest place mode stop

-- the steps lead a client that stands at a place that fits, with a base on the path of its lib, to the target with exactly the target's final blocks counted
abbrev pub StepsFold : Type 0
StepsFold = (newest : List Slip) (base : Option BlockRef) (place : Place) (mode : Mode) (stop : Option ℕ) → IsHistory newest
    → PlaceFits newest place.end place.lib → IsUnder newest base place.lib → IsAhead stop place.end
    → fold_steps (stands newest base place) (steps_of newest place mode stop) ≡ Some (has_all newest base (target newest mode stop))

-- and so they lead a client that has received nothing and begins at an opening
abbrev pub OpeningFolds : Type 0
OpeningFolds = (newest : List Slip) (start : ℕ) (mode : Mode) (stop : Option ℕ) → IsHistory newest
    → IsAhead stop (opening newest start).end
    → fold_steps (begins (opening newest start).end) (steps_of newest (opening newest start) mode stop)
    ≡ Some (has_all newest (opening newest start).end (target newest mode stop))

-- the oldest blocks are the front of the history
abbrev pub OldestIsFront : Type 0
OldestIsFront = (history : List Slip) (len : ℕ) → len ≤ length history → oldest len (reverse history) ≡ reverse (take len history)
