-- The numbers of the blocks of a history. The newest block is first; a block's number, its place, is how many blocks are older.
use Rattle.std.specs.List.{slice_get}
use Rattle.std.specs.Prelude.{ℕ, ◌≡◌, ◌<◌, ◌≤◌, ◌⊎◌, ◌==◌, false, find, map, reverse, List, [], ◌∷◌, length, if◌then◌else◌, Option, None, Some}
use Rattle.block_record.specs.Ids.{same_id}
use Rattle.block_record.specs.declared.blocks.Slip.{Slip}
use Rattle.chain_model.specs.Ancestry.{has_id}
use Rattle.block_tree.specs.declared.slips.SlipById.{SlipById}

-- the place of the block with this id
abbrev pub place_of : List Slip → List ℕ → Option ℕ
place_of [] id = None
place_of (s ∷ older) id = if same_id s.id id then Some (length older) else place_of older id

-- the block at this place
abbrev pub slip_at : List Slip → ℕ → Option Slip
slip_at [] at = None
slip_at (s ∷ older) at = if at == length older then Some s else slip_at older at

-- the places of the parents, the newest block's first
abbrev pub parent_places : List Slip → List (Option ℕ)
parent_places [] = []
parent_places (s ∷ older) = place_of older s.parent_id ∷ parent_places older

-- a history and how many more blocks have room
pub record Blocks : Type 0 where
  pub history : List Slip
  pub room : ℕ

-- the slips in order of arrival, the newest first
abbrev pub history_of : List SlipById → List Slip
history_of slips = reverse (map (λ s. s.slip) slips)

-- no two blocks have one id
abbrev pub HasIdsOnce : List Slip → Type 0
HasIdsOnce [] = Unit {0}
HasIdsOnce (s ∷ older) = (has_id older s.id ≡ false) × HasIdsOnce older

-- the first block of one path that is on another, both with their last blocks first
abbrev pub meeting : List Slip → List Slip → Option Slip
meeting line other = find (λ s. has_id other s.id) line

-- the block at a place that may be missing
abbrev pub slip_of : List Slip → Option ℕ → Option Slip
slip_of newest None = None
slip_of newest (Some at) = slip_at newest at

-- from a block with a number above the limit: to the block at the distance n, where its number is above the limit too
abbrev pub IsSkip : List Slip → List ℕ → ℕ → ℕ → ℕ → ℕ → Type 0
IsSkip newest line n limit from to =
    ((slice_get line n ≡ Some to) × ((y : Slip) → slip_at newest to ≡ Some y → limit < y.num))
    ⊎ ((to ≡ from) × ((p : ℕ) (y : Slip) → slice_get line n ≡ Some p → slip_at newest p ≡ Some y → y.num ≤ limit))
