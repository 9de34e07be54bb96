-- The head of a history, and the blocks that may take its place.
use Rattle.std.specs.Prelude.{ℕ, ◌≡◌, ◌<◌, ◌≤◌, ◌⊎◌, Bool, true, List, [], ◌∷◌, Some, IsTrue, IsSomeAnd}
use Rattle.std.specs.List.{All, Contains}
use Rattle.std.specs.Ordering.{nat_cmp, ordering_then}
use Rattle.std.specs.declared.cmp.Ordering.{Ordering}
use Rattle.block_record.specs.declared.blocks.Slip.{Slip}
use Rattle.chain_model.specs.Finality.{on_path, final_tip}
use Rattle.chain_model.specs.Steps.{head, holds_tip}
use Rattle.block_tree.specs.Places.{slip_at}
use Rattle.fork_db.specs.declared.heads.Rival.{Rival}

-- the place of the head, its rivals in any order, and for how many more blocks there is room
pub record Ranking : Type 0 where
  pub head : ℕ
  pub rivals : List Rival
  pub room : ℕ

-- rivals by number, and among equals the oldest is the greatest
abbrev pub rival_cmp : Rival → Rival → Ordering
rival_cmp a b = ordering_then (nat_cmp a.num b.num) (nat_cmp b.place.0 a.place.0)

-- of the blocks that pass, the one at this place has the greatest number, and among equals it is the oldest
pub record IsBest (passes : Slip → Bool) (newest : List Slip) (place : ℕ) (z : Slip) : Type 0 where
  pub here : slip_at newest place ≡ Some z
  pub good : passes z ≡ true
  pub most : (at : ℕ) (x : Slip) → slip_at newest at ≡ Some x → passes x ≡ true → (x.num < z.num) ⊎ ((x.num ≡ z.num) × (place ≤ at))

-- whether the path of a block has the final tip
abbrev pub holds_final_tip : List Slip → Slip → Bool
holds_final_tip newest s = holds_tip newest (final_tip newest) s

-- the rival has the number of the block at its place
abbrev pub IsRivalOf : List Slip → Rival → Type 0
IsRivalOf newest r = IsSomeAnd (slip_at newest r.place.0) (λ s. s.num ≡ r.num)

-- the path of the block at a place has the final tip
abbrev pub HoldsTipAt : List Slip → ℕ → Type 0
HoldsTipAt newest place = IsSomeAnd (slip_at newest place) (λ s. IsTrue (holds_final_tip newest s))

-- the block is on the path of a rival
abbrev pub IsUnderRival : List Slip → List Rival → Slip → Type 0
IsUnderRival newest rivals x = (r : Rival) × Contains rivals r × IsSomeAnd (slip_at newest r.place.0) (λ y. IsTrue (on_path newest x y))

-- the block at the place is the head, and each block whose path has the final tip is on the path of the head or of a rival
pub record RanksAll (newest : List Slip) (place : ℕ) (rivals : List Rival) : Type 0 where
  pub top : Slip
  pub best : IsBest (holds_final_tip newest) newest place top
  pub is_head : head newest ≡ Some top
  pub own : All (IsRivalOf newest) rivals
  pub covers : (at : ℕ) (x : Slip) → slip_at newest at ≡ Some x → holds_final_tip newest x ≡ true
      → IsTrue (on_path newest x top) ⊎ IsUnderRival newest rivals x

-- a place and rivals fit a history: without a block there is no rival, and the place is 0
abbrev pub IsRanked : List Slip → ℕ → List Rival → Type 0
IsRanked [] place rivals = (place ≡ 0) × (rivals ≡ [])
IsRanked (s ∷ older) place rivals = RanksAll (s ∷ older) place rivals
