-- What callers see of a fork database.
use Rattle.std.specs.Prelude.{ℕ, ◌≡◌, ◌++◌, List, [], ◌∷◌, length, Option, Some}
use Rattle.std.specs.List.{slice_get}
use Rattle.block_record.specs.declared.blocks.Slip.{Slip}
use Rattle.block_record.specs.declared.blocks.Block.{Block}
use Rattle.block_record.specs.Slips.{slip}
use Rattle.chain_model.specs.Ancestry.{IsHistory}
use Rattle.chain_model.specs.Finality.{ClaimsAgree}
use Rattle.block_tree.specs.Places.{slip_at}

-- the history with its newest block first, the blocks by place with those that are still held, for how many more blocks there is room, and how many blocks there may be
pub record Forks : Type 0 where
  pub history : List Slip
  pub held : List (Option Block)
  pub room : ℕ
  pub limit : ℕ

-- each block that is held has its slip at its place
pub record HoldsOwn (history : List Slip) (held : List (Option Block)) : Type 0 where
  pub len : length held ≡ length history
  pub own : (at : ℕ) (b : Block) → slice_get held at ≡ Some (Some b) → slip_at history at ≡ Some (slip b)

-- one more block is there, which is held where it was given; the history stays one whose claims agree
pub record IsAppended (old new : Forks) (s : Slip) (kept : Option Block) : Type 0 where
  pub history : new.history ≡ s ∷ old.history
  pub sound : IsHistory new.history
  pub agreed : ClaimsAgree new.history
  pub held : new.held ≡ old.held ++ kept ∷ []
  pub limit : new.limit ≡ old.limit
