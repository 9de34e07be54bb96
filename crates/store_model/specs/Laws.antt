-- What loading keeps, as a statement.
use Rattle.std.specs.Prelude.{ℕ, ◌≡◌, ◌<◌, false, List, [], None, Some}
use Rattle.std.specs.List.{AllByRecursion}
use mathlib.Core.List.{IsSuffix}
use Rattle.block_record.specs.declared.blocks.Slip.{Slip}
use Rattle.chain_model.specs.Ancestry.{find_id}
use Rattle.chain_model.specs.Finality.{ClaimsAgree, final_ancestry}
use Rattle.chain_model.specs.Steps.{head}
use Rattle.relay_model.specs.Worlds.{World}
use Rattle.relay_model.specs.Offers.{num_of}
use Rattle.relay_model.specs.Soundness.{IsSound, IsBlock}
use Rattle.relay_model.specs.Orders.{once, root_of, linked_order}
use Rattle.relay_model.specs.Runs.{OneEach}
use Rattle.bundle_model.specs.Laws.{IsFrontStored}
use Rattle.store_model.specs.Shown.{Shown}
use Rattle.store_model.specs.Kept.{Keeps, IsKeeping}
use Rattle.store_model.specs.Loads.{taken, loaded}
use Rattle.store_model.specs.Clean.{ClaimsAgreeFrom, IsClean}

-- nothing came yet, and the relay is open
pub record IsEmpty (w : World) : Type 0 where
  pub history : w.history ≡ []
  pub waiting : w.waiting ≡ []
  pub stored : w.stored ≡ []
  pub opened : w.closed ≡ false

-- a history has no further block: then the final paths are equal, and the heads have one number
pub record IsSame (old new : List Slip) : Type 0 where
  pub finals : final_ancestry new ≡ final_ancestry old
  pub heads : num_of (head new) ≡ num_of (head old)

-- what a world that was loaded has of the one before
pub record Reloads (shown : Shown) (old new : World) : Type 0 where
  pub sound : IsSound new
  -- its bundles are of the shelf's size
  pub sized : new.size ≡ shown.size
  -- every block of the old history
  pub held : (s : Slip) → find_id old.history s.id ≡ Some s → find_id new.history s.id ≡ Some s
  -- the old final path is a front of the new one
  pub finals : IsSuffix (final_ancestry old.history) (final_ancestry new.history)
  -- the shelf keeps the new world, and its stored blocks
  pub kept : IsKeeping shown new
  -- the stored blocks of the final path are those of the merged files, so a merger goes on where they end
  pub front : IsFrontStored new
  pub same : ((s : Slip) → find_id new.history s.id ≡ Some s → find_id old.history s.id ≡ Some s) → IsSame old.history new.history

-- what is asked of a shelf and of a world
pub record IsReloadable (shown : Shown) (w : World) : Type 0 where
  pub size : 0 < shown.size
  pub sound : IsSound w
  pub blocks : AllByRecursion IsBlock (taken shown)
  pub kept : Keeps shown w
  pub clean : IsClean w.first shown w.history

-- loading brings back what was kept
abbrev pub LoadKeeps : Type 0
LoadKeeps = (shown : Shown) (old empty : World) → IsReloadable shown old → IsEmpty empty → empty.first ≡ old.first
    → (loaded shown empty).full ≡ None → Reloads shown old (loaded shown empty).world

-- where the claims of the order from scratch of some blocks agree, so do those of each history that the blocks make from the root of the order
abbrev pub OrderDecidesClaims : Type 0
OrderDecidesClaims = (first : ℕ) (blocks : List Slip) (r : Slip) → OneEach blocks → root_of first (once blocks) ≡ Some r → ClaimsAgree (linked_order first (once blocks)) → ClaimsAgreeFrom blocks (Some r)
