-- What a shelf keeps of a relay's world.
use Rattle.std.specs.Prelude.{◌⊎◌, List}
use Rattle.std.specs.List.{AllByRecursion}
use mathlib.Core.List.{IsPrefix}
use Rattle.block_record.specs.declared.blocks.Slip.{Slip}
use Rattle.chain_model.specs.Finality.{final_ancestry}
use Rattle.relay_model.specs.Worlds.{World}
use Rattle.bundle_model.specs.Members.{Among}
use Rattle.bundle_model.specs.Bundles.{bundles_of}
use Rattle.bundle_model.specs.Plans.{stored_slips}
use Rattle.store_model.specs.Shown.{Shown, slips, IsSingle, IsMerged, IsShown, IsPassed}

-- the files of merged blocks are the first bundles of the history; each block of the history is shown, and each waiting one by a file of one block; and each block in `forked/` is off the final path and at most at the tip
pub record Keeps (shown : Shown) (w : World) : Type 0 where
  pub bundles : IsPrefix shown.merged (bundles_of shown.size w.history)
  pub history : AllByRecursion (IsShown shown) w.history
  pub waiting : AllByRecursion (IsSingle shown) w.waiting
  pub forked : AllByRecursion (IsPassed w.history) (slips shown.forked)

-- a stored block off the final path is shown in `forked/`, and its number is at most the tip's
pub record IsStoredFork (shown : Shown) (newest : List Slip) (s : Slip) : Type 0 where
  pub passed : IsPassed newest s
  pub there : Among (slips shown.forked) s

-- a stored block of the final path is shown in its file of merged blocks
pub record IsStoredFinal (shown : Shown) (newest : List Slip) (s : Slip) : Type 0 where
  pub final : Among (final_ancestry newest) s
  pub merged : IsMerged shown s

-- each stored block is shown where stored blocks are looked for
abbrev pub KeepsStored : Shown → World → Type 0
KeepsStored shown w = AllByRecursion (λ s. IsStoredFinal shown w.history s ⊎ IsStoredFork shown w.history s) (stored_slips w)

-- both of these
pub record IsKeeping (shown : Shown) (w : World) : Type 0 where
  pub keeps : Keeps shown w
  pub stored : KeepsStored shown w
