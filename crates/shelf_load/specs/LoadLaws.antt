-- That taking blocks one after another, offering again those that were put by, and storing those that came late is loading as it is defined, as a statement.
use Rattle.std.specs.Prelude.{ℕ, ◌≡◌, List, [], ◌∷◌, ◌++◌, map, reverse, None}
use Rattle.std.specs.List.{AllByRecursion}
use Rattle.block_record.specs.declared.blocks.Slip.{Slip}
use Rattle.relay_model.specs.Worlds.{World}
use Rattle.relay_model.specs.Soundness.{IsBlock, IsSound}
use Rattle.bundle_model.specs.Members.{Among}
use Rattle.bundle_model.specs.Bundles.{blocks_of}
use Rattle.bundle_model.specs.Plans.{stored_slips}
use Rattle.bundle_model.specs.Shedding.{stored_after}
use Rattle.store_model.specs.Shown.{Shown, slips}
use Rattle.store_model.specs.Laws.{IsEmpty}
use Rattle.store_model.specs.Loads.{Round, loaded, loading_of, taken}
use Rattle.shelf_load.specs.declared.put_by.Origin.{Origin}
use Rattle.shelf_load.specs.declared.put_by.Origin.TheVariants.{OwnFile, StoredFile}
use Rattle.shelf_load.specs.Asides.{Aside}
use Rattle.shelf_load.specs.Taking.{Stage, Taken, stage, take_all}
use Rattle.shelf_load.specs.Ending.{put_all, round_at}

-- a world with other blocks stored
abbrev pub with_stored : List ℕ → World → World
with_stored stored w = record w { stored = stored }

-- blocks that were taken one after another
abbrev pub slips_taken : List Taken → List Slip
slips_taken ts = map (λ t. t.slip) ts

-- those of them that were read in stored files
abbrev pub slips_by : Origin → Slip → List Slip → List Slip
slips_by OwnFile s ss = ss
slips_by StoredFile s ss = s ∷ ss

abbrev pub stored_taken : List Taken → List Slip
stored_taken [] = []
stored_taken (t ∷ ts) = slips_by t.origin t.slip (stored_taken ts)

-- nothing is kept beside the relay yet
abbrev pub nothing : Aside
nothing = record { put_by = []; late = []; passed = 0 }

-- after all blocks were taken by an empty world, with bundles of the shelf's size
abbrev pub all_taken : Shown → World → List Taken → Stage
all_taken shown w ts = take_all (stage (record w { size = shown.size }) nothing) ts

-- and those that were put by were offered again
abbrev pub offered_again : Stage → Round
offered_again g = put_all (round_at g.world) g.aside.put_by

-- and those that came late were stored
abbrev pub all_stored : Stage → World → World
all_stored g w = record w { stored = stored_after w.history w.stored (reverse g.aside.late) }

-- a world is another one, with the same blocks stored
pub record IsAlikeStored (w v : World) : Type 0 where
  pub world : v ≡ with_stored v.stored w
  pub stored : stored_slips v ≡ stored_slips w

-- these are the blocks that the files show, in the order in which they are to be taken, and those of stored files are told
pub record AreTaken (shown : Shown) (ts : List Taken) : Type 0 where
  pub all : slips_taken ts ≡ taken shown
  pub blocks : AllByRecursion IsBlock (slips_taken ts)
  pub stored : (s : Slip) → Among (stored_taken ts) s → Among (blocks_of shown.merged ++ slips shown.forked) s
  pub told : (s : Slip) → Among (blocks_of shown.merged ++ slips shown.forked) s → Among (stored_taken ts) s

-- then the world is that of loading, and the same answer says that the history is full
pub record IsLoading (shown : Shown) (w : World) (ts : List Taken) : Type 0 where
  pub world : IsAlikeStored (loaded shown w).world (all_stored (all_taken shown w ts) (offered_again (all_taken shown w ts)).world)
  pub full : (offered_again (all_taken shown w ts)).full ≡ (loaded shown w).full

abbrev pub TakingIsLoading : Type 0
TakingIsLoading = (shown : Shown) (w : World) (ts : List Taken) → IsSound w → IsEmpty w → AreTaken shown ts → (loading_of shown w).full ≡ None → IsLoading shown w ts
