-- Small shelves, and what loading them gives.
use Rattle.std.specs.Prelude.{ℕ, ◌≡◌, [], ◌∷◌, Some}
use Rattle.block_record.specs.declared.blocks.Slip.{Slip}
use Rattle.relay_model.specs.Worlds.{World}
use Rattle.relay_model.specs.Runs.{empty_world}
use Rattle.relay_model.specs.Offers.{HistoryFull, plain_kind}
use Rattle.relay_model.specs.Orders.{root_of}
use Rattle.relay_model.specs.Tables.{block}
use Rattle.bundle_model.specs.Tables.{link, limits, bundle, short, first_hundred}
use Rattle.store_model.specs.Shown.{Single, Shown}
use Rattle.store_model.specs.Loads.{taken, loaded}
use Rattle.store_model.specs.Laws.{IsReloadable}

-- a file of one block with a short name
abbrev pub file : ℕ → Slip → Single
file name s = record { name = name ∷ []; slip = s }

-- an empty relay that takes each number
abbrev pub fresh : World
fresh = empty_world 0 0 limits

-- after a stop between the commit of the first hundred and the next call: its blocks are still in `one/` too
abbrev pub stopped : Shown
stopped = record {
  size = 100;
  merged = bundle 0 first_hundred ∷ [];
  other = [];
  one = file 1 (link 99 50) ∷ file 2 (link 199 150) ∷ file 3 (link 1 0) ∷ file 4 (link 150 100) ∷ file 5 (link 100 99) ∷ [];
  forked = [];
}

-- 1/a1 and, on it, 2/b2 and 2/c2, which holds itself for final
abbrev pub a1 : Slip
a1 = block 1 (1 ∷ []) 0 (0 ∷ []) 0

abbrev pub b2 : Slip
b2 = block 2 (2 ∷ []) 1 (1 ∷ []) 1

abbrev pub c2 : Slip
c2 = block 2 (3 ∷ []) 1 (1 ∷ []) 2

-- 105/z5 on c2
abbrev pub z5 : Slip
z5 = block 105 (5 ∷ []) 2 (3 ∷ []) 105

-- these four, merged and swept
abbrev pub forked : Shown
forked = record { size = 100; merged = bundle 0 (a1 ∷ c2 ∷ []) ∷ []; other = []; one = file 9 z5 ∷ []; forked = file 8 b2 ∷ [] }

-- 5/a5, 6/a6 on it, and 4/x4 of another chain
abbrev pub a5 : Slip
a5 = block 5 (5 ∷ []) 4 (4 ∷ []) 0

abbrev pub a6 : Slip
a6 = block 6 (6 ∷ []) 5 (5 ∷ []) 5

abbrev pub x4 : Slip
x4 = block 4 (14 ∷ []) 3 (13 ∷ []) 0

abbrev pub stray : Shown
stray = record { size = 100; merged = []; other = []; one = file 1 x4 ∷ file 2 a5 ∷ file 3 a6 ∷ []; forked = [] }

-- the root alone, and a relay that holds it
abbrev pub alone : Shown
alone = record { size = 100; merged = []; other = []; one = file 1 a1 ∷ []; forked = [] }

abbrev pub lone : World
lone = record fresh { kind = Some plain_kind; history = a1 ∷ [] }

-- what small shelves give
pub record ShelfTable : Type 0 where
  -- files of one block are taken by number, after the bundles; the last is first
  pub stopped_taken : taken stopped ≡ link 199 150 ∷ link 150 100 ∷ link 100 99 ∷ link 99 50 ∷ link 1 0 ∷ link 99 50 ∷ link 50 2 ∷ link 2 1 ∷ link 1 0 ∷ []
  pub stopped_history : (loaded stopped fresh).world.history ≡ short
  -- what a merged file shows counts as stored
  pub stopped_stored : (loaded stopped fresh).world.stored ≡ 3 ∷ 2 ∷ 1 ∷ 0 ∷ []
  -- a history for which the limit has no room is told
  pub stopped_refused : (loaded stopped (record fresh { limits = record limits { history = 5 } })).full ≡ Some (HistoryFull 5 1)
  -- a block of `forked/` comes after its parent, and counts as stored
  pub forked_history : (loaded forked fresh).world.history ≡ z5 ∷ b2 ∷ c2 ∷ a1 ∷ []
  pub forked_stored : (loaded forked fresh).world.stored ≡ 2 ∷ 1 ∷ 0 ∷ []
  -- a block below the first number makes no root
  pub early_history : (loaded stray (empty_world 5 0 limits)).world.history ≡ a6 ∷ a5 ∷ []
  pub early_root : root_of 5 (taken stray) ≡ Some a5
  -- but one below the old root that a stop left behind becomes the root, and the old blocks wait: so such a shelf is not clean
  pub stray_history : (loaded stray fresh).world.history ≡ x4 ∷ []
  pub stray_waiting : (loaded stray fresh).world.waiting ≡ a6 ∷ a5 ∷ []
  pub stray_root : root_of 0 (taken stray) ≡ Some x4
  -- what is asked of a shelf can be had
  pub reloadable : IsReloadable alone lone
