-- Small bundles and plans.
use Rattle.std.specs.Prelude.{ℕ, ◌≡◌, List, [], ◌∷◌, Some, None}
use Rattle.block_record.specs.declared.blocks.Slip.{Slip}
use Rattle.relay_model.specs.Tables.{block}
use Rattle.relay_model.specs.Worlds.{World, Limits}
use Rattle.relay_model.specs.Runs.{empty_world}
use Rattle.bundle_model.specs.Bundles.{Bundle, bundles_of}
use Rattle.bundle_model.specs.Plans.{Plan, next_plan}

-- a block of a chain whose ids are numbers, each of which holds itself for final
abbrev pub link : ℕ → ℕ → Slip
link num parent = block num (num ∷ []) parent (parent ∷ []) num

-- limits that no history here meets
abbrev pub limits : Limits
limits = record { history = 99; wait_blocks = 9; wait_bytes = 99 }

-- a world with this history and bundles of a hundred numbers, of which these places are stored
abbrev pub world : List Slip → List ℕ → World
world history stored = record (empty_world 0 0 limits) { history = history; stored = stored }

-- a bundle by its base and its blocks
abbrev pub bundle : ℕ → List Slip → Bundle
bundle base blocks = record { base = base; blocks = blocks }

-- the plan of base 0 and a hundred numbers
abbrev pub hundred_plan : List Slip → List Slip → Plan
hundred_plan finals dead = record { size = 100; base = 0; finals = finals; dead = dead; below = 100 }

-- the chain 1, 2, 50, 99, 100, 150, 199
abbrev pub short : List Slip
short = link 199 150 ∷ link 150 100 ∷ link 100 99 ∷ link 99 50 ∷ link 50 2 ∷ link 2 1 ∷ link 1 0 ∷ []

-- those of its first hundred
abbrev pub first_hundred : List Slip
first_hundred = link 1 0 ∷ link 2 1 ∷ link 50 2 ∷ link 99 50 ∷ []

-- 1/a, 2/b and 2/c on a, of which c holds itself for final, and 105 on c
abbrev pub forked : List Slip
forked = block 105 (5 ∷ []) 2 (3 ∷ []) 105 ∷ block 2 (3 ∷ []) 1 (1 ∷ []) 2 ∷ block 2 (2 ∷ []) 1 (1 ∷ []) 1 ∷ block 1 (1 ∷ []) 0 (0 ∷ []) 0 ∷ []

-- what bundles there are, and what is planned
pub record BundleTable : Type 0 where
  -- the first hundred is due, and the second is not
  pub due : bundles_of 100 short ≡ bundle 0 first_hundred ∷ []
  -- with one more block it is
  pub both : bundles_of 100 (link 200 199 ∷ short) ≡ bundle 0 first_hundred ∷ bundle 100 (link 100 99 ∷ link 150 100 ∷ link 199 150 ∷ []) ∷ []
  -- a thousand is not reached
  pub thousand : bundles_of 1000 (link 200 199 ∷ short) ≡ []
  -- a hundred without a block has no bundle
  pub gap : bundles_of 100 (link 305 2 ∷ link 2 1 ∷ link 1 0 ∷ []) ≡ bundle 0 (link 1 0 ∷ link 2 1 ∷ []) ∷ []
  pub thousands : bundles_of 1000 (link 2010 1005 ∷ link 1005 5 ∷ link 5 4 ∷ []) ≡ bundle 0 (link 5 4 ∷ []) ∷ bundle 1000 (link 1005 5 ∷ []) ∷ []
  -- the plan of the first hundred, and none once it is stored
  pub planned : next_plan (world short []) ≡ Some (hundred_plan first_hundred [])
  pub stored : next_plan (world short (3 ∷ 2 ∷ 1 ∷ 0 ∷ [])) ≡ None
  -- none of a bundle of which a block is stored
  pub begun : next_plan (world short (1 ∷ [])) ≡ None
  -- a block off the final path goes with the bundle, or alone where the final ones are stored
  pub dead : next_plan (world forked []) ≡ Some (hundred_plan (block 1 (1 ∷ []) 0 (0 ∷ []) 0 ∷ block 2 (3 ∷ []) 1 (1 ∷ []) 2 ∷ []) (block 2 (2 ∷ []) 1 (1 ∷ []) 1 ∷ []))
  pub late : next_plan (world forked (2 ∷ 0 ∷ [])) ≡ Some (hundred_plan [] (block 2 (2 ∷ []) 1 (1 ∷ []) 1 ∷ []))
