-- The laws of bundles, as statements.
use Rattle.std.specs.Prelude.{ℕ, ◌≡◌, ◌≤◌, ◌<◌, ◌+◌, ◌⊎◌, true, List, [], ◌++◌, None, Some}
use Rattle.std.specs.List.{AllByRecursion}
use mathlib.Core.List.{IsPrefix, IsSuffix}
use Rattle.block_record.specs.declared.blocks.Slip.{Slip}
use Rattle.chain_model.specs.Ancestry.{IsHistory}
use Rattle.chain_model.specs.Finality.{ClaimsAgree, final_ancestry}
use Rattle.relay_model.specs.Offers.{tip_num}
use Rattle.bundle_model.specs.Members.{Among}
use Rattle.relay_model.specs.Worlds.{World}
use Rattle.bundle_model.specs.Bundles.{Bundle, bundles_of, blocks_of, finals_up, base_of, IsDue}
use Rattle.bundle_model.specs.Plans.{Plan, is_stored, next_plan}
use Rattle.bundle_model.specs.Shedding.{shed}
use Rattle.bundle_model.specs.Retained.{is_bundled, is_passed_by, left_count, retained}

-- where the final path goes on, the bundles begin with those that there were
abbrev pub BundlesGrow : Type 0
BundlesGrow = (size : ℕ) (older newer : List Slip) → 0 < size → IsHistory older → IsHistory newer
    → IsSuffix (final_ancestry older) (final_ancestry newer) → IsPrefix (bundles_of size older) (bundles_of size newer)

-- so they do while a history grows whose claims agree
abbrev pub BundlesGrowOn : Type 0
BundlesGrowOn = (size : ℕ) (older more : List Slip) → 0 < size → IsHistory (more ++ older) → ClaimsAgree (more ++ older)
    → IsPrefix (bundles_of size older) (bundles_of size (more ++ older))

-- the blocks of the bundles are the front of the final path, one after another, and none is left out
abbrev pub BundlesAreFront : Type 0
BundlesAreFront = (size : ℕ) (newest : List Slip) → 0 < size → IsHistory newest → IsPrefix (blocks_of (bundles_of size newest)) (finals_up newest)

-- each bundle is due
abbrev pub BundlesAreDue : Type 0
BundlesAreDue = (size : ℕ) (newest : List Slip) → 0 < size → AllByRecursion (IsDue size newest) (bundles_of size newest)

-- a bundle has this block
pub record IsInBundle (size : ℕ) (bundles : List Bundle) (s : Slip) : Type 0 where
  pub bundle : Bundle
  pub there : Among bundles bundle
  pub based : bundle.base ≡ base_of size s.num
  pub has : Among bundle.blocks s

-- each final block of a base that is reached is in the bundle of its base
abbrev pub FinalsAreBundled : Type 0
FinalsAreBundled = (size : ℕ) (newest : List Slip) (s : Slip) → 0 < size → IsHistory newest → Among (final_ancestry newest) s
    → base_of size s.num + size ≤ tip_num newest → IsInBundle size (bundles_of size newest) s

-- the stored blocks of the final path are those of the first bundles
pub record IsFrontStored (w : World) : Type 0 where
  pub front : List Bundle
  pub first : IsPrefix front (bundles_of w.size w.history)
  pub stored : (s : Slip) → Among (blocks_of front) s → is_stored w s ≡ true
  pub only : (s : Slip) → Among (final_ancestry w.history) s → is_stored w s ≡ true → Among (blocks_of front) s

-- nothing is left to be written: each block of a bundle is stored, and so is each block off the final path below the end of a bundle
pub record IsAllStored (w : World) : Type 0 where
  pub bundled : (s : Slip) → Among (blocks_of (bundles_of w.size w.history)) s → is_stored w s ≡ true
  pub dead : (b : Bundle) (s : Slip) → Among (bundles_of w.size w.history) b → Among w.history s → (Among (final_ancestry w.history) s → ⊥) → s.num < b.base + w.size → is_stored w s ≡ true

-- no other block is stored than plans of the relay's own shed: one of a bundle, or one off the final path below the end of the last one
abbrev pub IsOwnStored : World → Type 0
IsOwnStored w = (s : Slip) → Among w.history s → is_stored w s ≡ true → (is_bundled w.size w.history s ≡ true) ⊎ (is_passed_by w.size w.history s ≡ true)

-- where there is no further plan, nothing is left to be written
abbrev pub NoPlanIsAll : Type 0
NoPlanIsAll = (w : World) → 0 < w.size → IsHistory w.history → IsFrontStored w → next_plan w ≡ None → IsAllStored w

-- and no more blocks are retained than are left outside the bundles
abbrev pub NoPlanRetains : Type 0
NoPlanRetains = (w : World) → 0 < w.size → IsHistory w.history → IsFrontStored w → next_plan w ≡ None → retained w ≤ left_count w.size w.history

-- and exactly so many, where the relay shed plans of its own alone
abbrev pub OwnPlansRetain : Type 0
OwnPlansRetain = (w : World) → 0 < w.size → IsHistory w.history → IsFrontStored w → IsOwnStored w → next_plan w ≡ None → retained w ≡ left_count w.size w.history

-- a plan has the blocks of a bundle, or none
abbrev pub PlansAreBundles : Type 0
PlansAreBundles = (w : World) (plan : Plan) → 0 < w.size → IsHistory w.history → next_plan w ≡ Some plan
    → (plan.finals ≡ []) ⊎ Among (bundles_of w.size w.history) (record { base = plan.base; blocks = plan.finals })

-- while plans are shed, the stored final blocks go on to be those of the first bundles
abbrev pub ShedKeepsFront : Type 0
ShedKeepsFront = (w : World) (plan : Plan) → 0 < w.size → IsHistory w.history → IsFrontStored w → next_plan w ≡ Some plan → IsFrontStored (shed w plan)

-- and no others than those of the relay's own plans are stored
abbrev pub ShedKeepsOwn : Type 0
ShedKeepsOwn = (w : World) (plan : Plan) → 0 < w.size → IsHistory w.history → IsOwnStored w → next_plan w ≡ Some plan → IsOwnStored (shed w plan)

-- and each leaves fewer blocks retained, so that plans come to an end
abbrev pub ShedRetainsLess : Type 0
ShedRetainsLess = (w : World) (plan : Plan) → 0 < w.size → IsHistory w.history → next_plan w ≡ Some plan → retained (shed w plan) < retained w
