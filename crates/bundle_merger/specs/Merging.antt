-- Plans that are written and shed one after another.
use Rattle.std.specs.Prelude.{ℕ, ◌≡◌, Bool, true, false, List, [], ◌∷◌, ◌++◌, length, map, filter, Option, None, Some, ⊤}
use Rattle.block_record.specs.declared.blocks.Slip.{Slip}
use Rattle.block_record.specs.declared.blocks.Kind.{Kind as NodeKind}
use Rattle.outer_world.specs.Files.{Files}
use Rattle.one_block.specs.declared.faults.StoreFault.{StoreFault}
use Rattle.relay_model.specs.Worlds.{World}
use Rattle.relay_model.specs.Chronicles.{Entry, Stored}
use Rattle.bundle_model.specs.Plans.{Plan, next_plan}
use Rattle.bundle_model.specs.Retained.{stored_finals}
use Rattle.bundle_model.specs.Shedding.{shed}
use Rattle.stored_blocks.specs.declared.plans.BundlePlan.{BundlePlan}
use Rattle.stored_blocks.specs.BundlePlans.{plan_seen}
use Rattle.bundle_merger.specs.declared.merging.Merged.{Merged}
use Rattle.bundle_merger.specs.ReadBack.{AreReadBack}
use Rattle.bundle_merger.specs.Writes.{IsStopped, Writes, plan_files, told_with_all}

-- each of these plans is the next one, as those before it are shed
abbrev pub AreNext : World → List Plan → Type 0
AreNext w [] = ⊤
AreNext w (plan ∷ plans) = (next_plan w ≡ Some plan) × AreNext (shed w plan) plans

-- the world once they are shed
abbrev pub all_shed : World → List Plan → World
all_shed w [] = w
all_shed w (plan ∷ plans) = all_shed (shed w plan) plans

-- whether a plan has a bundle: final blocks
abbrev pub has_bundle : List Slip → Bool
has_bundle [] = false
has_bundle (s ∷ finals) = true

-- how many of some plans have one
abbrev pub bundle_count : List Plan → ℕ
bundle_count plans = length (filter (λ plan. has_bundle plan.finals) plans)

-- a plan, where there is one
abbrev pub listed : Option BundlePlan → List BundlePlan
listed None = []
listed (Some plan) = plan ∷ []

-- what contracts see of plans
abbrev pub plans_seen : List BundlePlan → List Plan
plans_seen plans = map plan_seen plans

-- the files of plans, one plan after another
abbrev pub files_by : NodeKind → List BundlePlan → Writes
files_by kind [] = []
files_by kind (plan ∷ plans) = plan_files kind plan ++ files_by kind plans

-- those of a kind, where there is one
abbrev pub files_of : Option NodeKind → List BundlePlan → Writes
files_of None plans = []
files_of (Some kind) plans = files_by kind plans

-- these plans were the next ones; each was written, and then shed
pub record HasMerged (old new : World) (files now : Option Files) (plans : List BundlePlan) : Type 0 where
  pub next : AreNext old (plans_seen plans)
  pub shed : new ≡ all_shed old (plans_seen plans)
  pub written : now ≡ told_with_all (files_of old.kind plans) files
  pub held : AreReadBack old.kind plans

-- a merge came to its end: there is no further plan
pub record IsMerged (old new : World) (files now : Option Files) (merged : Merged) : Type 0 where
  pub plans : List BundlePlan
  pub done : HasMerged old new files now plans
  pub last : next_plan new ≡ None
  pub bundles : merged.bundles ≡ bundle_count (plans_seen plans)
  pub stored : merged.stored ≡ stored_finals new

-- a merge stopped: some plans were written and shed, and of the one that was next, where it came to that, a front of the files was written
pub record IsHalted (old new : World) (files now : Option Files) (before after : ℕ) (fault : StoreFault) : Type 0 where
  pub plans : List BundlePlan
  pub between : Option Files
  pub done : HasMerged old new files between plans
  pub begun : Option BundlePlan
  pub next : AreNext new (plans_seen (listed begun))
  pub held : AreReadBack new.kind (listed begun)
  pub stopped : IsStopped (files_of new.kind (listed begun)) between now before after fault

-- the entries grew by entries of stored blocks alone
abbrev pub AddsStored : List Entry → List Entry → Type 0
AddsStored old new = (places : List ℕ) × (new ≡ map Stored places ++ old)

-- nothing but the stored places changed
abbrev pub ChangesStored : World → World → Type 0
ChangesStored old new = new ≡ record old { stored = new.stored }
