-- What the files of a plan hold.
use Rattle.std.specs.Prelude.{List, [], ◌∷◌, reverse, Option, None, Some, ⊤}
use Rattle.std.specs.List.{AllByRecursion}
use Rattle.block_record.specs.declared.blocks.Block.{Block}
use Rattle.block_record.specs.declared.blocks.Kind.{Kind}
use Rattle.one_block.specs.Heads.{HoldsBlocks}
use Rattle.one_block.specs.OneFiles.{one_file_text}
use Rattle.stored_blocks.specs.declared.plans.BundlePlan.{BundlePlan}
use Rattle.bundle_merger.specs.Containers.{blocks_of, bundle_text}

-- the file of a block holds the block and nothing else
abbrev pub IsHeldAlone : Kind → Block → Type 0
IsHeldAlone kind b = HoldsBlocks (one_file_text kind b) kind.block_type (b ∷ [])

-- the files of a plan hold its blocks, and nothing else
pub record IsReadBack (kind : Kind) (plan : BundlePlan) : Type 0 where
  pub dead : AllByRecursion (IsHeldAlone kind) (blocks_of plan.dead.items)
  pub bundle : HoldsBlocks (bundle_text kind (blocks_of plan.finals.items)) kind.block_type (reverse (blocks_of plan.finals.items))

-- so do those of plans, of a kind where there is one
abbrev pub AreReadBack : Option Kind → List BundlePlan → Type 0
AreReadBack kind [] = ⊤
AreReadBack None (plan ∷ plans) = ⊥
AreReadBack (Some kind) (plan ∷ plans) = IsReadBack kind plan × AreReadBack (Some kind) plans
