-- What a merger writes for a plan, and what stands after it.
use Rattle.std.specs.Prelude.{ℕ, ◌≡◌, ⊤, List, [], ◌∷◌, ◌++◌, map, Option}
use Rattle.std.specs.Option.{option_map}
use mathlib.Core.List.{IsPrefix}
use Rattle.block_record.specs.declared.blocks.Block.{Block}
use Rattle.block_record.specs.declared.blocks.Kind.{Kind}
use Rattle.outer_world.specs.Causes.{Rose}
use Rattle.outer_world.specs.Files.{Files, with_file}
use Rattle.one_block.specs.declared.faults.StoreFault.{StoreFault}
use Rattle.one_block.specs.declared.faults.StoreFault.TheVariants.{ShelfFault, ShelfBad, Missing, StoredOther, NameClash, Mem}
use Rattle.one_block.specs.Files.{forked_text, merged_text}
use Rattle.one_block.specs.OneFiles.{one_file_text}
use Rattle.stored_blocks.specs.declared.plans.BundlePlan.{BundlePlan}
use Rattle.bundle_merger.specs.Containers.{blocks_of, bundle_text}

-- files that are written one after another: the whole name and the text of each
abbrev pub Writes : Type 0
Writes = List (List ℕ × List ℕ)

-- one file alone
abbrev pub one_file : List ℕ → List ℕ → Writes
one_file name text = (name, text) ∷ []

-- the file of a block off the final path, in `forked/`
abbrev pub dead_file : Kind → Block → List ℕ × List ℕ
dead_file kind b = (forked_text b.num b.id, one_file_text kind b)

-- those of such blocks, in their order
abbrev pub dead_files : Kind → List Block → Writes
dead_files kind blocks = map (dead_file kind) blocks

-- the file of a bundle; of no blocks there is none
abbrev pub bundle_files : Kind → ℕ → ℕ → List Block → Writes
bundle_files kind size base [] = []
bundle_files kind size base (b ∷ blocks) = one_file (merged_text size base) (bundle_text kind (b ∷ blocks))

-- the files of a plan: those of its blocks off the final path, and then that of its bundle
abbrev pub plan_files : Kind → BundlePlan → Writes
plan_files kind plan = dead_files kind (blocks_of plan.dead.items) ++ bundle_files kind plan.size plan.base (blocks_of plan.finals.items)

-- the files with some that were written, one after another
abbrev pub with_all : Writes → Files → Files
with_all [] files = files
with_all (write ∷ writes) files = with_all writes (with_file write.0 write.1 files)

-- told files with those
abbrev pub told_with_all : Writes → Option Files → Option Files
told_with_all writes files = option_map (with_all writes) files

-- what each refusal rests on: the count of faults, or memory, which is free. There is no other
abbrev pub Refuses : StoreFault → ℕ → ℕ → Type 0
Refuses ShelfFault before now = Rose before now
Refuses (ShelfBad name at) before now = ⊥
Refuses (Missing name) before now = ⊥
Refuses (StoredOther kept read) before now = ⊥
Refuses (NameClash held offered) before now = ⊥
Refuses Mem before now = ⊤

-- writing stopped: the first of the files were written, and no more
pub record IsStopped (writes : Writes) (old new : Option Files) (before now : ℕ) (fault : StoreFault) : Type 0 where
  pub done : Writes
  pub front : IsPrefix done writes
  pub files : new ≡ told_with_all done old
  pub cause : Refuses fault before now
