-- What the files of a shelf show, as slips.
use Rattle.std.specs.Prelude.{ℕ, ◌≤◌, ◌⊎◌, List, map, IsSomeAnd}
use Rattle.block_record.specs.declared.blocks.Slip.{Slip}
use Rattle.chain_model.specs.Finality.{final_tip, final_ancestry}
use Rattle.bundle_model.specs.Members.{Among}
use Rattle.bundle_model.specs.Bundles.{Bundle}
use Rattle.bundle_model.specs.Laws.{IsInBundle}

-- a file of one block: its whole name and its block
pub record Single : Type 0 where
  pub name : List ℕ
  pub slip : Slip

-- what a shelf shows: the size of its bundles; the files of the folder of that size by rising base, each with its blocks in order; those of the other size's folder; and the files of `one/` and of `forked/`
pub record Shown : Type 0 where
  pub size : ℕ
  pub merged : List Bundle
  pub other : List Bundle
  pub one : List Single
  pub forked : List Single

-- the blocks of files of one block
abbrev pub slips : List Single → List Slip
slips files = map (λ file. file.slip) files

-- a block is shown by a file of one block
abbrev pub IsSingle : Shown → Slip → Type 0
IsSingle shown s = Among (slips shown.one) s ⊎ Among (slips shown.forked) s

-- a block is shown in the file of merged blocks for its number
abbrev pub IsMerged : Shown → Slip → Type 0
IsMerged shown s = IsInBundle shown.size shown.merged s

-- a block is shown
abbrev pub IsShown : Shown → Slip → Type 0
IsShown shown s = IsMerged shown s ⊎ IsSingle shown s

-- a block is off the final path, and its number is at most the final tip's
pub record IsPassed (newest : List Slip) (s : Slip) : Type 0 where
  pub off : Among (final_ancestry newest) s → ⊥
  pub low : IsSomeAnd (final_tip newest) (λ tip. s.num ≤ tip.num)
