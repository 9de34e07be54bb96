-- What a client makes of steps.
use Rattle.std.specs.Prelude.{ℕ, ◌+◌, ◌==◌, ◌&&◌, Bool, true, false, nat_lt, List, [], ◌∷◌, reverse, length, if◌then◌else◌, Option, None, Some, slice_get, option_and_then}
use Rattle.block_record.specs.declared.blocks.Slip.{Slip}
use Rattle.block_record.specs.declared.blocks.BlockRef.{BlockRef}
use Rattle.chain_model.specs.declared.places.Step.TheVariants as step
use Rattle.block_record.specs.Ids.{same_id}
use Rattle.chain_model.specs.Steps.{BlockStep, ref_of}

-- what a client has: its base, the path after it with the last block first, and how many blocks of the path are final
pub record FoldState : Type 0 where
  pub base : Option BlockRef
  pub blocks : List BlockRef
  pub finals : ℕ

-- whether the block names this id and number as its parent's
abbrev pub is_child : List ℕ → ℕ → Slip → Bool
is_child id num s = same_id s.parent_id id && (s.parent_num == num)

-- whether the block is a child of the last block, which is the base where the path is empty; with no block at all each block is
abbrev pub follows_last : Option BlockRef → List BlockRef → Slip → Bool
follows_last None [] s = true
follows_last (Some r) [] s = is_child r.id r.num s
follows_last base (p ∷ blocks) s = is_child p.id p.num s

-- whether two references are one
abbrev pub same_ref : BlockRef → BlockRef → Bool
same_ref a b = same_id a.id b.id && (a.num == b.num)

-- new appends a child of the last block
abbrev pub after_new : FoldState → Slip → Option FoldState
after_new f s = if follows_last f.base f.blocks s then Some (record f { blocks = ref_of s ∷ f.blocks }) else None

-- newfinal does so only where all blocks of the path are final, and counts the block
abbrev pub after_newfinal : FoldState → Slip → Option FoldState
after_newfinal f s = if follows_last f.base f.blocks s && (f.finals == length f.blocks) then Some (record f { blocks = ref_of s ∷ f.blocks; finals = f.finals + 1 }) else None

-- undo removes the last block only where it is the step's block and is not counted as final
abbrev pub undo_last : Option BlockRef → List BlockRef → ℕ → Slip → Option FoldState
undo_last base [] finals s = None
undo_last base (p ∷ blocks) finals s = if same_ref p (ref_of s) && nat_lt finals (length (p ∷ blocks)) then Some (record { base = base; blocks = blocks; finals = finals }) else None

-- whether the block is the one at the reference, where there is one
abbrev pub is_block : Option BlockRef → Slip → Bool
is_block None s = false
is_block (Some p) s = same_ref p (ref_of s)

-- final counts the first block of the path that is not counted, which has to be the step's block
abbrev pub after_final : FoldState → Slip → Option FoldState
after_final f s = if is_block (slice_get (reverse f.blocks) f.finals) s then Some (record f { finals = f.finals + 1 }) else None

-- the state after a step, or none where the step has no fold
abbrev pub after_step : FoldState → BlockStep → Option FoldState
after_step f x = elim x.step [
  | step.New ↦ after_new f x.slip
  | step.Undo ↦ undo_last f.base f.blocks f.finals x.slip
  | step.Final ↦ after_final f x.slip
  | step.NewFinal ↦ after_newfinal f x.slip
]

-- the state after the steps, or none where one of them has no fold
abbrev pub fold_steps : FoldState → List BlockStep → Option FoldState
fold_steps f [] = Some f
fold_steps f (x ∷ xs) = option_and_then (λ g. fold_steps g xs) (after_step f x)
