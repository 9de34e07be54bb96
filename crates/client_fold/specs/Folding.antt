-- How contracts see a folder, and what a step makes of it.
use Rattle.std.specs.Prelude.{ℕ, ◌≡◌, ◌+◌, ◌-◌, ◌^◌, Bool, true, false, min, List, [], ◌∷◌, reverse, Option, None, Some, IsSome}
use Rattle.block_record.specs.declared.blocks.BlockRef.{BlockRef}
use Rattle.block_record.specs.declared.blocks.Slip.{Slip}
use Rattle.chain_model.specs.declared.places.Step.{Step}
use Rattle.chain_model.specs.declared.places.Step.TheVariants as step
use Rattle.chain_model.specs.Fold.{FoldState, is_child}
use Rattle.client_fold.specs.declared.folder.FoldFault.{FoldFault}
use Rattle.client_fold.specs.declared.folder.FoldFault.TheVariants.{Illegal, Mem}

-- a folder: what its client has, and how many steps it was sent
pub record FolderState : Type 0 where
  pub fold : FoldState
  pub steps : ℕ

-- a client with this base that has these blocks, from the first on, of which so many are final
abbrev pub fold_of : Option BlockRef → List BlockRef → ℕ → FoldState
fold_of base path finals = record { base = base; blocks = reverse path; finals = finals }

-- a folder of these
abbrev pub folder_of : Option BlockRef → List BlockRef → ℕ → ℕ → FolderState
folder_of base path finals steps = record { fold = fold_of base path finals; steps = steps }

-- the count of steps after one more; it stands still at the largest that is told
unfoldable pub next_count : ℕ → ℕ
next_count steps = min (steps + 1) (2 ^ 64 - 1)

-- the step was taken: the client has what the fold says, and the step is counted
pub record IsTaken (old new : FolderState) (next : Option FoldState) : Type 0 where
  pub fold : next ≡ Some new.fold
  pub steps : new.steps ≡ next_count old.steps

-- why a step is refused: it has no fold, and its index is told; or it has one, and there was no memory for its block
abbrev pub IsRefused : FoldFault → ℕ → Option FoldState → Type 0
IsRefused (Illegal at) steps next = (at ≡ steps) × (next ≡ None)
IsRefused Mem steps next = IsSome next

-- why a step is refused that needs no memory: it has no fold
abbrev pub HasNoFold : FoldFault → ℕ → Option FoldState → Type 0
HasNoFold (Illegal at) steps next = (at ≡ steps) × (next ≡ None)
HasNoFold Mem steps next = ⊥

-- whether a step of this kind keeps no further block
abbrev pub takes_no_memory : Step → Bool
takes_no_memory step.New = false
takes_no_memory step.Undo = true
takes_no_memory step.Final = true
takes_no_memory step.NewFinal = false

-- the first of the blocks, where there is one
abbrev pub first_of : List BlockRef → Option BlockRef
first_of [] = None
first_of (r ∷ blocks) = Some r

-- whether the block is a child of the one at the reference; where there is none, each is
abbrev pub follows_ref : Option BlockRef → Slip → Bool
follows_ref None s = true
follows_ref (Some r) s = is_child r.id r.num s
