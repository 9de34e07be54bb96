-- The steps from a place to a target.
use Rattle.std.specs.Prelude.{ℕ, Bool, true, false, not, nat_lt, List, [], ◌∷◌, ◌++◌, reverse, map, if◌then◌else◌, Option, None, Some, filter}
use Rattle.block_record.specs.declared.blocks.Slip.{Slip}
use Rattle.block_record.specs.declared.blocks.BlockRef.{BlockRef}
use Rattle.chain_model.specs.declared.places.Step.{Step}
use Rattle.chain_model.specs.declared.places.Step.TheVariants as step
use Rattle.chain_model.specs.declared.places.Mode.{Mode}
use Rattle.chain_model.specs.declared.places.Mode.TheVariants as mode
use Rattle.chain_model.specs.declared.places.Place.{Place}
use Rattle.chain_model.specs.declared.places.PlainStep.{PlainStep}
use Rattle.block_record.specs.Ids.{same_id}
use Rattle.chain_model.specs.Ancestry.{ancestry, has_id}
use Rattle.chain_model.specs.Finality.{on_path, greatest, final_tip, final_ancestry, ancestry_of}

-- whether the path of the block contains the final tip; where there is none, each does
abbrev pub holds_tip : List Slip → Option Slip → Slip → Bool
holds_tip newest None s = true
holds_tip newest (Some t) s = on_path newest t s

-- the head: of the blocks whose path contains the final tip, the one with the greatest number, among equals the oldest
abbrev pub head : List Slip → Option Slip
head newest = greatest (filter (holds_tip newest (final_tip newest)) newest)

-- without the blocks at the front that pass the test
abbrev pub drop_while : (Slip → Bool) → List Slip → List Slip
drop_while p [] = []
drop_while p (s ∷ rest) = if p s then drop_while p rest else s ∷ rest

-- the blocks at the front that pass the test
abbrev pub keep_while : (Slip → Bool) → List Slip → List Slip
keep_while p [] = []
keep_while p (s ∷ rest) = if p s then s ∷ keep_while p rest else []

-- cut after the last block with a number of at most the stop; the newest block is first
abbrev pub cut : Option ℕ → List Slip → List Slip
cut None path = path
cut (Some stop) path = drop_while (λ s. nat_lt stop s.num) path

-- the target of no stop: the path of the head, or the final path, the last block first
abbrev pub whole_target : List Slip → Mode → List Slip
whole_target newest mode.Live = ancestry_of newest (head newest)
whole_target newest mode.Final = final_ancestry newest

-- the target, its last block first
abbrev pub target : List Slip → Mode → Option ℕ → List Slip
target newest mode stop = cut stop (whole_target newest mode)

-- a block by number and id
abbrev pub ref_of : Slip → BlockRef
ref_of s = record { num = s.num; id = s.id }

-- the parent by number and id, as the block itself names it
abbrev pub parent_of : Slip → BlockRef
parent_of s = record { num = s.parent_num; id = s.parent_id }

-- the ancestry of the block at a reference, and none where there is no reference
abbrev pub ancestry_at : List Slip → Option BlockRef → List Slip
ancestry_at newest None = []
ancestry_at newest (Some r) = ancestry newest r.id

-- whether a block is another than that at the reference
abbrev pub is_not : Option BlockRef → Slip → Bool
is_not None s = true
is_not (Some r) s = not (same_id s.id r.id)

-- whether a block comes after the one at the reference, of which both are on one path
abbrev pub is_after : Option BlockRef → Slip → Bool
is_after None s = true
is_after (Some r) s = nat_lt r.num s.num

-- a step with its block
pub record BlockStep : Type 0 where
  pub step : Step
  pub slip : Slip

-- a step of a kind with a block
abbrev pub block_step : Step → Slip → BlockStep
block_step kind s = record { step = kind; slip = s }

-- of the end's path, which is held, and the target, which is wanted: the held blocks that the target lacks, the end first
abbrev pub undone : List Slip → List Slip → List Slip
undone held wanted = keep_while (λ s. not (has_id wanted s.id)) held

-- the blocks of the target after the end's path, the last first
abbrev pub added : List Slip → List Slip → List Slip
added held wanted = keep_while (λ s. not (has_id held s.id)) wanted

-- the blocks of the target on the end's path, the last first
abbrev pub kept : List Slip → List Slip → List Slip
kept held wanted = drop_while (λ s. not (has_id held s.id)) wanted

-- of what is kept, the final blocks after lib, upwards; of what is added, the final blocks and then the others, upwards
abbrev pub steps_between : List Slip → List Slip → Option BlockRef → List Slip → List BlockStep
steps_between finals held lib wanted =
    let is_final = λ (s : Slip). has_id finals s.id in
    map (block_step step.Undo) (undone held wanted)
    ++ map (block_step step.Final) (reverse (filter is_final (keep_while (is_after lib) (kept held wanted))))
    ++ map (block_step step.NewFinal) (reverse (filter is_final (added held wanted)))
    ++ map (block_step step.New) (reverse (filter (λ s. not (is_final s)) (added held wanted)))

-- the steps from a place to the target
abbrev pub steps_of : List Slip → Place → Mode → Option ℕ → List BlockStep
steps_of newest place mode stop =
    steps_between (final_ancestry newest) (ancestry_at newest place.end) place.lib (target newest mode stop)

-- the place after a step: an undo ends at the block's parent, and the lib follows the final steps
abbrev pub place_after : Place → BlockStep → Place
place_after place s = elim s.step [
  | step.New ↦ record { end = Some (ref_of s.slip); lib = place.lib }
  | step.Undo ↦ record { end = Some (parent_of s.slip); lib = place.lib }
  | step.Final ↦ record { end = place.end; lib = Some (ref_of s.slip) }
  | step.NewFinal ↦ record { end = Some (ref_of s.slip); lib = Some (ref_of s.slip) }
]

-- a step of a kind with a block, as it is told to a client
abbrev pub plain : Step → Slip → PlainStep
plain kind s = record { step = kind; num = s.num; id = s.id }

-- a step with its block, as it is told to a client
abbrev pub plain_of : BlockStep → PlainStep
plain_of x = plain x.step x.slip

-- whether a test answers what is wanted
abbrev pub answers : Bool → Bool → Bool
answers true b = b
answers false b = not b
