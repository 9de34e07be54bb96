-- Small histories, worked out on the definitions alone: a definition that means something else on one of them does not check here.
use Rattle.std.proofs.Common.{arith, ◌≡◌, ℕ, true, false, List, [], ◌∷◌, Some, None, refl, map}
use Rattle.std.proofs.lemmas.Bool.{both_ways}
use Rattle.block_record.specs.declared.blocks.Slip.{Slip}
use Rattle.block_record.specs.Ids.{same_id}
use Rattle.chain_model.specs.declared.places.Place.{Place}
use Rattle.chain_model.specs.declared.places.Step.{Step}
use Rattle.chain_model.specs.declared.places.Mode.TheVariants as mode
use Rattle.chain_model.specs.declared.places.Step.TheVariants as step
use Rattle.chain_model.specs.Ancestry.{IsHistory, path}
use Rattle.chain_model.specs.Finality.{agrees, claim, final_tip, final_path}
use Rattle.chain_model.specs.Steps.{block_step, head, target, ref_of, steps_of}
use Rattle.chain_model.specs.Places.{PlacedStep, PlaceFits, no_place, opening, steps_to, place_to}
use Rattle.chain_model.specs.Fold.{FoldState, fold_steps}

-- a block by its number and id, its parent's number and id, and its lib number
abbrev pub block : ℕ → List ℕ → ℕ → List ℕ → ℕ → Slip
block num id parent_num parent_id lib = record {
  num = num;
  id = id;
  parent_num = parent_num;
  parent_id = parent_id;
  lib_num = lib;
  time = 0;
  length = 1;
  digest = [];
}

-- a place by the blocks of its end and its lib
abbrev pub at : Slip → Slip → Place
at end lib = record { end = Some (ref_of end); lib = Some (ref_of lib) }

-- a step with its block and the place after it
abbrev pub told : Step → Slip → Place → PlacedStep
told kind s place = record { step = block_step kind s; place = place }

-- a client that has received nothing
abbrev pub begins : FoldState
begins = record { base = None; blocks = []; finals = 0 }

-- a client that has these blocks, the last first, and so many final ones
abbrev pub has : List Slip → ℕ → FoldState
has blocks finals = record { base = None; blocks = map ref_of blocks; finals = finals }

-- The blocks. An id is its text's bytes, so a1 is 97 49.

-- the root of each history here
abbrev pub a1 : Slip
a1 = block 1 (97 ∷ 49 ∷ []) 0 (97 ∷ 48 ∷ []) 0

-- its first child
abbrev pub b2 : Slip
b2 = block 2 (98 ∷ 50 ∷ []) 1 (97 ∷ 49 ∷ []) 1

-- a block that holds its parent for final
abbrev pub c3 : Slip
c3 = block 3 (99 ∷ 51 ∷ []) 2 (98 ∷ 50 ∷ []) 2

-- another child of the root
abbrev pub c2 : Slip
c2 = block 2 (99 ∷ 50 ∷ []) 1 (97 ∷ 49 ∷ []) 1

-- and a child of that one
abbrev pub d3 : Slip
d3 = block 3 (100 ∷ 51 ∷ []) 2 (99 ∷ 50 ∷ []) 1

-- a branch
abbrev pub b3 : Slip
b3 = block 3 (98 ∷ 51 ∷ []) 2 (98 ∷ 50 ∷ []) 1

-- that is longer
abbrev pub b4 : Slip
b4 = block 4 (98 ∷ 52 ∷ []) 3 (98 ∷ 51 ∷ []) 1

-- a child of the root that holds itself for final
abbrev pub final_c2 : Slip
final_c2 = block 2 (99 ∷ 50 ∷ []) 1 (97 ∷ 49 ∷ []) 2

-- a block whose claim is on another branch
abbrev pub b5 : Slip
b5 = block 5 (98 ∷ 53 ∷ []) 4 (98 ∷ 52 ∷ []) 3

-- a block after two numbers that no block has
abbrev pub e5 : Slip
e5 = block 5 (101 ∷ 53 ∷ []) 2 (98 ∷ 50 ∷ []) 4

-- a block with the id that the root names as its parent
abbrev pub z3 : Slip
z3 = block 3 (97 ∷ 48 ∷ []) 2 (98 ∷ 50 ∷ []) 1

-- A chain whose second block becomes final with the third.

abbrev pub chain : List Slip
chain = c3 ∷ b2 ∷ a1 ∷ []

-- each block follows
pub chain_is : IsHistory chain
unfolding same_id
chain_is = (record { fresh = λ h. both_ways _ refl h; parent = refl; above = omega arith }, (record { fresh = λ h. both_ways _ refl h; parent = refl; above = omega arith }, tt))

-- an id stands once
chain_twice : IsHistory (b2 ∷ b2 ∷ a1 ∷ []) → ⊥
unfolding same_id
chain_twice = λ h. h.0.fresh refl

-- a parent stands before
chain_orphan : IsHistory (c3 ∷ a1 ∷ []) → ⊥
unfolding same_id
chain_orphan = λ h. h.0.parent

-- a path begins with the root
chain_path : path (a1 ∷ b2 ∷ c3 ∷ []) b2.id ≡ a1 ∷ b2 ∷ []
unfolding same_id
chain_path = refl

-- the root claims itself, though its lib number is lower
claim_root : claim chain a1 ≡ Some a1
unfolding same_id
claim_root = refl

-- a claim below the block
claim_second : claim chain b2 ≡ Some a1
unfolding same_id
claim_second = refl

-- and the one that makes the parent final
claim_third : claim chain c3 ≡ Some b2
unfolding same_id
claim_third = refl

-- the greatest claim
chain_tip : final_tip chain ≡ Some b2
unfolding same_id
chain_tip = refl

-- the final path ends there
chain_final : final_path (a1 ∷ b2 ∷ c3 ∷ []) ≡ a1 ∷ b2 ∷ []
unfolding same_id
chain_final = refl

-- the head is the last block
chain_head : head chain ≡ Some c3
unfolding same_id
chain_head = refl

-- the target in live mode
chain_target : target chain mode.Live None ≡ c3 ∷ b2 ∷ a1 ∷ []
unfolding same_id
chain_target = refl

-- and in final mode
chain_target_final : target chain mode.Final None ≡ b2 ∷ a1 ∷ []
unfolding same_id
chain_target_final = refl

-- a stop keeps the block with its number
chain_target_stop : target chain mode.Live (Some 2) ≡ b2 ∷ a1 ∷ []
unfolding same_id
chain_target_stop = refl

-- the root is final at once
chain_1 : steps_to (a1 ∷ []) no_place mode.Live None ≡ told step.NewFinal a1 (at a1 a1) ∷ []
unfolding same_id
chain_1 = refl

-- a block that is not final yet
chain_2 : steps_to (b2 ∷ a1 ∷ []) (at a1 a1) mode.Live None ≡ told step.New b2 (at b2 a1) ∷ []
unfolding same_id
chain_2 = refl

-- the final step of the parent comes before the new block
chain_3 : steps_to chain (at b2 a1) mode.Live None ≡ told step.Final b2 (at b2 b2) ∷ told step.New c3 (at c3 b2) ∷ []
unfolding same_id
chain_3 = refl

-- a late client gets what is final by then as newfinal
chain_late : steps_to chain no_place mode.Live None ≡ told step.NewFinal a1 (at a1 a1) ∷ told step.NewFinal b2 (at b2 b2) ∷ told step.New c3 (at c3 b2) ∷ []
unfolding same_id
chain_late = refl

-- up to a stop
chain_stop : steps_to chain no_place mode.Live (Some 2) ≡ told step.NewFinal a1 (at a1 a1) ∷ told step.NewFinal b2 (at b2 b2) ∷ []
unfolding same_id
chain_stop = refl

-- final blocks alone
chain_only_final : steps_to chain (at a1 a1) mode.Final None ≡ told step.NewFinal b2 (at b2 b2) ∷ []
unfolding same_id
chain_only_final = refl

-- an opening is the last final block below the start
chain_opening : opening chain 2 ≡ at a1 a1
unfolding same_id
chain_opening = refl

-- at most the final tip
chain_opening_late : opening chain 9 ≡ at b2 b2
unfolding same_id
chain_opening_late = refl

-- and nothing where no final block is below
chain_opening_first : opening chain 1 ≡ no_place
unfolding same_id
chain_opening_first = refl

-- what a client makes of all the steps
chain_fold : fold_steps begins (block_step step.NewFinal a1 ∷ block_step step.New b2 ∷ block_step step.Final b2 ∷ block_step step.New c3 ∷ []) ≡ Some (has (c3 ∷ b2 ∷ a1 ∷ []) 2)
unfolding same_id
chain_fold = refl

-- a final step of another block than the next has no fold
chain_fold_other : fold_steps begins (block_step step.NewFinal a1 ∷ block_step step.New b2 ∷ block_step step.New c3 ∷ block_step step.Final c3 ∷ []) ≡ None
unfolding same_id
chain_fold_other = refl

-- nor has a newfinal where a block below is not counted as final
chain_fold_early : fold_steps begins (block_step step.NewFinal a1 ∷ block_step step.New b2 ∷ block_step step.NewFinal c3 ∷ []) ≡ None
unfolding same_id
chain_fold_early = refl

-- a place whose lib is not final does not fit
chain_misfit : PlaceFits chain (Some (ref_of c3)) (Some (ref_of c3)) → ⊥
unfolding same_id
chain_misfit = λ h. both_ways _ refl h.final

-- nor does one with an end and no lib
chain_half : PlaceFits chain (Some (ref_of c3)) None → ⊥
unfolding same_id
chain_half = λ h. h

-- an end with a final block on its path fits
chain_fits : PlaceFits chain (Some (ref_of c3)) (Some (ref_of a1))
unfolding same_id
chain_fits = record { end_held = refl; lib_held = refl; final = refl; on_path = refl }

-- no number is two and three
two_or_three : (n : ℕ) → n ≡ 2 → n ≡ 3 → ⊥
two_or_three n e f = omega arith

-- A tie, and then the other branch grows longer.

abbrev pub tie : List Slip
tie = d3 ∷ c2 ∷ b2 ∷ a1 ∷ []

-- each block follows
pub tie_is : IsHistory tie
unfolding same_id
tie_is = (record { fresh = λ h. both_ways _ refl h; parent = refl; above = omega arith }, (record { fresh = λ h. both_ways _ refl h; parent = refl; above = omega arith }, (record { fresh = λ h. both_ways _ refl h; parent = refl; above = omega arith }, tt)))

-- each claims the root
tie_claim : claim tie d3 ≡ Some a1
unfolding same_id
tie_claim = refl

-- so only the root is final
tie_tip : final_tip tie ≡ Some a1
unfolding same_id
tie_tip = refl

-- of two blocks with one number the older is the head
tie_head_first : head (c2 ∷ b2 ∷ a1 ∷ []) ≡ Some b2
unfolding same_id
tie_head_first = refl

-- the longer branch has the head
tie_head : head tie ≡ Some d3
unfolding same_id
tie_head = refl

-- and is the target
tie_target : target tie mode.Live None ≡ d3 ∷ c2 ∷ a1 ∷ []
unfolding same_id
tie_target = refl

-- the root
tie_1 : steps_to (a1 ∷ []) no_place mode.Live None ≡ told step.NewFinal a1 (at a1 a1) ∷ []
unfolding same_id
tie_1 = refl

-- a first branch
tie_2 : steps_to (b2 ∷ a1 ∷ []) (at a1 a1) mode.Live None ≡ told step.New b2 (at b2 a1) ∷ []
unfolding same_id
tie_2 = refl

-- a tie gives no step
tie_3 : steps_to (c2 ∷ b2 ∷ a1 ∷ []) (at b2 a1) mode.Live None ≡ []
unfolding same_id
tie_3 = refl

-- the longer branch: back to the root, and up
tie_4 : steps_to tie (at b2 a1) mode.Live None ≡ told step.Undo b2 (at a1 a1) ∷ told step.New c2 (at c2 a1) ∷ told step.New d3 (at d3 a1) ∷ []
unfolding same_id
tie_4 = refl

-- an opening at the root
tie_opening : opening tie 9 ≡ at a1 a1
unfolding same_id
tie_opening = refl

-- what a client makes of all the steps
tie_fold : fold_steps begins (block_step step.NewFinal a1 ∷ block_step step.New b2 ∷ block_step step.Undo b2 ∷ block_step step.New c2 ∷ block_step step.New d3 ∷ []) ≡ Some (has (d3 ∷ c2 ∷ a1 ∷ []) 1)
unfolding same_id
tie_fold = refl

-- a new block that is no child of the last has no fold
tie_fold_new : fold_steps begins (block_step step.NewFinal a1 ∷ block_step step.New b2 ∷ block_step step.New c2 ∷ []) ≡ None
unfolding same_id
tie_fold_new = refl

-- nor has the undo of a final block
tie_fold_final : fold_steps begins (block_step step.NewFinal a1 ∷ block_step step.Undo a1 ∷ []) ≡ None
unfolding same_id
tie_fold_final = refl

-- a place whose number is another does not fit
tie_misfit : PlaceFits tie (Some (record { num = 3; id = c2.id })) (Some (ref_of a1)) → ⊥
unfolding same_id
tie_misfit = λ h. two_or_three 2 refl h.end_held

-- A fork: a final block beside the head's path rules three blocks out.

abbrev pub fork : List Slip
fork = final_c2 ∷ b4 ∷ b3 ∷ b2 ∷ a1 ∷ []

-- each block follows
pub fork_is : IsHistory fork
unfolding same_id
fork_is = (record { fresh = λ h. both_ways _ refl h; parent = refl; above = omega arith }, (record { fresh = λ h. both_ways _ refl h; parent = refl; above = omega arith }, (record { fresh = λ h. both_ways _ refl h; parent = refl; above = omega arith }, (record { fresh = λ h. both_ways _ refl h; parent = refl; above = omega arith }, tt))))

-- the late block claims itself
fork_claim : claim fork final_c2 ≡ Some final_c2
unfolding same_id
fork_claim = refl

-- and the others the root
fork_claim_before : claim fork b4 ≡ Some a1
unfolding same_id
fork_claim_before = refl

-- the two claims agree: the root is on the path
fork_agree : agrees fork a1 final_c2 ≡ true
unfolding same_id
fork_agree = refl

-- a further block of the ruled-out branch claims its grandparent
fork_clash : claim (b5 ∷ fork) b5 ≡ Some b3
unfolding same_id
fork_clash = refl

-- and that claim does not agree
fork_disagree : agrees (b5 ∷ fork) b3 final_c2 ≡ false
unfolding same_id
fork_disagree = refl

-- the greatest claim
fork_tip : final_tip fork ≡ Some final_c2
unfolding same_id
fork_tip = refl

-- the final path
fork_final : final_path (a1 ∷ b2 ∷ b3 ∷ b4 ∷ final_c2 ∷ []) ≡ a1 ∷ final_c2 ∷ []
unfolding same_id
fork_final = refl

-- the head before
fork_head_before : head (b4 ∷ b3 ∷ b2 ∷ a1 ∷ []) ≡ Some b4
unfolding same_id
fork_head_before = refl

-- its number falls: a higher block off the final path is no head
fork_head : head fork ≡ Some final_c2
unfolding same_id
fork_head = refl

-- and the target is the short branch
fork_target : target fork mode.Live None ≡ final_c2 ∷ a1 ∷ []
unfolding same_id
fork_target = refl

-- the root
fork_1 : steps_to (a1 ∷ []) no_place mode.Live None ≡ told step.NewFinal a1 (at a1 a1) ∷ []
unfolding same_id
fork_1 = refl

-- the branch that is ruled out later
fork_2 : steps_to (b2 ∷ a1 ∷ []) (at a1 a1) mode.Live None ≡ told step.New b2 (at b2 a1) ∷ []
unfolding same_id
fork_2 = refl

-- and on
fork_3 : steps_to (b3 ∷ b2 ∷ a1 ∷ []) (at b2 a1) mode.Live None ≡ told step.New b3 (at b3 a1) ∷ []
unfolding same_id
fork_3 = refl

-- and on
fork_4 : steps_to (b4 ∷ b3 ∷ b2 ∷ a1 ∷ []) (at b3 a1) mode.Live None ≡ told step.New b4 (at b4 a1) ∷ []
unfolding same_id
fork_4 = refl

-- three undo steps, the last block first, and a block that is new and final
fork_5 : steps_to fork (at b4 a1) mode.Live None ≡ told step.Undo b4 (at b3 a1) ∷ told step.Undo b3 (at b2 a1) ∷ told step.Undo b2 (at a1 a1) ∷ told step.NewFinal final_c2 (at final_c2 final_c2) ∷ []
unfolding same_id
fork_5 = refl

-- all the steps together end where the last does
fork_plain : place_to fork (at b4 a1) mode.Live None ≡ at final_c2 final_c2
unfolding same_id
fork_plain = refl

-- and from there no steps lead on
fork_still : steps_of fork (at final_c2 final_c2) mode.Live None ≡ []
unfolding same_id
fork_still = refl

-- an opening is on the final path
fork_opening : opening fork 4 ≡ at final_c2 final_c2
unfolding same_id
fork_opening = refl

-- what a client makes of all the steps
fork_fold : fold_steps begins (block_step step.NewFinal a1 ∷ block_step step.New b2 ∷ block_step step.New b3 ∷ block_step step.New b4 ∷ block_step step.Undo b4 ∷ block_step step.Undo b3 ∷ block_step step.Undo b2 ∷ block_step step.NewFinal final_c2 ∷ []) ≡ Some (has (final_c2 ∷ a1 ∷ []) 2)
unfolding same_id
fork_fold = refl

-- the undo of a block that is not the last has no fold
fork_fold_lowest : fold_steps begins (block_step step.NewFinal a1 ∷ block_step step.New b2 ∷ block_step step.New b3 ∷ block_step step.New b4 ∷ block_step step.Undo b2 ∷ []) ≡ None
unfolding same_id
fork_fold_lowest = refl

-- a place whose lib is not on the path of its end does not fit
fork_misfit : PlaceFits fork (Some (ref_of b4)) (Some (ref_of final_c2)) → ⊥
unfolding same_id
fork_misfit = λ h. both_ways _ refl h.on_path

-- Skipped numbers.

abbrev pub skip : List Slip
skip = e5 ∷ b2 ∷ a1 ∷ []

-- each block follows
pub skip_is : IsHistory skip
unfolding same_id
skip_is = (record { fresh = λ h. both_ways _ refl h; parent = refl; above = omega arith }, (record { fresh = λ h. both_ways _ refl h; parent = refl; above = omega arith }, tt))

-- where no block has the lib number, the last one below it is claimed
skip_claim : claim skip e5 ≡ Some b2
unfolding same_id
skip_claim = refl

-- and is final
skip_tip : final_tip skip ≡ Some b2
unfolding same_id
skip_tip = refl

-- the head
skip_head : head skip ≡ Some e5
unfolding same_id
skip_head = refl

-- the target
skip_target : target skip mode.Live None ≡ e5 ∷ b2 ∷ a1 ∷ []
unfolding same_id
skip_target = refl

-- a stop at a number that no block has
skip_target_stop : target skip mode.Live (Some 4) ≡ b2 ∷ a1 ∷ []
unfolding same_id
skip_target_stop = refl

-- the root
skip_1 : steps_to (a1 ∷ []) no_place mode.Live None ≡ told step.NewFinal a1 (at a1 a1) ∷ []
unfolding same_id
skip_1 = refl

-- its child
skip_2 : steps_to (b2 ∷ a1 ∷ []) (at a1 a1) mode.Live None ≡ told step.New b2 (at b2 a1) ∷ []
unfolding same_id
skip_2 = refl

-- a gap in the numbers is no gap in the chain
skip_3 : steps_to skip (at b2 a1) mode.Live None ≡ told step.Final b2 (at b2 b2) ∷ told step.New e5 (at e5 b2) ∷ []
unfolding same_id
skip_3 = refl

-- an opening at a number that no block has
skip_opening : opening skip 4 ≡ at b2 b2
unfolding same_id
skip_opening = refl

-- what a client makes of all the steps
skip_fold : fold_steps begins (block_step step.NewFinal a1 ∷ block_step step.New b2 ∷ block_step step.Final b2 ∷ block_step step.New e5 ∷ []) ≡ Some (has (e5 ∷ b2 ∷ a1 ∷ []) 2)
unfolding same_id
skip_fold = refl

-- a place with a block that is not held does not fit
skip_misfit : PlaceFits skip (Some (ref_of c2)) (Some (ref_of a1)) → ⊥
unfolding same_id
skip_misfit = λ h. h.end_held

-- a block that holds itself for final
abbrev pub c3_final : Slip
c3_final = block 3 (99 ∷ 51 ∷ []) 2 (98 ∷ 50 ∷ []) 3

-- from a place that does not fit, its lib above its end, no block up to the end is told as final again
lib_above : steps_of (c3_final ∷ b2 ∷ a1 ∷ []) (at b2 c3_final) mode.Live None ≡ block_step step.NewFinal c3_final ∷ []
unfolding same_id
lib_above = refl

-- a child of c3
abbrev pub d4 : Slip
d4 = block 4 (100 ∷ 52 ∷ []) 3 (99 ∷ 51 ∷ []) 2

-- a batch that takes a block back and marks one as final: the undo comes first
undo_then_final : steps_to (d4 ∷ c3 ∷ b3 ∷ b2 ∷ a1 ∷ []) (at b3 a1) mode.Live None ≡ told step.Undo b3 (at b2 a1) ∷ told step.Final b2 (at b2 b2) ∷ told step.New c3 (at c3 b2) ∷ told step.New d4 (at d4 b2) ∷ []
unfolding same_id
undo_then_final = refl

-- the first block after a base is its child
base_other : fold_steps (record { base = Some (ref_of a1); blocks = []; finals = 0 }) (block_step step.New c3 ∷ []) ≡ None
unfolding same_id
base_other = refl

-- by number too
base_number : fold_steps (record { base = Some (record { num = 7; id = a1.id }); blocks = []; finals = 0 }) (block_step step.New b2 ∷ []) ≡ None
unfolding same_id
base_number = refl

-- a block with the id of the last one and another number is not taken back
undo_number : fold_steps (record { base = None; blocks = record { num = 9; id = b2.id } ∷ []; finals = 0 }) (block_step step.Undo b2 ∷ []) ≡ None
unfolding same_id
undo_number = refl

-- the final path is cut too
final_target_stop : target chain mode.Final (Some 1) ≡ a1 ∷ []
unfolding same_id
final_target_stop = refl

-- a parent with another number is none
parent_number : IsHistory (block 9 (120 ∷ []) 3 (98 ∷ 50 ∷ []) 1 ∷ b2 ∷ a1 ∷ []) → ⊥
unfolding same_id
parent_number = λ h. two_or_three 2 refl h.0.parent

-- A later block may have the id that the root names as its parent.

-- it is not the root's parent, and paths end at the root
root_named : steps_to (z3 ∷ b2 ∷ a1 ∷ []) no_place mode.Live None ≡ told step.NewFinal a1 (at a1 a1) ∷ told step.New b2 (at b2 a1) ∷ told step.New z3 (at z3 a1) ∷ []
unfolding same_id
root_named = refl

-- the place after the undo of a root is the pair that it names, held or not
undone_root : place_to (a1 ∷ []) (at a1 a1) mode.Live (Some 0) ≡ record { end = Some (record { num = 0; id = 97 ∷ 48 ∷ [] }); lib = Some (ref_of a1) }
unfolding same_id
undone_root = refl
