-- Whether a block may come next.
use Rattle.std.specs.Prelude.{◌==◌, ◌&&◌, Bool, true, nat_lt, List, [], ◌∷◌, if◌then◌else◌, Option, None, Some, Result, Ok, Err}
use Rattle.block_record.specs.declared.blocks.Slip.{Slip}
use Rattle.chain_model.specs.Ancestry.{has_id, find_id}
use Rattle.chain_model.specs.Finality.{claim, final_tip, agrees}
use Rattle.fork_db.specs.declared.claims.Linked.{Linked}
use Rattle.fork_db.specs.declared.claims.ChildFault.{ChildFault}
use Rattle.fork_db.specs.declared.claims.ChildFault.TheVariants as fault
use Rattle.fork_db.specs.declared.db.Verdict.{Verdict}
use Rattle.fork_db.specs.declared.db.Verdict.TheVariants as verdict

-- the block may come next
abbrev pub fits : Verdict
fits = verdict.Fits

-- whether a claim agrees with the final tip, where there are both
abbrev pub agrees_with : List Slip → Option Slip → Option Slip → Bool
agrees_with newest (Some tip) (Some c) = agrees newest c tip
agrees_with newest tip c = true

-- whether the claim of the next block agrees with the final tip before it
abbrev pub agrees_next : List Slip → Slip → Bool
agrees_next older s = agrees_with (s ∷ older) (final_tip older) (claim (s ∷ older) s)

-- by the claim, where the parent is the one that the block names
abbrev pub claim_verdict : List Slip → Slip → Verdict
claim_verdict older s = if agrees_next older s then verdict.Fits else verdict.Disagrees

-- by the parent, where it is held
abbrev pub parent_verdict : List Slip → Slip → Option Slip → Verdict
parent_verdict older s None = verdict.NoParent
parent_verdict older s (Some p) = if (p.num == s.parent_num) && nat_lt p.num s.num then claim_verdict older s else verdict.ParentNumber

-- the first condition that the block does not meet, if there is one: its id is new, its parent is held, with the number that the block names and below its own, and its claim agrees with the final tip. To an empty history each block may come
abbrev pub verdict_of : List Slip → Slip → Verdict
verdict_of [] s = verdict.Fits
verdict_of (t ∷ older) s = if has_id (t ∷ older) s.id then verdict.IdHeld else parent_verdict (t ∷ older) s (find_id (t ∷ older) s.parent_id)

-- the verdict on a block that is linked, or that is no child of its parent
abbrev pub verdict_by : Result Linked ChildFault → Verdict
verdict_by (Ok linked) = verdict.Fits
verdict_by (Err fault.ParentNumber) = verdict.ParentNumber
verdict_by (Err fault.Disagrees) = verdict.Disagrees
