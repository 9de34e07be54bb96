-- What counts as stored once a plan is shed, and which files of one block are needed no more.
use Rattle.std.specs.Prelude.{ℕ, ◌==◌, Bool, false, not, ◌&&◌, ◌||◌, nat_le, List, [], ◌∷◌, ◌++◌, length, if◌then◌else◌, Option, None, Some}
use Rattle.std.specs.List.{list_any}
use Rattle.block_record.specs.declared.blocks.Slip.{Slip}
use Rattle.block_record.specs.Slips.{same_slip}
use Rattle.chain_model.specs.Ancestry.{has_id}
use Rattle.chain_model.specs.Finality.{final_tip}
use Rattle.relay_model.specs.Worlds.{World}
use Rattle.bundle_model.specs.Plans.{Plan, stored_slips}

-- the place of a block in a history, where it is there: how many blocks are older
abbrev pub place_in : List Slip → Slip → Option ℕ
place_in [] s = None
place_in (t ∷ older) s = if same_slip t s then Some (length older) else place_in older s

-- the stored places with one more, where there is one and it is not among them
abbrev pub stored_at : List ℕ → Option ℕ → List ℕ
stored_at stored None = stored
stored_at stored (Some at) = if list_any (λ n. n == at) stored then stored else at ∷ stored

-- the stored places after blocks, one after another, came to be stored: of each that is in the history and was not stored
abbrev pub stored_after : List Slip → List ℕ → List Slip → List ℕ
stored_after newest stored [] = stored
stored_after newest stored (s ∷ rest) = stored_after newest (stored_at stored (place_in newest s)) rest

-- the blocks of a plan count as stored, those of its bundle first
abbrev pub shed : World → Plan → World
shed w plan = record w { stored = stored_after w.history w.stored (plan.finals ++ plan.dead) }

-- whether a number is at most the final tip's, where there is one
abbrev pub is_reached : Option Slip → ℕ → Bool
is_reached None num = false
is_reached (Some tip) num = nat_le num tip.num

-- whether the file of a block by number and id may be removed: the block is stored, or it is held nowhere and its number is at most the final tip's
abbrev pub may_sweep : World → ℕ → List ℕ → Bool
may_sweep w num id = has_id (stored_slips w) id || (not (has_id (w.waiting ++ w.history) id) && is_reached (final_tip w.history) num)
