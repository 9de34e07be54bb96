-- Which payloads a relay holds.
use Rattle.std.specs.Prelude.{ℕ, ◌≡◌, ◌==◌, ◌+◌, ◌≤◌, Bool, true, false, List, ◌++◌, length, if◌then◌else◌, Option, None, Some, IsSome}
use Rattle.std.specs.List.{list_any, slice_get}
use Rattle.block_record.specs.declared.blocks.Block.{Block}
use Rattle.block_record.specs.declared.blocks.Slip.{Slip}
use Rattle.block_record.specs.Slips.{same_slip}
use Rattle.chain_model.specs.Ancestry.{find_id, has_id}
use Rattle.relay_model.specs.Worlds.{World}
use Rattle.bundle_model.specs.Plans.{is_stored}
use Rattle.block_intake.specs.Intakes.{TakenIn}
use Rattle.fork_db.specs.declared.chunks.StepItem.{StepItem}
use Rattle.stored_blocks.specs.Stored.{Index, is_gone}

-- the item has its block, where that is in the history and not stored
abbrev pub HasBlock : World → StepItem → Type 0
HasBlock w x = has_id w.history x.slip.id ≡ true → is_stored w x.slip ≡ false → IsSome x.held

-- the stored places are those whose payloads were given up
abbrev pub AreGone : List ℕ → List (Option Block) → Type 0
AreGone stored held = (at : ℕ) → list_any (λ n. n == at) stored ≡ is_gone (slice_get held at)

-- there is room for a mark for each block that is not stored, and for the one that closes a relay that is open
abbrev pub HasMarksLeft : Bool → TakenIn → Index → ℕ → ℕ → Type 0
HasMarksLeft shut taken index len capacity = len + length taken.forks.history + (if shut then 0 else 1) ≤ capacity + index.stored

-- whether the block that is known by an id is this very one
abbrev pub is_very : Option Slip → Slip → Bool
is_very None s = false
is_very (Some held) s = same_slip held s

-- whether a block is held: it is in the history, or waits
abbrev pub holds_block : World → Slip → Bool
holds_block w s = is_very (find_id (w.waiting ++ w.history) s.id) s
