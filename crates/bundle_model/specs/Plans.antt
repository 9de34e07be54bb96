-- What a merger writes next: the bundle that is due, and the blocks off the final path below its end.
use Rattle.std.specs.Prelude.{ℕ, ◌+◌, ◌==◌, Bool, not, ◌&&◌, nat_le, nat_lt, List, [], ◌∷◌, length, reverse, if◌then◌else◌, Option, None, Some, filter}
use Rattle.std.specs.List.{find, list_any, list_all}
use Rattle.block_record.specs.declared.blocks.Slip.{Slip}
use Rattle.chain_model.specs.Ancestry.{has_id}
use Rattle.chain_model.specs.Finality.{final_ancestry}
use Rattle.relay_model.specs.Worlds.{World}
use Rattle.relay_model.specs.Offers.{tip_num}
use Rattle.bundle_model.specs.Bundles.{base_of, is_within, finals_up}

-- what is to be written: how many numbers the bundle covers, its base and its blocks, upwards, perhaps none; the blocks off the final path below its end, in the order of the history; and the end
pub record Plan : Type 0 where
  pub size : ℕ
  pub base : ℕ
  pub finals : List Slip
  pub dead : List Slip
  pub below : ℕ

-- the blocks at these places, the newest first
abbrev pub at_places : List ℕ → List Slip → List Slip
at_places places [] = []
at_places places (s ∷ older) = if list_any (λ n. n == length older) places then s ∷ at_places places older else at_places places older

-- the stored blocks, the newest first
abbrev pub stored_slips : World → List Slip
stored_slips w = at_places w.stored w.history

-- whether a block is stored
abbrev pub is_stored : World → Slip → Bool
is_stored w s = has_id (stored_slips w) s.id

-- whether a block is off the final path, below a number, and not stored
abbrev pub is_dead : World → ℕ → Slip → Bool
is_dead w below s = not (has_id (final_ancestry w.history) s.id) && nat_lt s.num below && not (is_stored w s)

-- such blocks, in the order of the history
abbrev pub dead_below : World → ℕ → List Slip
dead_below w below = filter (is_dead w below) (reverse w.history)

-- the plan with the blocks off the final path alone, where there are some
abbrev pub plan_with : ℕ → ℕ → List Slip → Option Plan
plan_with size base [] = None
plan_with size base (s ∷ rest) = Some (record { size = size; base = base; finals = []; dead = s ∷ rest; below = base + size })

-- the plan at the bundle of the last stored final block, where that bundle is due
abbrev pub plan_dead : World → Option Slip → Option Plan
plan_dead w None = None
plan_dead w (Some s) =
    let base = base_of w.size s.num in
    if nat_le (base + w.size) (tip_num w.history) then plan_with w.size base (dead_below w (base + w.size)) else None

-- the last stored final block
abbrev pub last_stored : World → Option Slip
last_stored w = find (is_stored w) (final_ancestry w.history)

-- the first final block that is not stored
abbrev pub first_unstored : World → Option Slip
first_unstored w = find (λ s. not (is_stored w s)) (finals_up w.history)

-- the bundle of a base, with what is dead below its end
abbrev pub plan_at : World → ℕ → Plan
plan_at w base = record {
  size = w.size;
  base = base;
  finals = filter (is_within w.size base) (finals_up w.history);
  dead = dead_below w (base + w.size);
  below = base + w.size;
}

-- the plan by the first final block that is not stored: its bundle, where that is due and none of its blocks is stored
abbrev pub plan_first : World → Option Slip → Option Plan
plan_first w None = plan_dead w (last_stored w)
plan_first w (Some s) =
    let plan = plan_at w (base_of w.size s.num) in
    if nat_le plan.below (tip_num w.history) && list_all (λ t. not (is_stored w t)) plan.finals then Some plan
    else plan_dead w (last_stored w)

-- what is to be written next
abbrev pub next_plan : World → Option Plan
next_plan w = plan_first w (first_unstored w)
