-- Plans of bundles, as the code has them.
use Rattle.std.specs.Prelude.{ℕ, ◌≡◌, ◌<◌, ◌≤◌, ◌+◌, ◌^◌, Bool, false, not, ◌&&◌, nat_le, nat_lt, List, [], ◌∷◌, length, map, take, if◌then◌else◌, Option, None, Some}
use Rattle.std.specs.List.{list_all, list_any, slice_get}
use Rattle.std.specs.Option.{option_map}
use Rattle.std.specs.Arc.{arc_value}
use Rattle.block_record.specs.declared.blocks.Slip.{Slip}
use Rattle.block_record.specs.Slips.{slip}
use Rattle.relay_model.specs.Offers.{tip_num}
use Rattle.relay_model.specs.Worlds.{World}
use Rattle.bundle_model.specs.Bundles.{base_of, finals_up}
use Rattle.bundle_model.specs.Plans.{Plan, first_unstored, is_stored, plan_at}
use Rattle.fork_db.specs.Forks.{Forks}
use Rattle.stored_blocks.specs.declared.plans.BundlePlan.{BundlePlan}
use Rattle.stored_blocks.specs.Stored.{is_gone}

-- the plan that contracts see
abbrev pub plan_seen : BundlePlan → Plan
plan_seen p = record { size = p.size; base = p.base; finals = map (λ b. slip (arc_value b)) p.finals.items; dead = map (λ b. slip (arc_value b)) p.dead.items; below = p.below }

-- the blocks of a climbing path below a number, unless one of them is stored
abbrev pub open_until : (Slip → Bool) → ℕ → List Slip → Option (List Slip)
open_until stored end [] = Some []
open_until stored end (s ∷ rest) = if nat_lt s.num end then (if stored s then None else option_map (λ l. s ∷ l) (open_until stored end rest)) else Some []

-- the plan at the bundle of the first final block that is not stored, where that bundle is due and none of its blocks is stored
abbrev pub whole_plan : World → Option Slip → Option Plan
whole_plan w None = None
whole_plan w (Some s) =
    let plan = plan_at w (base_of w.size s.num) in
    if nat_le plan.below (tip_num w.history) && list_all (λ t. not (is_stored w t)) plan.finals then Some plan else None

-- the base of a bundle that is due, of the first final block that is not stored; none of the blocks before that one, of which there are so many, has a number from the base on
pub record IsFresh (w : World) (front : ℕ) (base : ℕ) : Type 0 where
  pub first : Slip
  pub first_is : first_unstored w ≡ Some first
  pub base_is : base ≡ base_of w.size first.num
  pub due : base + w.size ≤ tip_num w.history
  pub fits : base + w.size < 2 ^ 64
  pub fresh : list_any (λ s. nat_le base s.num) (take front (finals_up w.history)) ≡ false

-- the payload at a place is held
pub record IsHeldAt (f : Forks) (at : ℕ) : Type 0 where
  pub low : at < length f.history
  pub held : is_gone (slice_get f.held at) ≡ false
