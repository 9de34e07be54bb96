-- Which calls of an object are to fail.
use Rattle.std.specs.Prelude.{ℕ, ◌+◌, ◌-◌, ◌^◌, min, Bool, List, nat_eq, if◌then◌else◌}
use Rattle.std.specs.List.{list_any}

-- a count that rose by one, or stands still at the end of its type
abbrev pub one_more : ℕ → ℕ
one_more n = min (n + 1) (2 ^ 64 - 1)

-- the numbers of the calls that are to fail, the number of the next call, and how many have failed
pub record Plan : Type 0 where
  pub fails : List ℕ
  pub next : ℕ
  pub faults : ℕ

-- a plan of which no call has come
abbrev pub new_plan : List ℕ → Plan
new_plan fails = record { fails = fails; next = 0; faults = 0 }

-- the next call is to fail
abbrev pub fails_next : Plan → Bool
fails_next plan = list_any (λ n. nat_eq n plan.next) plan.fails

-- a plan after one more call
abbrev pub plan_after : Plan → Plan
plan_after plan = record {
  fails = plan.fails;
  next = one_more plan.next;
  faults = if fails_next plan then one_more plan.faults else plan.faults;
}

-- how many calls a fuse passes on, and how many came later
pub record Wire : Type 0 where
  pub left : ℕ
  pub faults : ℕ

-- a fuse that passes this many calls on
abbrev pub new_wire : ℕ → Wire
new_wire calls = record { left = calls; faults = 0 }

-- no call is passed on any more
abbrev pub is_burnt : Wire → Bool
is_burnt wire = nat_eq wire.left 0

-- a fuse after one more call
abbrev pub wire_after : Wire → Wire
wire_after wire = record { left = wire.left - 1; faults = if is_burnt wire then one_more wire.faults else wire.faults }
