use Rattle.std.proofs.Common.{◌≡◌, ◌+◌, ℕ, List, filter, ltb, take, drop}
use Rattle.wait_room.specs.Children.{children_at}
use Rattle.wait_room.specs.Rooms.{children_in, slips_of}
use Rattle.wait_room.proofs.children.drop_children.Given as goal

abbrev pub invariant-loop-waiter : goal.invariant-loop-waiter
invariant-loop-waiter l =
    (id : List ℕ) → children_at l.children id ≡ children_in (filter (λ s. ltb l.num s.num) (slips_of (take l.waiter-index l.waiters))) id + children_in (slips_of (drop l.waiter-index l.waiters)) id
