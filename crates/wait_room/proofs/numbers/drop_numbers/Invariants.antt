use Rattle.std.proofs.Common.{◌≡◌, ◌+◌, ℕ, filter, ltb, take, drop}
use Rattle.wait_room.specs.Numbers.{number_at, numbered_in}
use Rattle.wait_room.specs.Rooms.{slips_of}
use Rattle.wait_room.proofs.numbers.drop_numbers.Given as goal

abbrev pub invariant-loop-waiter : goal.invariant-loop-waiter
invariant-loop-waiter l =
    (n : ℕ) → number_at l.numbers n ≡ numbered_in (filter (λ s. ltb l.num s.num) (slips_of (take l.waiter-index l.waiters))) n + numbered_in (slips_of (drop l.waiter-index l.waiters)) n
