use Rattle.std.proofs.Common.{arith, ap}
use Rattle.wait_room.specs.Numbers.{number_at, same_num}
use Rattle.wait_room.proofs.NumberFacts.{same_num-self}
use Rattle.wait_room.proofs.CountFacts.{count_dropped, count_kept, one_ahead}
use Rattle.wait_room.proofs.numbers.drop_numbers.Goals as goal
use Rattle.wait_room.proofs.numbers.drop_numbers.Goals.{then-waiter-num, else-waiter-num}

pub remove_number-requires : goal.remove_number-requires
remove_number-requires c =
    let w = c.waiter-item.result in
    omega (arith, c.loop-waiter.invariant w.slip.num, one_ahead (λ s. same_num s.num w.slip.num) c.args.waiters.now c.loop-waiter.waiter-index w c.loop-waiter-test.true c.waiter-item.is (same_num-self w.slip.num))

pub loop-waiter-preserved : goal.loop-waiter-preserved
loop-waiter-preserved c = λ n.
    let ws = c.args.waiters.now in
    let i = c.loop-waiter.waiter-index in
    elim c.if-waiter-num.branch [
      | then-waiter-num w ↦
          let now = ap (λ m. number_at m n) w.numbers-is in
          let left = count_dropped (λ s. same_num s.num n) c.args.num ws i c.waiter-item.result c.loop-waiter-test.true c.waiter-item.is w.if-waiter-num.true in
          omega (arith, now, left, w.remove_number.ensures n, c.loop-waiter.invariant n)
      | else-waiter-num w ↦
          let now = ap (λ m. number_at m n) w.numbers-is in
          let kept = count_kept (λ s. same_num s.num n) c.args.num ws i c.waiter-item.result c.loop-waiter-test.true c.waiter-item.is w.if-waiter-num.false in
          omega (arith, now, kept, c.loop-waiter.invariant n)
    ]
