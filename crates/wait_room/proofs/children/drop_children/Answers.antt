use Rattle.std.proofs.Common.{arith, ap}
use Rattle.block_record.specs.Ids.{same_id, same_id_refl}
use Rattle.wait_room.specs.Children.{children_at}
use Rattle.wait_room.proofs.CountFacts.{count_dropped, count_kept, one_ahead}
use Rattle.wait_room.proofs.children.drop_children.Goals as goal
use Rattle.wait_room.proofs.children.drop_children.Goals.{then-waiter-num, else-waiter-num}

pub remove_child-requires : goal.remove_child-requires
remove_child-requires c =
    let w = c.waiter-item.result in
    omega (arith, c.loop-waiter.invariant w.slip.parent_id, one_ahead (λ s. same_id s.parent_id w.slip.parent_id) c.args.waiters.now c.loop-waiter.waiter-index w c.loop-waiter-test.true c.waiter-item.is (same_id_refl w.slip.parent_id))

pub loop-waiter-preserved : goal.loop-waiter-preserved
loop-waiter-preserved c = λ id.
    let ws = c.args.waiters.now in
    let i = c.loop-waiter.waiter-index in
    elim c.if-waiter-num.branch [
      | then-waiter-num w ↦
          let now = ap (λ m. children_at m id) w.children-is in
          let left = count_dropped (λ s. same_id s.parent_id id) c.args.num ws i c.waiter-item.result c.loop-waiter-test.true c.waiter-item.is w.if-waiter-num.true in
          omega (arith, now, left, w.remove_child.ensures id, c.loop-waiter.invariant id)
      | else-waiter-num w ↦
          let now = ap (λ m. children_at m id) w.children-is in
          let kept = count_kept (λ s. same_id s.parent_id id) c.args.num ws i c.waiter-item.result c.loop-waiter-test.true c.waiter-item.is w.if-waiter-num.false in
          omega (arith, now, kept, c.loop-waiter.invariant id)
    ]
