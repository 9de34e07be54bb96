use Rattle.std.proofs.Common.{◌<◌, ap, sym, ◌∙◌, length, subst, Option, ℕ, IfSome}
use Rattle.chain_model.specs.Ancestry.{has_id}
use Rattle.block_tree.specs.Places.{slip_of}
use Rattle.wait_room.specs.declared.waiters.Waiter.{Waiter}
use Rattle.wait_room.specs.Rooms.{waiting_of}
use Rattle.wait_room.proofs.ScanFacts.{next_linked, next_passed}
use Rattle.wait_room.proofs.scans.least_linked.Goals as goal
use Rattle.wait_room.proofs.scans.least_linked.Goals.{then-holds, else-holds}

pub loop-i-preserved : goal.loop-i-preserved
loop-i-preserved g c =
    let known = g.H.Holds.history c.args.known.now in
    let ws = c.args.waiters.now in
    let parent = ap (λ (x : Waiter). has_id known x.slip.parent_id) c.index-waiters-i.is ∙ sym c.holds.ensures in
    elim c.if-holds.branch [
      | then-holds w ↦ record {
        least = ap (slip_of (waiting_of ws)) w.best-is
            ∙ next_linked known ws c.loop-i.i c.index-waiters-i.result c.loop-i.best w.lesser_of.result c.loop-i-test.true c.index-waiters-i.is (parent ∙ w.if-holds.true) c.loop-i.invariant.least w.lesser_of.ensures.lesser;
        range = subst (λ (o : Option ℕ). IfSome o (λ b. b < length ws)) (sym w.best-is) w.lesser_of.ensures.range;
      }
      | else-holds w ↦ record {
        least = ap (slip_of (waiting_of ws)) w.best-is
            ∙ next_passed known ws c.loop-i.i c.index-waiters-i.result c.loop-i.best c.loop-i-test.true c.index-waiters-i.is (parent ∙ w.if-holds.false) c.loop-i.invariant.least;
        range = subst (λ (o : Option ℕ). IfSome o (λ b. b < length ws)) (sym w.best-is) c.loop-i.invariant.range;
      }
    ]
