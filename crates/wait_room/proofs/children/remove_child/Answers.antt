use Rattle.std.proofs.Common.{arith, ◌-◌, Some, None, ◌≡◌, ap, sym}
use Rattle.std.specs.Option.{is_some}
use Rattle.std.specs.HashMap.{get}
use Rattle.block_record.specs.Ids.{same_id, same_id-true}
use Rattle.wait_room.specs.Children.{count_of, children_at}
use Rattle.wait_room.specs.declared.children.Children.{Children}
use Rattle.wait_room.proofs.CountFacts.{counted_less}
use Rattle.wait_room.proofs.children.remove_child.Goals as goal

pub returns-then-count_children-eq1 : goal.returns-then-count_children-eq1
returns-then-count_children-eq1 c =
    counted_less count_of same_id (get same_id c.args.children.now) (get same_id c.remove.new.self) c.args.parent.now None (same_id-true c.args.parent.now) c.remove.ensures.updates.0 (omega arith)

pub returns-in-Some : goal.returns-in-Some
returns-in-Some c =
    let left : Children = record { count = c.in-Some.found.now.count - 1; latest = c.in-Some.found.now.latest } in
    let had : c.in-Some.found.now.count ≡ children_at c.args.children.now c.args.parent.now = ap count_of c.in-Some.ensures.value in
    counted_less count_of same_id (get same_id c.args.children.now) (get same_id (c.get_mut.follows.lender left)) c.args.parent.now (Some left) (same_id-true c.args.parent.now)
    ((c.get_mut.follows.holds left).3 (ap is_some (sym c.in-Some.ensures.value))).0
    (omega (arith, had, c.requires))
