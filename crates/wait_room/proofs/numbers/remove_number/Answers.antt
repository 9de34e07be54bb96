use Rattle.std.proofs.Common.{arith, ◌-◌, ◌≡◌, Some, None, ap, sym}
use Rattle.std.specs.Option.{is_some}
use Rattle.std.specs.BTreeMap.{get}
use Rattle.std.specs.Ordering.{nat_cmp}
use Rattle.wait_room.specs.Numbers.{count_or_zero, number_at, same_num}
use Rattle.wait_room.proofs.CountFacts.{counted_less}
use Rattle.wait_room.proofs.NumberFacts.{same_num-true}
use Rattle.wait_room.proofs.numbers.remove_number.Goals as goal

pub returns-then-count_number-eq1 : goal.returns-then-count_number-eq1
returns-then-count_number-eq1 c =
    counted_less count_or_zero same_num (get nat_cmp c.args.numbers.now) (get nat_cmp c.remove.new.self) c.args.num None (same_num-true c.args.num) c.remove.ensures.updates.0 (omega arith)

pub returns-in-Some : goal.returns-in-Some
returns-in-Some c =
    let had : c.in-Some.count.now ≡ number_at c.args.numbers.now c.args.num = ap count_or_zero c.in-Some.ensures.value in
    counted_less count_or_zero same_num (get nat_cmp c.args.numbers.now) (get nat_cmp (c.get_mut.follows.lender (c.in-Some.count.now - 1))) c.args.num (Some (c.in-Some.count.now - 1)) (same_num-true c.args.num)
    ((c.get_mut.follows.holds (c.in-Some.count.now - 1)).3 (ap is_some (sym c.in-Some.ensures.value))).0
    (omega (arith, had, c.requires))
