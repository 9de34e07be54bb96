use Rattle.std.proofs.Common.{◌+◌, Some, ap}
use Rattle.std.specs.BTreeMap.{get}
use Rattle.std.specs.Ordering.{nat_cmp}
use Rattle.wait_room.specs.Numbers.{count_or_zero, same_num}
use Rattle.wait_room.proofs.CountFacts.{counted_more}
use Rattle.wait_room.proofs.NumberFacts.{same_num-true}
use Rattle.wait_room.proofs.numbers.add_number.Goals as goal

pub returns-clause-ok : goal.returns-clause-ok
returns-clause-ok c =
    counted_more count_or_zero same_num (get nat_cmp c.args.numbers.now) (get nat_cmp c.insert.new.self) c.args.num (Some (c.count_number-count.result + 1)) (same_num-true c.args.num)
    c.in_ok-insert.ensures.updates.0
    (ap (λ n. n + 1) c.count_number-count.ensures)
