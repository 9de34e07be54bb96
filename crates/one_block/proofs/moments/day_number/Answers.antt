use Rattle.std.proofs.Common.{rules, refl}
use Rattle.one_block.proofs.CalendarFacts.{is_day-good, number_nth, number_told}
use Rattle.one_block.proofs.moments.day_number.Goals as goal

pub overflow_cast-result : goal.overflow_cast-result
overflow_cast-result c =
    let good = is_day-good c.args.day c.requires in
    let small = (number_nth c.args.day good).1 in
    let told = number_told c.args.day c.in-Ok.date c.to_unix_epoch_day.result good c.in-Ok.ensures.value c.to_unix_epoch_day.ensures.value in
    rw told (search rules)

pub returns-clause-value : goal.returns-clause-value
returns-clause-value c =
    let good = is_day-good c.args.day c.requires in
    let told = number_told c.args.day c.in-Ok.date c.to_unix_epoch_day.result good c.in-Ok.ensures.value c.to_unix_epoch_day.ensures.value in
    rw told refl

pub returns-clause-bound : goal.returns-clause-bound
returns-clause-bound c =
    let good = is_day-good c.args.day c.requires in
    let told = number_told c.args.day c.in-Ok.date c.to_unix_epoch_day.result good c.in-Ok.ensures.value c.to_unix_epoch_day.ensures.value in
    rw told (number_nth c.args.day good).1
