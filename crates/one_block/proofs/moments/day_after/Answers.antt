use Rattle.std.proofs.Common.{arith, rules, ◌∙◌, refl}
use Rattle.std.proofs.lemmas.Int.{to_z_pos}
use Rattle.std.specs.Int.{w64}
use Rattle.one_block.specs.Calendar.{day_after}
use Rattle.one_block.proofs.CalendarFacts.{nth, date_is, year_back}
use Rattle.one_block.proofs.moments.day_after.Goals as goal

pub overflow_cast-result : goal.overflow_cast-result
overflow_cast-result c =
    let small = c.requires in
    let same = date_is c.args.days c.in-Ok.date small (c.in-Ok.ensures.value ∙ to_z_pos w64 c.args.days (omega (arith, small))) in
    let high = (nth c.args.days small).good.year_high in
    let back = year_back c.in-Ok.date.year (day_after c.args.days).year same.year high in
    rw back (search rules)

pub returns : goal.returns
returns c =
    let small = c.requires in
    let same = date_is c.args.days c.in-Ok.date small (c.in-Ok.ensures.value ∙ to_z_pos w64 c.args.days (omega (arith, small))) in
    let high = (nth c.args.days small).good.year_high in
    let back = year_back c.in-Ok.date.year (day_after c.args.days).year same.year high in
    let month = same.month in
    let day = same.day in
    rw (back, month, day) refl
