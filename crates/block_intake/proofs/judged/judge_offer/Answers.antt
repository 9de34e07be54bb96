use Rattle.std.proofs.Common.{◌++◌, ap, sym, ◌∙◌}
use Rattle.std.specs.Option.{option_copied}
use Rattle.relay_model.proofs.public.Sound.{lacks_parts, none_found}
use Rattle.block_intake.proofs.judged.judge_offer.Goals as goal

pub judge_linked-requires-clause-fresh : goal.judge_linked-requires-clause-fresh
judge_linked-requires-clause-fresh c =
    let room = c.args.room.now.waiting in
    let newest = c.args.db.now.history in
    let id = c.args.slip.id.now in
    (lacks_parts room newest id (none_found (room ++ newest) id (sym c.held_slip.ensures ∙ ap option_copied c.in-None.is))).1

pub returns-in-Some-clause-linked : goal.returns-in-Some-clause-linked
returns-in-Some-clause-linked c = c.judge_same.ensures.linked c.args.db.now.history
