use Rattle.std.proofs.Common.{ap, sym, ◌∙◌}
use Rattle.std.specs.Option.{option_copied, option_or}
use Rattle.chain_model.specs.Ancestry.{find_id}
use Rattle.block_intake.proofs.JudgedFacts.{found_either}
use Rattle.block_intake.proofs.judged.held_slip.Goals as goal

pub returns-in-Some : goal.returns-in-Some
returns-in-Some c =
    ap (λ o. option_or o (find_id c.args.db.now.history c.args.id.now)) (ap option_copied (sym c.in-Some.is) ∙ c.find.ensures)
    ∙ sym (found_either c.args.room.now.waiting c.args.db.now.history c.args.id.now)

pub returns-in-None : goal.returns-in-None
returns-in-None c =
    c.find_slip.ensures
    ∙ ap (λ o. option_or o (find_id c.args.db.now.history c.args.id.now)) (ap option_copied (sym c.in-None.is) ∙ c.find.ensures)
    ∙ sym (found_either c.args.room.now.waiting c.args.db.now.history c.args.id.now)
