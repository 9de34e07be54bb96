use Rattle.std.proofs.Common.{◌∙◌, ap, sym, List}
use Rattle.block_record.specs.Slips.{same_slip}
use Rattle.relay_model.specs.declared.answers.Conflict.{Conflict as Clash}
use Rattle.shelf_load.specs.Ending.{is_noted}
use Rattle.shelf_load.proofs.EndingFacts.{any_reverse}
use Rattle.shelf_load.proofs.ending.is_noted.Goals as goal

pub returns : goal.returns
returns c =
    c.has_offered.ensures ∙ sym (any_reverse (λ x. same_slip x.offered c.args.slip.now) c.conflicts.result.now)
    ∙ ap (λ (l : List Clash). is_noted l c.args.slip.now) c.conflicts.ensures
