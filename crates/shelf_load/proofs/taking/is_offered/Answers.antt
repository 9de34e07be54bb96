use Rattle.std.proofs.Common.{List, ◌∙◌, ap}
use Rattle.block_record.specs.declared.blocks.Slip.{Slip}
use Rattle.chain_model.specs.Ancestry.{find_id}
use Rattle.block_relay.specs.Chronicle.{world_told}
use Rattle.shelf_load.proofs.TakingFacts.{may_offer}
use Rattle.shelf_load.proofs.taking.is_offered.Goals as goal

pub returns-else-len-eq0 : goal.returns-else-len-eq0
returns-else-len-eq0 c =
    c.is_some.ensures
    ∙ may_offer (world_told c.args.relay.now).history c.args.slip.now c.find_slip.result (λ none. c.if-len-eq0.false (c.len.ensures.len ∙ none))
    (c.find_slip.ensures ∙ ap (λ (l : List Slip). find_id l c.args.slip.now.parent_id) c.history.ensures)
