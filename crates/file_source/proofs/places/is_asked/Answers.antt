use Rattle.std.proofs.Common.{ap, ◌∙◌}
use Rattle.block_record.specs.declared.blocks.Slip.{Slip}
use Rattle.block_record.specs.Slips.{slip, same_slip}
use Rattle.file_source.proofs.FetchFacts.{asked}
use Rattle.file_source.proofs.places.is_asked.Goals as goal

pub returns : goal.returns
returns c = asked (slip c.args.block.now) c.args.slip.now c.is_same.result (c.is_same.ensures ∙ ap (λ (x : Slip). same_slip x c.args.slip.now) c.of_block.ensures)
