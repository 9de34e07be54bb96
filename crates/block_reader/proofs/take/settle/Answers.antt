use Rattle.one_block.specs.OneFiles.{one_file_text}
use Rattle.block_relay.specs.Chronicle.{world_told}
use Rattle.block_reader.specs.Changes.{shelved}
use Rattle.block_reader.proofs.ChangeFacts.{settled_stopped}
use Rattle.block_reader.proofs.take.settle.Goals as goal

pub returns-in-Ok-clause-stopped : goal.returns-in-Ok-clause-stopped
returns-in-Ok-clause-stopped g c =
    settled_stopped (world_told c.args.relay.now) c.args.put c.args.names.now.one c.args.names.now.refused (one_file_text c.args.kind.now c.args.block.now) c.args.answer.now _
    (shelved (g.S.Shelf.files c.args.shelf.now) c.args.own.now) (shelved (g.S.Shelf.files c.place_file.new.shelf) c.place_file.new.own) (shelved (g.S.Shelf.files c.sweep_oldest.new.shelf) c.sweep_oldest.new.own) c.sweep_oldest.result
    c.in-Ok.is c.in_ok-place_file.ensures.done c.sweep_oldest.ensures.stopped
