use Rattle.std.proofs.Common.{◌∙◌}
use Rattle.one_block.specs.OneFiles.{one_file_text}
use Rattle.block_reader.specs.Changes.{shelved}
use Rattle.block_reader.proofs.ChangeFacts.{on_err, text_stopped, write_stopped, drop_stopped}
use Rattle.block_reader.proofs.places.refuse_file.Goals as goal

pub returns-in_err-text-clause-stopped : goal.returns-in_err-text-clause-stopped
returns-in_err-text-clause-stopped g c =
    on_err c.from_residual.result (text_stopped c.args.names.now.one c.args.names.now.refused (one_file_text c.args.kind.now c.args.block.now) (shelved (g.S.Shelf.files c.args.shelf.now) c.args.own.now))

pub returns-in_err-write_file-clause-stopped : goal.returns-in_err-write_file-clause-stopped
returns-in_err-write_file-clause-stopped g c =
    on_err c.from_residual-in_err-write_file.result
    (write_stopped c.in_err-write_file.field-0.0 c.args.names.now.one c.args.names.now.refused (one_file_text c.args.kind.now c.args.block.now) c.as_slice.result.now (g.S.Shelf.files c.args.shelf.now) (g.S.Shelf.files c.write_file.new.shelf) c.args.own.now
    (c.as_slice.ensures.value ∙ c.in_ok-text.ensures) c.in_err-write_file.ensures.refused)

pub returns-in_err-drop_file-clause-stopped : goal.returns-in_err-drop_file-clause-stopped
returns-in_err-drop_file-clause-stopped g c =
    on_err c.from_residual-in_err-drop_file.result
    (drop_stopped c.args.names.now.one c.args.names.now.refused (one_file_text c.args.kind.now c.args.block.now) c.as_slice.result.now (g.S.Shelf.files c.args.shelf.now) (g.S.Shelf.files c.write_file.new.shelf) c.args.own.now
    (shelved (g.S.Shelf.files c.drop_file.new.shelf) c.drop_file.new.own) (c.as_slice.ensures.value ∙ c.in_ok-text.ensures) c.in_ok-write_file.ensures.put c.in_err-drop_file.ensures.tried)
