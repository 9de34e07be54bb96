use Rattle.std.proofs.Common.{◌∙◌, sym}
use Rattle.block_relay.specs.Chronicle.{world_told}
use Rattle.block_reader.proofs.ChangeFacts.{on_err, sweep_stopped}
use Rattle.block_reader.proofs.sweeps.sweep_at.Goals as goal

pub returns-in_err-remove-clause-stopped : goal.returns-in_err-remove-clause-stopped
returns-in_err-remove-clause-stopped g c =
    on_err c.from_residual.result
    (sweep_stopped c.in_err-remove.field-0.0 (world_told c.args.relay.now) c.args.at c.args.own.now c.remove_at.new.self c.in-Some.file (g.S.Shelf.files c.args.shelf.now) (g.S.Shelf.files c.remove.new.self)
    (sym c.is_swept_at.ensures ∙ c.if-not-is_swept_at.false) c.in-Some.ensures.file c.in-Some.ensures.without c.in_err-remove.ensures.refused)
