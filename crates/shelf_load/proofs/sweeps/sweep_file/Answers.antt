use Rattle.std.proofs.Common.{◌∙◌, sym}
use Rattle.std.proofs.lemmas.Result.{err_from_is_err_and}
use Rattle.block_relay.specs.Chronicle.{world_told}
use Rattle.shelf_load.proofs.AnswerFacts.{file_kept, file_gone, file_failed}
use Rattle.shelf_load.proofs.sweeps.sweep_file.Goals as goal

pub returns-then-not-may_sweep-clause-answer : goal.returns-then-not-may_sweep-clause-answer
returns-then-not-may_sweep-clause-answer g c =
    file_kept (world_told c.args.relay.now) c.args.name.now (g.S.Shelf.files c.args.shelf.now) (g.S.Shelf.files c.own_slip.new.shelf) c.in_ok-slip.slip c.requires.inside c.requires.only c.in_ok-slip.ensures.files c.in_ok-slip.ensures.answer
    (sym c.may_sweep.ensures ∙ c.if-not-may_sweep.true)

pub returns-in_err-remove-clause-answer : goal.returns-in_err-remove-clause-answer
returns-in_err-remove-clause-answer g c =
    let p = err_from_is_err_and c.from_residual-in_err-remove.result c.from_residual-in_err-remove.ensures.1 in
    rw (p.1, p.2)
    (file_failed (world_told c.args.relay.now) c.args.name.now (g.S.Shelf.files c.args.shelf.now) (g.S.Shelf.files c.own_slip.new.shelf) (g.S.Shelf.files c.remove.new.self) c.in_ok-slip.slip
    (g.S.Shelf.shelf_faults c.args.shelf.now) (g.S.Shelf.shelf_faults c.own_slip.new.shelf) (g.S.Shelf.shelf_faults c.remove.new.self) c.in_err-remove.field-0.0
    c.requires.inside c.requires.only c.in_ok-slip.ensures.files c.in_ok-slip.ensures.answer (sym c.may_sweep.ensures ∙ c.if-not-may_sweep.false)
    c.in_err-remove.ensures.refused c.in_ok-slip.ensures.later c.in_err-remove.ensures.cause.failed)

pub returns-clause-answer : goal.returns-clause-answer
returns-clause-answer g c =
    file_gone (world_told c.args.relay.now) c.args.name.now (g.S.Shelf.files c.args.shelf.now) (g.S.Shelf.files c.own_slip.new.shelf) (g.S.Shelf.files c.remove.new.self) c.in_ok-slip.slip c.requires.inside c.requires.only c.in_ok-slip.ensures.files
    c.in_ok-remove.ensures.removed c.in_ok-slip.ensures.answer (sym c.may_sweep.ensures ∙ c.if-not-may_sweep.false)
