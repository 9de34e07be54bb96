use Rattle.std.proofs.Common.{◌∙◌}
use Rattle.std.proofs.lemmas.Result.{err_from_is_err_and}
use Rattle.block_reader.proofs.StepFacts.{unput_taken, cut_taken, ok_taken, err_taken}
use Rattle.block_reader.proofs.take.take_block.Goals as goal

pub returns-in_err-put-clause-taken : goal.returns-in_err-put-clause-taken
returns-in_err-put-clause-taken g c =
    let p = err_from_is_err_and c.from_residual-in_err-put.result c.from_residual-in_err-put.ensures.1 in
    rw (p.1, p.2)
    (unput_taken c.args.relay.now c.args.kind.now c.deref.result.now c.args.block c.args.name.now (g.S.Shelf.files c.args.shelf.now) (g.S.Shelf.files c.put_noted.new.shelf) c.args.own.now c.put_noted.new.own
    (g.S.Shelf.shelf_faults c.args.shelf.now) (g.S.Shelf.shelf_faults c.put_noted.new.shelf) c.in_err-put.field-0.0 (c.deref.ensures ∙ c.in_ok-block.ensures) c.in_err-put.ensures.unnoted c.in_err-put.ensures.answers)

pub returns-in_err-settle-clause-taken : goal.returns-in_err-settle-clause-taken
returns-in_err-settle-clause-taken g c =
    let p = err_from_is_err_and c.from_residual-in_err-settle.result c.from_residual-in_err-settle.ensures.1 in
    rw (p.1, p.2)
    (cut_taken c.args.relay.now c.offer-answer.new.self c.args.kind.now c.args.block c.deref.result.now c.in_ok-offered.offered.value c.deref-2.result.now c.args.name.now c.in_ok-names.names.one c.in_ok-names.names.refused
    (g.S.Shelf.files c.args.shelf.now) (g.S.Shelf.files c.put_noted.new.shelf) (g.S.Shelf.files c.settle.new.shelf) c.args.own.now c.put_noted.new.own c.settle.new.own c.in_ok-put.put c.offer-answer.result
    (c.deref.ensures ∙ c.in_ok-block.ensures) (c.in_ok-offered.ensures.cases ∙ c.in_ok-block.ensures) (c.deref-2.ensures ∙ c.in_ok-block.ensures) c.in_ok-names.ensures.one c.in_ok-names.ensures.refused
    c.in_ok-put.ensures.answers c.in_ok-put.ensures.noted c.offer-answer.ensures.said c.offer-answer.ensures.entries c.offer-answer.ensures.world c.offer-answer.ensures.mem
    (g.S.Shelf.shelf_faults c.args.shelf.now) (g.S.Shelf.shelf_faults c.put_noted.new.shelf) (g.S.Shelf.shelf_faults c.settle.new.shelf) c.in_err-settle.field-0.0 c.in_ok-put.ensures.later c.in_err-settle.ensures.cause.failed
    c.in_err-settle.ensures.stopped)

pub returns-in-Ok-clause-taken : goal.returns-in-Ok-clause-taken
returns-in-Ok-clause-taken g c =
    ok_taken c.args.relay.now c.offer-answer.new.self c.args.kind.now c.args.block c.deref.result.now c.in_ok-offered.offered.value c.deref-2.result.now c.args.name.now c.in_ok-names.names.one c.in_ok-names.names.refused
    (g.S.Shelf.files c.args.shelf.now) (g.S.Shelf.files c.put_noted.new.shelf) (g.S.Shelf.files c.settle.new.shelf) c.args.own.now c.put_noted.new.own c.settle.new.own c.in_ok-put.put c.offer-answer.result
    (c.deref.ensures ∙ c.in_ok-block.ensures) (c.in_ok-offered.ensures.cases ∙ c.in_ok-block.ensures) (c.deref-2.ensures ∙ c.in_ok-block.ensures) c.in_ok-names.ensures.one c.in_ok-names.ensures.refused
    c.in_ok-put.ensures.answers c.in_ok-put.ensures.noted c.offer-answer.ensures.said c.offer-answer.ensures.entries c.offer-answer.ensures.world c.offer-answer.ensures.mem
    (g.S.Shelf.shelf_faults c.args.shelf.now) (g.S.Shelf.shelf_faults c.settle.new.shelf) c.in-Ok.offered c.in-Ok.is c.in_ok-settle.ensures.done

pub returns-clause-taken : goal.returns-clause-taken
returns-clause-taken g c =
    err_taken c.args.relay.now c.offer-answer.new.self c.args.kind.now c.args.block c.deref.result.now c.in_ok-offered.offered.value c.deref-2.result.now c.args.name.now c.in_ok-names.names.one c.in_ok-names.names.refused
    (g.S.Shelf.files c.args.shelf.now) (g.S.Shelf.files c.put_noted.new.shelf) (g.S.Shelf.files c.settle.new.shelf) c.args.own.now c.put_noted.new.own c.settle.new.own c.in_ok-put.put c.offer-answer.result
    (c.deref.ensures ∙ c.in_ok-block.ensures) (c.in_ok-offered.ensures.cases ∙ c.in_ok-block.ensures) (c.deref-2.ensures ∙ c.in_ok-block.ensures) c.in_ok-names.ensures.one c.in_ok-names.ensures.refused
    c.in_ok-put.ensures.answers c.in_ok-put.ensures.noted c.offer-answer.ensures.said c.offer-answer.ensures.entries c.offer-answer.ensures.world c.offer-answer.ensures.mem
    (g.S.Shelf.shelf_faults c.args.shelf.now) (g.S.Shelf.shelf_faults c.settle.new.shelf) c.in-Err.fault c.in-Err.is c.in_ok-settle.ensures.done
