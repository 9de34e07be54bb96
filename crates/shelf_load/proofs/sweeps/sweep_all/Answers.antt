use Rattle.std.proofs.lemmas.Result.{err_from_is_err_and}
use Rattle.block_relay.specs.Chronicle.{world_told}
use Rattle.shelf_load.proofs.AnswerFacts.{none_swept, folder_swept}
use Rattle.shelf_load.proofs.KeptFacts.{same_kept, refused_kept, swept_kept}
use Rattle.shelf_load.proofs.sweeps.sweep_all.Goals as goal

pub returns-in_err-list-clause-answer : goal.returns-in_err-list-clause-answer
returns-in_err-list-clause-answer g c =
    let p = err_from_is_err_and c.from_residual.result c.from_residual.ensures.1 in
    rw (p.1, p.2)
    (none_swept (world_told c.args.relay.now) (g.S.Shelf.files c.args.shelf.now) (g.S.Shelf.files c.list.new.self) (g.S.Shelf.shelf_faults c.args.shelf.now) (g.S.Shelf.shelf_faults c.list.new.self) c.in_err-list.field-0.0
    c.in_err-list.ensures.files c.in_err-list.ensures.cause.failed)

pub returns-clause-answer : goal.returns-clause-answer
returns-clause-answer g c =
    folder_swept (world_told c.args.relay.now) (g.S.Shelf.files c.args.shelf.now) (g.S.Shelf.files c.list.new.self) (g.S.Shelf.files c.sweep_names.new.shelf) c.list.new.out.items c.in_ok-count.count
    c.in_ok-list.ensures.files (rw c.new-names.ensures.items at c.in_ok-list.ensures.names) (rw c.as_slice.ensures.value at c.in_ok-count.ensures.answer)

pub returns-in_err-list-clause-kept : goal.returns-in_err-list-clause-kept
returns-in_err-list-clause-kept g c = same_kept (world_told c.args.relay.now) (g.S.Shelf.files c.args.shelf.now) (g.S.Shelf.files c.list.new.self) c.in_err-list.ensures.files

pub returns-in_err-count-clause-kept : goal.returns-in_err-count-clause-kept
returns-in_err-count-clause-kept g c =
    refused_kept (world_told c.args.relay.now) (g.S.Shelf.files c.args.shelf.now) (g.S.Shelf.files c.list.new.self) (g.S.Shelf.files c.sweep_names.new.shelf)
    (g.S.Shelf.shelf_faults c.list.new.self) (g.S.Shelf.shelf_faults c.sweep_names.new.shelf) c.in_err-count.field-0.0 c.len.ensures.sound c.in_ok-list.ensures.files c.in_err-count.ensures.answer

pub returns-clause-kept : goal.returns-clause-kept
returns-clause-kept g c =
    swept_kept (world_told c.args.relay.now) (g.S.Shelf.files c.args.shelf.now) (g.S.Shelf.files c.sweep_names.new.shelf) c.in_ok-count.count c.len.ensures.sound
    (folder_swept (world_told c.args.relay.now) (g.S.Shelf.files c.args.shelf.now) (g.S.Shelf.files c.list.new.self) (g.S.Shelf.files c.sweep_names.new.shelf) c.list.new.out.items c.in_ok-count.count
    c.in_ok-list.ensures.files (rw c.new-names.ensures.items at c.in_ok-list.ensures.names) (rw c.as_slice.ensures.value at c.in_ok-count.ensures.answer))
