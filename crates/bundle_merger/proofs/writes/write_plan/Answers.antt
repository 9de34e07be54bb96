use Rattle.std.proofs.lemmas.Result.{err_from_is_err_and}
use Rattle.bundle_merger.specs.Containers.{blocks_of}
use Rattle.bundle_merger.specs.Writes.{bundle_files, dead_files}
use Rattle.bundle_merger.proofs.WriteFacts.{stopped_front, stopped_rest, told_on}
use Rattle.bundle_merger.proofs.writes.write_plan.Goals as goal

pub returns-in_err-write_bundle-clause-stopped : goal.returns-in_err-write_bundle-clause-stopped
returns-in_err-write_bundle-clause-stopped g c =
    let p = err_from_is_err_and c.from_residual-in_err-write_bundle.result c.from_residual-in_err-write_bundle.ensures.1 in
    rw (p.1, p.2)
    (stopped_rest (dead_files c.args.kind.now (blocks_of c.args.plan.now.dead.items)) (bundle_files c.args.kind.now c.args.plan.now.size c.args.plan.now.base (blocks_of c.args.plan.now.finals.items))
    (g.S.Shelf.files c.args.shelf.now) (g.S.Shelf.files c.write_dead.new.shelf) (g.S.Shelf.files c.write_bundle.new.shelf)
    (g.S.Shelf.shelf_faults c.args.shelf.now) (g.S.Shelf.shelf_faults c.write_dead.new.shelf) (g.S.Shelf.shelf_faults c.write_bundle.new.shelf) c.in_err-write_bundle.field-0.0
    (rw c.as_slice.ensures.value at c.in_ok-write_dead.ensures.written) c.in_ok-write_dead.ensures.later c.in_err-write_bundle.ensures.stopped)

pub returns-clause-written : goal.returns-clause-written
returns-clause-written g c =
    told_on (dead_files c.args.kind.now (blocks_of c.args.plan.now.dead.items)) (bundle_files c.args.kind.now c.args.plan.now.size c.args.plan.now.base (blocks_of c.args.plan.now.finals.items))
    (g.S.Shelf.files c.args.shelf.now) (g.S.Shelf.files c.write_dead.new.shelf) (g.S.Shelf.files c.write_bundle.new.shelf)
    (rw c.as_slice.ensures.value at c.in_ok-write_dead.ensures.written) c.in_ok-write_bundle.ensures.written

pub returns-in_err-write_dead-clause-stopped : goal.returns-in_err-write_dead-clause-stopped
returns-in_err-write_dead-clause-stopped g c =
    let p = err_from_is_err_and c.from_residual.result c.from_residual.ensures.1 in
    rw (p.1, p.2)
    (stopped_front (dead_files c.args.kind.now (blocks_of c.args.plan.now.dead.items)) (bundle_files c.args.kind.now c.args.plan.now.size c.args.plan.now.base (blocks_of c.args.plan.now.finals.items))
    (g.S.Shelf.files c.args.shelf.now) (g.S.Shelf.files c.write_dead.new.shelf)
    (g.S.Shelf.shelf_faults c.args.shelf.now) (g.S.Shelf.shelf_faults c.write_dead.new.shelf) c.in_err-write_dead.field-0.0
    (rw c.as_slice.ensures.value at c.in_err-write_dead.ensures.stopped))
