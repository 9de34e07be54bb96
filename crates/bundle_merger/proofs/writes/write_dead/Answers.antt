use Rattle.std.proofs.Common.{arith, ◌∙◌, ap}
use Rattle.std.proofs.lemmas.Result.{err_from_is_err_and}
use Rattle.outer_world.specs.Shelves.{emptied}
use Rattle.bundle_merger.proofs.DeadFacts.{dead_stopped, dead_unnamed, dead_written}
use Rattle.bundle_merger.proofs.WriteFacts.{emptied_twice}
use Rattle.bundle_merger.proofs.writes.write_dead.Goals as goal

pub returns-in_err-name-clause-stopped : goal.returns-in_err-name-clause-stopped
returns-in_err-name-clause-stopped g c =
    let p = err_from_is_err_and c.from_residual.result c.from_residual.ensures.1 in
    rw (p.1, p.2)
    (dead_unnamed c.args.kind.now c.args.blocks.now c.loop-block.block-index (g.S.Shelf.files c.args.shelf.now) (g.S.Shelf.files c.loop-block.shelf)
    (g.S.Shelf.shelf_faults c.args.shelf.now) (g.S.Shelf.shelf_faults c.loop-block.shelf) _ c.loop-block.invariant.files c.loop-block.invariant.later tt)

pub returns-in_err-write_blocks-clause-stopped : goal.returns-in_err-write_blocks-clause-stopped
returns-in_err-write_blocks-clause-stopped g c =
    let p = err_from_is_err_and c.from_residual-in_err-write_blocks.result c.from_residual-in_err-write_blocks.ensures.1 in
    rw (p.1, p.2)
    (dead_stopped c.args.kind.now c.args.blocks.now c.loop-block.block-index c.in_ok-name.name c.from_ref.result.now (g.S.Shelf.files c.args.shelf.now) (g.S.Shelf.files c.loop-block.shelf) (g.S.Shelf.files c.write_blocks.new.shelf)
    (g.S.Shelf.shelf_faults c.args.shelf.now) (g.S.Shelf.shelf_faults c.loop-block.shelf) (g.S.Shelf.shelf_faults c.write_blocks.new.shelf) c.in_err-write_blocks.field-0.0
    (record { x = c.block-item.result; within = c.loop-block-test.true; item = c.block-item.is; alone_is = c.from_ref.ensures.value; named = rw (c.deref.ensures, c.deref-in-loop-block.ensures) at c.in_ok-name.ensures })
    c.loop-block.invariant.files c.loop-block.invariant.later c.in_err-write_blocks.ensures.stopped)

pub loop-block-preserved : goal.loop-block-preserved
loop-block-preserved g c = record {
  files =
      dead_written c.args.kind.now c.args.blocks.now c.loop-block.block-index c.in_ok-name.name c.from_ref.result.now (g.S.Shelf.files c.args.shelf.now) (g.S.Shelf.files c.loop-block.shelf) (g.S.Shelf.files c.write_blocks.new.shelf)
      (record { x = c.block-item.result; within = c.loop-block-test.true; item = c.block-item.is; alone_is = c.from_ref.ensures.value; named = rw (c.deref.ensures, c.deref-in-loop-block.ensures) at c.in_ok-name.ensures })
      c.loop-block.invariant.files c.in_ok-write_blocks.ensures.written;
  staged = c.in_ok-write_blocks.ensures.emptied ∙ ap emptied c.loop-block.invariant.staged ∙ emptied_twice (g.S.Shelf.staged c.args.shelf.now);
  later = omega (arith, c.loop-block.invariant.later, c.in_ok-write_blocks.ensures.later);
}
