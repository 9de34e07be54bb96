use Rattle.std.proofs.Common.{arith, ◌∙◌, refl}
use Rattle.std.proofs.lemmas.Result.{err_from_is_err_and}
use Rattle.block_relay.specs.Chronicle.{world_told}
use Rattle.shelf_load.proofs.AnswerFacts.{at_start, at_more, only_at, next_failed, one_most}
use Rattle.shelf_load.proofs.sweeps.sweep_names.Goals as goal

pub loop-name-init : goal.loop-name-init
loop-name-init g c = record {
  here = at_start (world_told c.args.relay.now) (g.S.Shelf.files c.args.shelf.now) c.args.names.now;
  below = omega arith;
  staged = refl;
  later = omega arith;
}

pub sweep_file-requires-clause-only : goal.sweep_file-requires-clause-only
sweep_file-requires-clause-only g c =
    only_at (world_told c.args.relay.now) (g.S.Shelf.files c.args.shelf.now) (g.S.Shelf.files c.loop-name.shelf) c.args.names.now c.loop-name.name-index c.loop-name.count c.name-item.result
    c.requires c.loop-name.invariant.here c.loop-name-test.true c.name-item.is

pub returns-in_err-removed-clause-answer : goal.returns-in_err-removed-clause-answer
returns-in_err-removed-clause-answer g c =
    let p = err_from_is_err_and c.from_residual.result c.from_residual.ensures.1 in
    rw (p.1, p.2)
    (next_failed (world_told c.args.relay.now) (g.S.Shelf.files c.args.shelf.now) (g.S.Shelf.files c.loop-name.shelf) (g.S.Shelf.files c.sweep_file.new.shelf) c.args.names.now c.loop-name.name-index c.loop-name.count c.name-item.result
    (g.S.Shelf.shelf_faults c.args.shelf.now) (g.S.Shelf.shelf_faults c.loop-name.shelf) (g.S.Shelf.shelf_faults c.sweep_file.new.shelf) c.in_err-removed.field-0.0
    c.requires c.loop-name.invariant.here c.loop-name-test.true c.name-item.is c.loop-name.invariant.later c.in_err-removed.ensures.answer)

pub loop-name-preserved : goal.loop-name-preserved
loop-name-preserved g c = record {
  here =
      rw c.one_if-count.ensures
      (at_more (world_told c.args.relay.now) (g.S.Shelf.files c.args.shelf.now) (g.S.Shelf.files c.loop-name.shelf) (g.S.Shelf.files c.sweep_file.new.shelf) c.args.names.now c.loop-name.name-index c.loop-name.count c.name-item.result c.in_ok-removed.removed
      c.requires c.loop-name.invariant.here c.loop-name-test.true c.name-item.is c.in_ok-removed.ensures.answer);
  below = omega (arith, c.loop-name.invariant.below, c.one_if-count.ensures, one_most c.in_ok-removed.removed);
  staged = c.in_ok-removed.ensures.staged ∙ c.loop-name.invariant.staged;
  later = omega (arith, c.loop-name.invariant.later, c.in_ok-removed.ensures.later);
}
