use Rattle.std.proofs.Common.{arith, refl, ◌∙◌}
use Rattle.std.proofs.Math.Nat.{le_refl}
use Rattle.std.proofs.lemmas.Result.{err_from_is_err_and}
use Rattle.block_relay.specs.Chronicle.{world_told}
use Rattle.shelf_load.specs.Taking.{stage}
use Rattle.shelf_load.proofs.FilesFacts.{none_through, through_more, through_refused, all_through}
use Rattle.shelf_load.proofs.entries.load_entries.Goals as goal

pub loop-entry-init : goal.loop-entry-init
loop-entry-init g c = record {
  read = none_through c.args.content (g.S.Shelf.files c.args.shelf.now) c.args.entries.now (stage (world_told c.args.relay.now) c.args.left.now);
  files = refl;
  staged = refl;
  later = le_refl (g.S.Shelf.shelf_faults c.args.shelf.now);
}

pub returns-in_err-load_file-clause-answer : goal.returns-in_err-load_file-clause-answer
returns-in_err-load_file-clause-answer g c =
    let p = err_from_is_err_and c.from_residual.result c.from_residual.ensures.1 in
    rw (p.1, p.2)
    (through_refused c.args.content (g.S.Shelf.files c.args.shelf.now) (g.S.Shelf.files c.loop-entry.shelf) c.args.entries.now c.loop-entry.entry-index c.entry-item.result
    (stage (world_told c.args.relay.now) c.args.left.now) (stage (world_told c.loop-entry.relay) c.loop-entry.left) (stage (world_told c.load_file.new.relay) c.load_file.new.left)
    c.loop-entry-test.true c.entry-item.is c.loop-entry.invariant.files c.loop-entry.invariant.read
    (g.S.Shelf.shelf_faults c.args.shelf.now) (g.S.Shelf.shelf_faults c.loop-entry.shelf) (g.S.Shelf.shelf_faults c.load_file.new.shelf) (g.S.Shelf.shelf_faults c.load_file.new.shelf) c.in_err-load_file.field-0.0
    c.loop-entry.invariant.later (le_refl (g.S.Shelf.shelf_faults c.load_file.new.shelf)) c.in_err-load_file.ensures.answer)

pub loop-entry-preserved : goal.loop-entry-preserved
loop-entry-preserved g c = record {
  read = through_more c.args.content (g.S.Shelf.files c.args.shelf.now) (g.S.Shelf.files c.loop-entry.shelf) c.args.entries.now c.loop-entry.entry-index c.entry-item.result
      (stage (world_told c.args.relay.now) c.args.left.now) (stage (world_told c.loop-entry.relay) c.loop-entry.left) (stage (world_told c.load_file.new.relay) c.load_file.new.left)
      c.loop-entry-test.true c.entry-item.is c.loop-entry.invariant.files c.loop-entry.invariant.read
      (g.S.Shelf.shelf_faults c.loop-entry.shelf) (g.S.Shelf.shelf_faults c.load_file.new.shelf) c.in_ok-load_file.field-0 c.in_ok-load_file.ensures.answer;
  files = c.in_ok-load_file.ensures.files ∙ c.loop-entry.invariant.files;
  staged = c.in_ok-load_file.ensures.staged ∙ c.loop-entry.invariant.staged;
  later = omega (arith, c.loop-entry.invariant.later, c.in_ok-load_file.ensures.later);
}

pub returns-clause-answer : goal.returns-clause-answer
returns-clause-answer g c =
    all_through c.args.content (g.S.Shelf.files c.args.shelf.now) c.args.entries.now c.loop-entry.entry-index (stage (world_told c.args.relay.now) c.args.left.now) (stage (world_told c.loop-entry.relay) c.loop-entry.left)
    (omega (arith, c.loop-entry.auto.entry-index-end, c.loop-entry-test.false)) c.loop-entry.invariant.read
