use Rattle.std.proofs.Common.{arith, ◌∙◌}
use Rattle.std.proofs.Math.Nat.{le_refl}
use Rattle.std.proofs.lemmas.Result.{err_from_is_err_and}
use Rattle.shelf_check.specs.Merged.{IsRefusedBundle, IsFirstOf}
use Rattle.shelf_check.proofs.MergedFacts.{read_more, read_first}
use Rattle.shelf_check.proofs.RefusalFacts.{refused_on}
use Rattle.shelf_check.proofs.merged.check_entries.Goals as goal

pub returns-in_err-read-clause-answer : goal.returns-in_err-read-clause-answer
returns-in_err-read-clause-answer g c =
    let p = err_from_is_err_and c.from_residual.result c.from_residual.ensures.1 in
    rw (p.1, p.2)
    (refused_on (λ told f. IsRefusedBundle c.args.size (g.S.Shelf.files c.loop-entry.shelf) c.entry-item.result.0 c.entry-item.result.1 c.loop-entry.read told f) (λ name f. IsFirstOf c.args.size (g.S.Shelf.files c.args.shelf.now) c.args.entries.now name f)
    (g.S.Shelf.shelf_faults c.loop-entry.shelf) (g.S.Shelf.shelf_faults c.check_next.new.shelf) (g.S.Shelf.shelf_faults c.args.shelf.now) (g.S.Shelf.shelf_faults c.check_next.new.shelf) c.loop-entry.invariant.later (le_refl (g.S.Shelf.shelf_faults c.check_next.new.shelf))
    (read_first c.args.size (g.S.Shelf.files c.args.shelf.now) (g.S.Shelf.files c.loop-entry.shelf) c.args.entries.now c.loop-entry.entry-index c.entry-item.result c.loop-entry.read c.loop-entry-test.true c.entry-item.is c.loop-entry.invariant.files c.loop-entry.invariant.read)
    c.in_err-read.field-0.0 c.in_err-read.ensures.answer)

pub loop-entry-preserved : goal.loop-entry-preserved
loop-entry-preserved g c = record {
  read = read_more c.args.size (g.S.Shelf.files c.args.shelf.now) (g.S.Shelf.files c.loop-entry.shelf) c.args.entries.now c.loop-entry.entry-index c.entry-item.result c.loop-entry.read c.in_ok-read.read c.loop-entry-test.true c.entry-item.is c.loop-entry.invariant.files c.loop-entry.invariant.read c.in_ok-read.ensures.answer;
  files = c.in_ok-read.ensures.files ∙ c.loop-entry.invariant.files;
  staged = c.in_ok-read.ensures.staged ∙ c.loop-entry.invariant.staged;
  later = omega (arith, c.loop-entry.invariant.later, c.in_ok-read.ensures.later);
}
