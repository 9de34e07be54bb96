use Rattle.std.proofs.Common.{arith, ◌∙◌}
use Rattle.std.proofs.Math.Nat.{le_refl}
use Rattle.std.proofs.lemmas.Result.{err_from_is_err_and}
use Rattle.shelf_check.specs.Folders.{IsRefusedFile, IsFirstOf}
use Rattle.shelf_check.proofs.FolderFacts.{read_more, read_first}
use Rattle.shelf_check.proofs.RefusalFacts.{refused_on}
use Rattle.shelf_check.proofs.folders.check_names.Goals as goal

pub returns-in_err-block_type-clause-answer : goal.returns-in_err-block_type-clause-answer
returns-in_err-block_type-clause-answer g c =
    let p = err_from_is_err_and c.from_residual.result c.from_residual.ensures.1 in
    rw (p.1, p.2)
    (refused_on (λ told f. IsRefusedFile c.args.folder (g.S.Shelf.files c.loop-name.shelf) c.loop-name.last c.name-item.result told f) (λ name f. IsFirstOf c.args.folder (g.S.Shelf.files c.args.shelf.now) c.args.kept c.args.names.now name f)
    (g.S.Shelf.shelf_faults c.loop-name.shelf) (g.S.Shelf.shelf_faults c.check_file.new.shelf) (g.S.Shelf.shelf_faults c.args.shelf.now) (g.S.Shelf.shelf_faults c.check_file.new.shelf) c.loop-name.invariant.later (le_refl (g.S.Shelf.shelf_faults c.check_file.new.shelf))
    (read_first c.args.folder (g.S.Shelf.files c.args.shelf.now) (g.S.Shelf.files c.loop-name.shelf) c.args.kept c.loop-name.last c.args.names.now c.loop-name.name-index c.name-item.result c.loop-name-test.true c.name-item.is c.loop-name.invariant.files c.loop-name.invariant.read)
    c.in_err-block_type.field-0.0 c.in_err-block_type.ensures.answer)

pub loop-name-preserved : goal.loop-name-preserved
loop-name-preserved g c = record {
  read = read_more c.args.folder (g.S.Shelf.files c.args.shelf.now) (g.S.Shelf.files c.loop-name.shelf) c.args.kept c.loop-name.last c.args.names.now c.loop-name.name-index c.name-item.result c.in_ok-block_type.block_type c.loop-name-test.true c.name-item.is c.loop-name.invariant.files c.loop-name.invariant.read c.in_ok-block_type.ensures.answer;
  files = c.in_ok-block_type.ensures.files ∙ c.loop-name.invariant.files;
  staged = c.in_ok-block_type.ensures.staged ∙ c.loop-name.invariant.staged;
  later = omega (arith, c.loop-name.invariant.later, c.in_ok-block_type.ensures.later);
}
