use Rattle.std.proofs.lemmas.Result.{err_from_is_err_and}
use Rattle.file_source.proofs.FetchFacts.{named_refusal}
use Rattle.file_source.proofs.places.fetch.Goals as goal

pub returns-in_err-block-clause-named : goal.returns-in_err-block-clause-named
returns-in_err-block-clause-named g c =
    let p = err_from_is_err_and c.from_residual.result c.from_residual.ensures.1 in
    rw (p.1, p.2)
    (named_refusal (g.S.Shelf.files c.args.shelf.now) c.args.slip.now (g.S.Shelf.shelf_faults c.args.shelf.now) (g.S.Shelf.shelf_faults c.find.new.shelf) c.in_err-block.field-0.0 c.in_err-block.ensures.answer)
