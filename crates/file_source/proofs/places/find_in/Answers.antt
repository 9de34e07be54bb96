use Rattle.std.proofs.Common.{ap, arith}
use Rattle.std.proofs.lemmas.Result.{err_from_is_err_and}
use Rattle.file_reader.specs.Reading.{FileState}
use Rattle.file_source.proofs.FetchFacts.{sized, under_at, judge_refused}
use Rattle.file_source.proofs.places.find_in.Goals as goal

pub first_under-requires-clause-there : goal.first_under-requires-clause-there
first_under-requires-clause-there g c =
    sized (g.S.Shelf.files c.args.shelf.now) (g.S.Shelf.files c.size.new.self) c.args.name c.open-file.result.name c.in_ok-size.field-0 c.in_ok-size.ensures.size (grind (arith, c.is_none.ensures, c.if-is_none.false)) c.in_ok-size.ensures.files (ap (λ (r : FileState). r.name) c.open-file.ensures.state)

pub returns-in_err-block-in-Some-clause-answer : goal.returns-in_err-block-in-Some-clause-answer
returns-in_err-block-in-Some-clause-answer g c =
    let p = err_from_is_err_and c.from_residual-in_err-block-in-Some.result c.from_residual-in_err-block-in-Some.ensures.1 in
    rw (p.1, p.2)
    (judge_refused (g.S.Shelf.files c.args.shelf.now) c.args.slip.now c.args.name c.in-Some.block (g.S.Shelf.shelf_faults c.args.shelf.now) (g.S.Shelf.shelf_faults c.first_under.new.shelf) c.in_err-block-in-Some.field-0.0
    (under_at (g.S.Shelf.files c.args.shelf.now) (g.S.Shelf.files c.size.new.self) c.args.slip.now.id c.args.name c.open-file.result.name (g.S.Shelf.shelf_faults c.size.new.self) (g.S.Shelf.shelf_faults c.first_under.new.shelf) c.in_ok-block.field-0 c.in-Some.block
    c.in_ok-block.ensures.answer c.in-Some.is c.in_ok-size.ensures.files (ap (λ (r : FileState). r.name) c.open-file.ensures.state))
    c.in_err-block-in-Some.ensures)
