use Rattle.std.proofs.Common.{arith, refl, ◌∙◌}
use Rattle.std.proofs.Math.Nat.{le_refl}
use Rattle.std.proofs.lemmas.Result.{err_from_is_err_and}
use Rattle.file_source.proofs.FetchFacts.{all_refused, all_fetched, at_forked, at_hundred, at_thousand, is_missing, lacks_at}
use Rattle.file_source.proofs.places.find.Goals as goal

pub returns-in_err-found-clause-answer : goal.returns-in_err-found-clause-answer
returns-in_err-found-clause-answer g c =
    let p = err_from_is_err_and c.from_residual-in_err-found.result c.from_residual-in_err-found.ensures.1 in
    rw (p.1, p.2)
    (all_refused (g.S.Shelf.files c.args.shelf.now) (g.S.Shelf.files c.args.shelf.now) c.args.slip.now c.in_ok-forked.forked (g.S.Shelf.shelf_faults c.args.shelf.now) (g.S.Shelf.shelf_faults c.args.shelf.now) (g.S.Shelf.shelf_faults c.find_in.new.shelf) c.in_err-found.field-0.0
    (at_forked (g.S.Shelf.files c.args.shelf.now) c.args.slip.now c.in_ok-forked.forked c.in_ok-forked.ensures)
    c.in_err-found.ensures.answer refl (le_refl (g.S.Shelf.shelf_faults c.args.shelf.now)))

pub returns-in-Some-clause-answer : goal.returns-in-Some-clause-answer
returns-in-Some-clause-answer g c =
    all_fetched (g.S.Shelf.files c.args.shelf.now) (g.S.Shelf.files c.args.shelf.now) c.args.slip.now c.in_ok-forked.forked (g.S.Shelf.shelf_faults c.args.shelf.now) (g.S.Shelf.shelf_faults c.find_in.new.shelf) c.in_ok-found.field-0 c.in-Some.found
    (at_forked (g.S.Shelf.files c.args.shelf.now) c.args.slip.now c.in_ok-forked.forked c.in_ok-forked.ensures)
    c.in_ok-found.ensures.answer c.in-Some.is refl

pub returns-in_err-found-2-clause-answer : goal.returns-in_err-found-2-clause-answer
returns-in_err-found-2-clause-answer g c =
    let p = err_from_is_err_and c.from_residual-in_err-found-2.result c.from_residual-in_err-found-2.ensures.1 in
    rw (p.1, p.2)
    (all_refused (g.S.Shelf.files c.args.shelf.now) (g.S.Shelf.files c.find_in.new.shelf) c.args.slip.now c.in_ok-hundred.hundred (g.S.Shelf.shelf_faults c.args.shelf.now) (g.S.Shelf.shelf_faults c.find_in.new.shelf) (g.S.Shelf.shelf_faults c.find_in-2.new.shelf) c.in_err-found-2.field-0.0
    (at_hundred (g.S.Shelf.files c.args.shelf.now) c.args.slip.now c.in_ok-forked.forked c.in_ok-hundred.hundred c.in_ok-forked.ensures c.in_ok-hundred.ensures (lacks_at (g.S.Shelf.files c.args.shelf.now) (g.S.Shelf.files c.args.shelf.now) c.args.slip.now c.in_ok-forked.forked (g.S.Shelf.shelf_faults c.args.shelf.now) (g.S.Shelf.shelf_faults c.find_in.new.shelf) c.in_ok-found.field-0 c.in_ok-found.ensures.answer c.in_default.is refl))
    c.in_err-found-2.ensures.answer c.in_ok-found.ensures.files c.in_ok-found.ensures.later)

pub returns-in-Some-2-clause-answer : goal.returns-in-Some-2-clause-answer
returns-in-Some-2-clause-answer g c =
    all_fetched (g.S.Shelf.files c.args.shelf.now) (g.S.Shelf.files c.find_in.new.shelf) c.args.slip.now c.in_ok-hundred.hundred (g.S.Shelf.shelf_faults c.find_in.new.shelf) (g.S.Shelf.shelf_faults c.find_in-2.new.shelf) c.in_ok-found-2.field-0 c.in-Some-2.found
    (at_hundred (g.S.Shelf.files c.args.shelf.now) c.args.slip.now c.in_ok-forked.forked c.in_ok-hundred.hundred c.in_ok-forked.ensures c.in_ok-hundred.ensures (lacks_at (g.S.Shelf.files c.args.shelf.now) (g.S.Shelf.files c.args.shelf.now) c.args.slip.now c.in_ok-forked.forked (g.S.Shelf.shelf_faults c.args.shelf.now) (g.S.Shelf.shelf_faults c.find_in.new.shelf) c.in_ok-found.field-0 c.in_ok-found.ensures.answer c.in_default.is refl))
    c.in_ok-found-2.ensures.answer c.in-Some-2.is c.in_ok-found.ensures.files

pub returns-in_err-found-3-clause-answer : goal.returns-in_err-found-3-clause-answer
returns-in_err-found-3-clause-answer g c =
    let p = err_from_is_err_and c.from_residual-in_err-found-3.result c.from_residual-in_err-found-3.ensures.1 in
    rw (p.1, p.2)
    (all_refused (g.S.Shelf.files c.args.shelf.now) (g.S.Shelf.files c.find_in-2.new.shelf) c.args.slip.now c.in_ok-thousand.thousand (g.S.Shelf.shelf_faults c.args.shelf.now) (g.S.Shelf.shelf_faults c.find_in-2.new.shelf) (g.S.Shelf.shelf_faults c.find_in-3.new.shelf) c.in_err-found-3.field-0.0
    (at_thousand (g.S.Shelf.files c.args.shelf.now) c.args.slip.now c.in_ok-forked.forked c.in_ok-hundred.hundred c.in_ok-thousand.thousand c.in_ok-forked.ensures c.in_ok-hundred.ensures c.in_ok-thousand.ensures (lacks_at (g.S.Shelf.files c.args.shelf.now) (g.S.Shelf.files c.args.shelf.now) c.args.slip.now c.in_ok-forked.forked (g.S.Shelf.shelf_faults c.args.shelf.now) (g.S.Shelf.shelf_faults c.find_in.new.shelf) c.in_ok-found.field-0 c.in_ok-found.ensures.answer c.in_default.is refl) (lacks_at (g.S.Shelf.files c.args.shelf.now) (g.S.Shelf.files c.find_in.new.shelf) c.args.slip.now c.in_ok-hundred.hundred (g.S.Shelf.shelf_faults c.find_in.new.shelf) (g.S.Shelf.shelf_faults c.find_in-2.new.shelf) c.in_ok-found-2.field-0 c.in_ok-found-2.ensures.answer c.in_default-2.is c.in_ok-found.ensures.files))
    c.in_err-found-3.ensures.answer (c.in_ok-found-2.ensures.files ∙ c.in_ok-found.ensures.files) (omega (arith, c.in_ok-found.ensures.later, c.in_ok-found-2.ensures.later)))

pub returns-in-Some-3-clause-answer : goal.returns-in-Some-3-clause-answer
returns-in-Some-3-clause-answer g c =
    all_fetched (g.S.Shelf.files c.args.shelf.now) (g.S.Shelf.files c.find_in-2.new.shelf) c.args.slip.now c.in_ok-thousand.thousand (g.S.Shelf.shelf_faults c.find_in-2.new.shelf) (g.S.Shelf.shelf_faults c.find_in-3.new.shelf) c.in_ok-found-3.field-0 c.in-Some-3.found
    (at_thousand (g.S.Shelf.files c.args.shelf.now) c.args.slip.now c.in_ok-forked.forked c.in_ok-hundred.hundred c.in_ok-thousand.thousand c.in_ok-forked.ensures c.in_ok-hundred.ensures c.in_ok-thousand.ensures (lacks_at (g.S.Shelf.files c.args.shelf.now) (g.S.Shelf.files c.args.shelf.now) c.args.slip.now c.in_ok-forked.forked (g.S.Shelf.shelf_faults c.args.shelf.now) (g.S.Shelf.shelf_faults c.find_in.new.shelf) c.in_ok-found.field-0 c.in_ok-found.ensures.answer c.in_default.is refl) (lacks_at (g.S.Shelf.files c.args.shelf.now) (g.S.Shelf.files c.find_in.new.shelf) c.args.slip.now c.in_ok-hundred.hundred (g.S.Shelf.shelf_faults c.find_in.new.shelf) (g.S.Shelf.shelf_faults c.find_in-2.new.shelf) c.in_ok-found-2.field-0 c.in_ok-found-2.ensures.answer c.in_default-2.is c.in_ok-found.ensures.files))
    c.in_ok-found-3.ensures.answer c.in-Some-3.is (c.in_ok-found-2.ensures.files ∙ c.in_ok-found.ensures.files)

pub returns-clause-answer : goal.returns-clause-answer
returns-clause-answer g c = is_missing (g.S.Shelf.files c.args.shelf.now) c.args.slip.now c.in_ok-forked.forked c.in_ok-hundred.hundred c.in_ok-thousand.thousand c.in_ok-name.name c.in_ok-forked.ensures c.in_ok-hundred.ensures c.in_ok-thousand.ensures (lacks_at (g.S.Shelf.files c.args.shelf.now) (g.S.Shelf.files c.args.shelf.now) c.args.slip.now c.in_ok-forked.forked (g.S.Shelf.shelf_faults c.args.shelf.now) (g.S.Shelf.shelf_faults c.find_in.new.shelf) c.in_ok-found.field-0 c.in_ok-found.ensures.answer c.in_default.is refl) (lacks_at (g.S.Shelf.files c.args.shelf.now) (g.S.Shelf.files c.find_in.new.shelf) c.args.slip.now c.in_ok-hundred.hundred (g.S.Shelf.shelf_faults c.find_in.new.shelf) (g.S.Shelf.shelf_faults c.find_in-2.new.shelf) c.in_ok-found-2.field-0 c.in_ok-found-2.ensures.answer c.in_default-2.is c.in_ok-found.ensures.files) (lacks_at (g.S.Shelf.files c.args.shelf.now) (g.S.Shelf.files c.find_in-2.new.shelf) c.args.slip.now c.in_ok-thousand.thousand (g.S.Shelf.shelf_faults c.find_in-2.new.shelf) (g.S.Shelf.shelf_faults c.find_in-3.new.shelf) c.in_ok-found-3.field-0 c.in_ok-found-3.ensures.answer c.in_default-3.is (c.in_ok-found-2.ensures.files ∙ c.in_ok-found.ensures.files)) c.in_ok-name.ensures
