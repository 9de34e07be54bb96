use Rattle.std.proofs.lemmas.Result.{err_from_is_err_and}
use Rattle.shelf_load.proofs.ListedFacts.{both_listed, first_refused, second_refused}
use Rattle.shelf_load.proofs.singles.list_singles.Goals as goal

pub returns-in_err-add_folder-clause-answer : goal.returns-in_err-add_folder-clause-answer
returns-in_err-add_folder-clause-answer g c =
    let p = err_from_is_err_and c.from_residual.result c.from_residual.ensures.1 in
    rw (p.1, p.2)
    (λ w. first_refused (g.S.Shelf.files c.args.shelf.now) w (g.S.Shelf.shelf_faults c.args.shelf.now) (g.S.Shelf.shelf_faults c.add_folder.new.shelf) c.in_err-add_folder.field-0.0 (c.in_err-add_folder.ensures.answer w))

pub returns-in_err-add_folder-2-clause-answer : goal.returns-in_err-add_folder-2-clause-answer
returns-in_err-add_folder-2-clause-answer g c =
    let p = err_from_is_err_and c.from_residual-in_err-add_folder-2.result c.from_residual-in_err-add_folder-2.ensures.1 in
    rw (p.1, p.2)
    (λ w. second_refused (g.S.Shelf.files c.args.shelf.now) (g.S.Shelf.files c.add_folder.new.shelf) c.new-entries.result.items c.add_folder.new.entries.items w (g.S.Shelf.shelf_faults c.args.shelf.now) (g.S.Shelf.shelf_faults c.add_folder.new.shelf) (g.S.Shelf.shelf_faults c.add_folder-2.new.shelf) c.in_err-add_folder-2.field-0.0
    c.in_ok-add_folder.ensures.files c.in_ok-add_folder.ensures.later c.in_ok-add_folder.ensures.answer (c.in_err-add_folder-2.ensures.answer w))

pub returns-clause-answer : goal.returns-clause-answer
returns-clause-answer g c =
    both_listed (g.S.Shelf.files c.args.shelf.now) (g.S.Shelf.files c.add_folder.new.shelf) c.new-entries.result.items c.add_folder.new.entries.items c.add_folder-2.new.entries.items c.sort_unstable.new.self.items
    c.new-entries.ensures.items c.in_ok-add_folder.ensures.files c.in_ok-add_folder.ensures.answer c.in_ok-add_folder-2.ensures.answer c.sort_unstable.ensures.permutation c.sort_unstable.ensures.sorted
