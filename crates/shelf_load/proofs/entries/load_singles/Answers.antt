use Rattle.std.proofs.Common.{List, Option, subst, sym}
use Rattle.std.specs.List.{AllByRecursion}
use Rattle.std.proofs.lemmas.Result.{err_from_is_err_and}
use Rattle.block_relay.specs.Chronicle.{world_told}
use Rattle.outer_world.specs.Files.{Files}
use Rattle.shelf_load.specs.Loading.{TakenFile, IsPart}
use Rattle.shelf_load.specs.Taking.{stage}
use Rattle.shelf_load.proofs.SingleFacts.{entries_here, folders_loaded, folders_refused, unlisted}
use Rattle.shelf_load.proofs.entries.load_singles.Goals as goal

pub returns-in_err-entries-clause-answer : goal.returns-in_err-entries-clause-answer
returns-in_err-entries-clause-answer g c =
    let p = err_from_is_err_and c.from_residual.result c.from_residual.ensures.1 in
    rw (p.1, p.2)
    (λ w older l parts. unlisted (g.S.Shelf.files c.args.shelf.now) w older (g.S.Shelf.shelf_faults c.args.shelf.now) (g.S.Shelf.shelf_faults c.list_singles.new.shelf) c.in_err-entries.field-0.0 (c.in_err-entries.ensures.answer w))

pub returns-in_err-load_entries-clause-answer : goal.returns-in_err-load_entries-clause-answer
returns-in_err-load_entries-clause-answer g c =
    let p = err_from_is_err_and c.from_residual-in_err-load_entries.result c.from_residual-in_err-load_entries.ensures.1 in
    let files = g.S.Shelf.files c.args.shelf.now in
    let P : List TakenFile → Option Files → Type 0 = λ older fs. AllByRecursion (IsPart fs) older in
    let new = stage (world_told c.load_entries.new.relay) c.load_entries.new.left in
    rw (p.1, p.2)
    (λ w older l parts. folders_refused files (g.S.Shelf.files c.list_singles.new.shelf) c.in_ok-entries.entries.items c.as_slice.result.now w older new c.in_ok-entries.ensures.answer c.as_slice.ensures.value c.in_ok-entries.ensures.files
    (g.S.Shelf.shelf_faults c.args.shelf.now) (g.S.Shelf.shelf_faults c.list_singles.new.shelf) (g.S.Shelf.shelf_faults c.load_entries.new.shelf) c.in_err-load_entries.field-0.0 c.in_ok-entries.ensures.later
    (c.in_err-load_entries.ensures.answer 0 w older
    (entries_here files (g.S.Shelf.files c.list_singles.new.shelf) c.in_ok-entries.entries.items c.as_slice.result.now w older new c.in_ok-entries.ensures.answer c.as_slice.ensures.value c.in_ok-entries.ensures.files)
    l (subst (P older) (sym c.in_ok-entries.ensures.files) parts)))

pub returns-clause-answer : goal.returns-clause-answer
returns-clause-answer g c =
    let files = g.S.Shelf.files c.args.shelf.now in
    let P : List TakenFile → Option Files → Type 0 = λ older fs. AllByRecursion (IsPart fs) older in
    let new = stage (world_told c.load_entries.new.relay) c.load_entries.new.left in
    λ w older l parts. folders_loaded files (g.S.Shelf.files c.list_singles.new.shelf) c.in_ok-entries.entries.items c.as_slice.result.now w older new c.in_ok-entries.ensures.answer c.as_slice.ensures.value c.in_ok-entries.ensures.files
    (c.in_ok-load_entries.ensures.answer 0 w older
    (entries_here files (g.S.Shelf.files c.list_singles.new.shelf) c.in_ok-entries.entries.items c.as_slice.result.now w older new c.in_ok-entries.ensures.answer c.as_slice.ensures.value c.in_ok-entries.ensures.files)
    l (subst (P older) (sym c.in_ok-entries.ensures.files) parts))
