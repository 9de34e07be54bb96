use Rattle.std.proofs.Common.{List, ℕ, sym, subst}
use Rattle.file_reader.specs.Reading.{HasText}
use Rattle.std.proofs.Math.Nat.{le_refl}
use Rattle.std.proofs.lemmas.Result.{err_from_is_err_and}
use Rattle.block_relay.specs.Chronicle.{world_told}
use Rattle.shelf_load.specs.Taking.{stage}
use Rattle.shelf_load.proofs.LoadedFacts.{shelf_refused}
use Rattle.shelf_load.proofs.SingleFacts.{IsBadNamed, text_refused, single_loaded, single_refused}
use Rattle.shelf_load.proofs.singles.load_single.Goals as goal

pub returns-in_err-text-clause-answer : goal.returns-in_err-text-clause-answer
returns-in_err-text-clause-answer g c =
    let p = err_from_is_err_and c.from_residual-in_err-text.result c.from_residual-in_err-text.ensures.1 in
    rw (p.1, p.2)
    (λ w older l parts. shelf_refused (IsBadNamed (g.S.Shelf.files c.args.shelf.now) c.args.name.now) (g.S.Shelf.files c.args.shelf.now) w (g.S.Shelf.shelf_faults c.args.shelf.now) (g.S.Shelf.shelf_faults c.args.shelf.now) (g.S.Shelf.shelf_faults c.read_text.new.shelf)
    c.in_err-text.field-0.0 (le_refl (g.S.Shelf.shelf_faults c.args.shelf.now)) c.in_err-text.ensures.cause.failed)

pub returns-in_err-take_single-in-Ok-clause-answer : goal.returns-in_err-take_single-in-Ok-clause-answer
returns-in_err-take_single-in-Ok-clause-answer g c =
    let p = err_from_is_err_and c.from_residual-in_err-take_single-in-Ok.result c.from_residual-in_err-take_single-in-Ok.ensures.1 in
    rw (p.1, p.2)
    (λ w older l parts. single_refused (g.S.Shelf.files c.args.shelf.now) w older (world_told c.args.relay.now) c.args.left.now c.args.name.now c.as_slice.result.now c.in_ok-kept.kept c.in-Ok.block_type c.in-Ok.block l parts
    (subst (λ (t : List ℕ). HasText (g.S.Shelf.files c.args.shelf.now) c.args.name.now t) (sym c.as_slice.ensures.value) c.in_ok-text.ensures.text)
    (rw c.folder_of-folder.ensures at c.in-Ok.ensures)
    (g.S.Shelf.shelf_faults c.args.shelf.now) (g.S.Shelf.shelf_faults c.read_text.new.shelf) c.in_err-take_single-in-Ok.field-0.0
    (rw c.folder_of-folder.ensures at c.in_err-take_single-in-Ok.ensures))

pub returns-in-Ok-clause-answer : goal.returns-in-Ok-clause-answer
returns-in-Ok-clause-answer g c =
    λ w older l parts. single_loaded (g.S.Shelf.files c.args.shelf.now) w older (world_told c.args.relay.now) c.args.left.now c.args.name.now c.as_slice.result.now c.in_ok-kept.kept c.in-Ok.block_type c.in-Ok.block l parts
    (subst (λ (t : List ℕ). HasText (g.S.Shelf.files c.args.shelf.now) c.args.name.now t) (sym c.as_slice.ensures.value) c.in_ok-text.ensures.text)
    (rw c.folder_of-folder.ensures at c.in-Ok.ensures)
    (stage (world_told c.take_single.new.relay) c.take_single.new.left)
    (rw c.folder_of-folder.ensures at c.in_ok-take_single-in-Ok.ensures)

pub returns-clause-answer : goal.returns-clause-answer
returns-clause-answer g c =
    λ w older l parts. text_refused (g.S.Shelf.files c.args.shelf.now) w (g.S.Shelf.shelf_faults c.args.shelf.now) (g.S.Shelf.shelf_faults c.read_text.new.shelf) older (stage (world_told c.args.relay.now) c.args.left.now)
    c.args.name.now c.as_slice.result.now c.in_ok-kept.kept l parts
    (subst (λ (t : List ℕ). HasText (g.S.Shelf.files c.args.shelf.now) c.args.name.now t) (sym c.as_slice.ensures.value) c.in_ok-text.ensures.text)
    c.in_ok-kept.ensures c.in-Err.fault c.with_name.result c.with_name.ensures
    (rw c.folder_of-folder.ensures at c.in-Err.ensures)
