use Rattle.std.proofs.Common.{◌++◌, ℕ, List, ap, subst, ◌∙◌}
use Rattle.std.proofs.Math.Nat.{le_refl}
use Rattle.std.proofs.lemmas.Result.{err_from_is_err_and}
use Rattle.outer_world.specs.Shelves.{AreNamesOf}
use Rattle.shelf_load.specs.Singling.{IsGrown, IsUnnumberedIn}
use Rattle.shelf_load.proofs.LoadedFacts.{shelf_refused}
use Rattle.shelf_load.proofs.ListedFacts.{names_refused}
use Rattle.shelf_load.proofs.singles.add_folder.Goals as goal

pub returns-in_err-list-clause-answer : goal.returns-in_err-list-clause-answer
returns-in_err-list-clause-answer g c =
    let p = err_from_is_err_and c.from_residual.result c.from_residual.ensures.1 in
    rw (p.1, p.2)
    (λ w. shelf_refused (IsUnnumberedIn c.args.folder (g.S.Shelf.files c.args.shelf.now)) (g.S.Shelf.files c.args.shelf.now) w (g.S.Shelf.shelf_faults c.args.shelf.now) (g.S.Shelf.shelf_faults c.args.shelf.now) (g.S.Shelf.shelf_faults c.list.new.self)
    c.in_err-list.field-0.0 (le_refl (g.S.Shelf.shelf_faults c.args.shelf.now)) c.in_err-list.ensures.cause.failed)

pub returns-in_err-add_names-clause-answer : goal.returns-in_err-add_names-clause-answer
returns-in_err-add_names-clause-answer g c =
    let p = err_from_is_err_and c.from_residual-in_err-add_names.result c.from_residual-in_err-add_names.ensures.1 in
    let n = c.in_ok-list.ensures.names in
    let F : List ℕ → Type 0 = λ f. AreNamesOf (g.S.Shelf.files c.args.shelf.now) f n.0 in
    rw (p.1, p.2)
    (λ w. names_refused c.args.folder (g.S.Shelf.files c.args.shelf.now) n.0 c.as_slice.result.now (g.S.Shelf.shelf_faults c.args.shelf.now) (g.S.Shelf.shelf_faults c.list.new.self) w c.in_err-add_names.field-0.0
    (subst F c.folder_text.ensures n.2) (c.as_slice.ensures.value ∙ n.1 ∙ ap (λ (x : List (List ℕ)). x ++ n.0) c.new-names.ensures.items) c.in_err-add_names.ensures)

pub returns-clause-answer : goal.returns-clause-answer
returns-clause-answer g c =
    let n = c.in_ok-list.ensures.names in
    let F : List ℕ → Type 0 = λ f. AreNamesOf (g.S.Shelf.files c.args.shelf.now) f n.0 in
    let G : List (List ℕ) → Type 0 = λ ns. IsGrown ns c.args.entries.now.items c.add_names.new.entries.items in
    record {
      names = n.0;
      listed = subst F c.folder_text.ensures n.2;
      grown = subst G (c.as_slice.ensures.value ∙ n.1 ∙ ap (λ (x : List (List ℕ)). x ++ n.0) c.new-names.ensures.items) c.in_ok-add_names.ensures;
    }
