use Rattle.std.proofs.Common.{ap, ◌∙◌, ◌++◌, List, ℕ, subst}
use Rattle.std.proofs.Math.Nat.{le_refl}
use Rattle.std.proofs.lemmas.Result.{err_from_is_err_and}
use Rattle.outer_world.specs.Shelves.{AreNamesOf}
use Rattle.shelf_check.specs.Merged.{IsFirstOf, IsFirstIn}
use Rattle.shelf_check.proofs.RefusalFacts.{refused_on}
use Rattle.shelf_check.proofs.ShelfFacts.{first_sorted}
use Rattle.shelf_check.proofs.merged.check_merged.Goals as goal

pub returns-in_err-read-clause-answer : goal.returns-in_err-read-clause-answer
returns-in_err-read-clause-answer g c =
    let p = err_from_is_err_and c.from_residual-in_err-read.result c.from_residual-in_err-read.ensures.1 in
    let l = c.in_ok-list.ensures.names in
    let F : List ℕ → Type 0 = λ f. AreNamesOf (g.S.Shelf.files c.args.shelf.now) f l.0 in
    rw (p.1, p.2)
    (refused_on (λ name f. IsFirstOf c.args.size (g.S.Shelf.files c.list.new.self) c.as_slice-2.result.now name f) (λ name f. IsFirstIn c.args.size (g.S.Shelf.files c.args.shelf.now) name f)
    (g.S.Shelf.shelf_faults c.list.new.self) (g.S.Shelf.shelf_faults c.check_entries.new.shelf) (g.S.Shelf.shelf_faults c.args.shelf.now) (g.S.Shelf.shelf_faults c.check_entries.new.shelf) c.in_ok-list.ensures.cause.later (le_refl (g.S.Shelf.shelf_faults c.check_entries.new.shelf))
    (first_sorted c.args.size (g.S.Shelf.files c.args.shelf.now) (g.S.Shelf.files c.list.new.self) l.0 c.as_slice.result.now c.in_ok-entries.entries.items c.sort_unstable.new.self.items c.as_slice-2.result.now
    c.in_ok-list.ensures.files (subst F c.merged_folder.ensures l.2) (c.as_slice.ensures.value ∙ l.1 ∙ ap (λ (x : List (List ℕ)). x ++ l.0) c.new-names.ensures.items) c.in_ok-entries.ensures c.sort_unstable.ensures.permutation c.sort_unstable.ensures.sorted c.as_slice-2.ensures.value)
    c.in_err-read.field-0.0 c.in_err-read.ensures.answer)
