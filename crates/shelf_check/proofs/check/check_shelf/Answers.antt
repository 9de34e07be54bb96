use Rattle.std.proofs.Common.{arith, ◌∙◌, ◌≡◌, ◌≤◌, Ok, Option, subst}
use Rattle.std.proofs.Math.Nat.{le_refl}
use Rattle.std.proofs.lemmas.Result.{err_from_is_err_and}
use Rattle.outer_world.specs.Files.{Files}
use Rattle.one_block.specs.declared.forms.Folder.TheVariants.{One, Forked}
use Rattle.shelf_check.specs.Folders.{IsFirstIn}
use Rattle.shelf_check.specs.Merged.{IsFolderRead}
use Rattle.shelf_check.specs.Merged.{IsFirstIn as IsFirstInMerged}
use Rattle.shelf_check.specs.Shelf.{IsFirstFault}
use Rattle.shelf_check.proofs.RefusalFacts.{refused_on}
use Rattle.shelf_check.proofs.ShelfFacts.{layout_refused, in_merged, in_one, in_forked, whole_good}
use Rattle.shelf_check.proofs.WholeFacts.{good_answer}
use Rattle.shelf_check.proofs.NamedFacts.{known_answer}
use Rattle.shelf_check.proofs.check.check_shelf.Goals as goal

pub returns-in_err-size-clause-answer : goal.returns-in_err-size-clause-answer
returns-in_err-size-clause-answer g c =
    let p = err_from_is_err_and c.from_residual.result c.from_residual.ensures.1 in
    rw (p.1, p.2) (layout_refused (g.S.Shelf.files c.args.shelf.now) (g.S.Shelf.shelf_faults c.args.shelf.now) (g.S.Shelf.shelf_faults c.read_layout.new.shelf) c.in_err-size.field-0.0 c.in_err-size.ensures.answers)

pub returns-in_err-bundles-clause-answer : goal.returns-in_err-bundles-clause-answer
returns-in_err-bundles-clause-answer g c =
    let p = err_from_is_err_and c.from_residual-in_err-bundles.result c.from_residual-in_err-bundles.ensures.1 in
    rw (p.1, p.2)
    (refused_on (λ name f. IsFirstInMerged c.in_ok-size.size (g.S.Shelf.files c.read_layout.new.shelf) name f) (λ name f. IsFirstFault (g.S.Shelf.files c.args.shelf.now) name f)
    (g.S.Shelf.shelf_faults c.read_layout.new.shelf) (g.S.Shelf.shelf_faults c.check_merged.new.shelf) (g.S.Shelf.shelf_faults c.args.shelf.now) (g.S.Shelf.shelf_faults c.check_merged.new.shelf) c.in_ok-size.ensures.later (le_refl (g.S.Shelf.shelf_faults c.check_merged.new.shelf))
    (in_merged c.in_ok-size.size (g.S.Shelf.files c.args.shelf.now) (g.S.Shelf.files c.read_layout.new.shelf) c.in_ok-size.ensures.answers c.in_ok-size.ensures.files)
    c.in_err-bundles.field-0.0 c.in_err-bundles.ensures.answer)

pub returns-in_err-one-clause-answer : goal.returns-in_err-one-clause-answer
returns-in_err-one-clause-answer g c =
    let p = err_from_is_err_and c.from_residual-in_err-one.result c.from_residual-in_err-one.ensures.1 in
    let before : g.S.Shelf.shelf_faults c.args.shelf.now ≤ g.S.Shelf.shelf_faults c.check_merged.new.shelf = omega (arith, c.in_ok-size.ensures.later, c.in_ok-bundles.ensures.later) in
    let P : Option Files → Type 0 = λ fs. IsFolderRead c.in_ok-size.size fs c.in_ok-bundles.bundles c.in_ok-bundles.merged in
    rw (p.1, p.2)
    (refused_on (λ name f. IsFirstIn One (g.S.Shelf.files c.check_merged.new.shelf) c.in_ok-bundles.merged.kept name f) (λ name f. IsFirstFault (g.S.Shelf.files c.args.shelf.now) name f)
    (g.S.Shelf.shelf_faults c.check_merged.new.shelf) (g.S.Shelf.shelf_faults c.check_folder.new.shelf) (g.S.Shelf.shelf_faults c.args.shelf.now) (g.S.Shelf.shelf_faults c.check_folder.new.shelf) before (le_refl (g.S.Shelf.shelf_faults c.check_folder.new.shelf))
    (in_one c.in_ok-size.size (g.S.Shelf.files c.args.shelf.now) (g.S.Shelf.files c.check_merged.new.shelf) c.in_ok-bundles.bundles c.in_ok-bundles.merged c.in_ok-size.ensures.answers
    (c.in_ok-bundles.ensures.files ∙ c.in_ok-size.ensures.files) (subst P c.in_ok-size.ensures.files c.in_ok-bundles.ensures.answer))
    c.in_err-one.field-0.0 c.in_err-one.ensures.answer)

pub returns-in_err-forked-clause-answer : goal.returns-in_err-forked-clause-answer
returns-in_err-forked-clause-answer g c =
    let p = err_from_is_err_and c.from_residual-in_err-forked.result c.from_residual-in_err-forked.ensures.1 in
    let before : g.S.Shelf.shelf_faults c.args.shelf.now ≤ g.S.Shelf.shelf_faults c.check_folder.new.shelf = omega (arith, c.in_ok-size.ensures.later, c.in_ok-bundles.ensures.later, c.in_ok-one.ensures.later) in
    let P : Option Files → Type 0 = λ fs. IsFolderRead c.in_ok-size.size fs c.in_ok-bundles.bundles c.in_ok-bundles.merged in
    let same : g.S.Shelf.files c.check_merged.new.shelf ≡ g.S.Shelf.files c.args.shelf.now = c.in_ok-bundles.ensures.files ∙ c.in_ok-size.ensures.files in
    rw (p.1, p.2)
    (refused_on (λ name f. IsFirstIn Forked (g.S.Shelf.files c.check_folder.new.shelf) c.in_ok-one.one.kept name f) (λ name f. IsFirstFault (g.S.Shelf.files c.args.shelf.now) name f)
    (g.S.Shelf.shelf_faults c.check_folder.new.shelf) (g.S.Shelf.shelf_faults c.check_folder-2.new.shelf) (g.S.Shelf.shelf_faults c.args.shelf.now) (g.S.Shelf.shelf_faults c.check_folder-2.new.shelf) before (le_refl (g.S.Shelf.shelf_faults c.check_folder-2.new.shelf))
    (in_forked c.in_ok-size.size (g.S.Shelf.files c.args.shelf.now) (g.S.Shelf.files c.check_merged.new.shelf) (g.S.Shelf.files c.check_folder.new.shelf) c.in_ok-bundles.bundles c.in_ok-bundles.merged c.in_ok-one.one c.in_ok-size.ensures.answers
    same (c.in_ok-one.ensures.files ∙ same) (subst P c.in_ok-size.ensures.files c.in_ok-bundles.ensures.answer) c.in_ok-one.ensures.answer)
    c.in_err-forked.field-0.0 c.in_err-forked.ensures.answer)

pub returns-clause-answer : goal.returns-clause-answer
returns-clause-answer g c =
    let P : Option Files → Type 0 = λ fs. IsFolderRead c.in_ok-size.size fs c.in_ok-bundles.bundles c.in_ok-bundles.merged in
    let same : g.S.Shelf.files c.check_merged.new.shelf ≡ g.S.Shelf.files c.args.shelf.now = c.in_ok-bundles.ensures.files ∙ c.in_ok-size.ensures.files in
    whole_good c.in_ok-size.size (g.S.Shelf.files c.args.shelf.now) (g.S.Shelf.files c.check_merged.new.shelf) (g.S.Shelf.files c.check_folder.new.shelf) c.in_ok-bundles.bundles c.in_ok-bundles.merged c.in_ok-one.one c.in_ok-forked.forked
    c.in_ok-size.ensures.answers same (c.in_ok-one.ensures.files ∙ same) (subst P c.in_ok-size.ensures.files c.in_ok-bundles.ensures.answer) c.in_ok-one.ensures.answer c.in_ok-forked.ensures.answer

pub returns-in_err-size-clause-good : goal.returns-in_err-size-clause-good
returns-in_err-size-clause-good g c =
    good_answer (g.S.Shelf.files c.args.shelf.now) (g.S.Shelf.shelf_faults c.args.shelf.now) (g.S.Shelf.shelf_faults c.read_layout.new.shelf) c.from_residual.result
    (returns-in_err-size-clause-answer g c)

pub returns-in_err-bundles-clause-good : goal.returns-in_err-bundles-clause-good
returns-in_err-bundles-clause-good g c =
    good_answer (g.S.Shelf.files c.args.shelf.now) (g.S.Shelf.shelf_faults c.args.shelf.now) (g.S.Shelf.shelf_faults c.check_merged.new.shelf) c.from_residual-in_err-bundles.result
    (returns-in_err-bundles-clause-answer g c)

pub returns-in_err-one-clause-good : goal.returns-in_err-one-clause-good
returns-in_err-one-clause-good g c =
    good_answer (g.S.Shelf.files c.args.shelf.now) (g.S.Shelf.shelf_faults c.args.shelf.now) (g.S.Shelf.shelf_faults c.check_folder.new.shelf) c.from_residual-in_err-one.result
    (returns-in_err-one-clause-answer g c)

pub returns-in_err-forked-clause-good : goal.returns-in_err-forked-clause-good
returns-in_err-forked-clause-good g c =
    good_answer (g.S.Shelf.files c.args.shelf.now) (g.S.Shelf.shelf_faults c.args.shelf.now) (g.S.Shelf.shelf_faults c.check_folder-2.new.shelf) c.from_residual-in_err-forked.result
    (returns-in_err-forked-clause-answer g c)

pub returns-clause-good : goal.returns-clause-good
returns-clause-good g c =
    good_answer (g.S.Shelf.files c.args.shelf.now) (g.S.Shelf.shelf_faults c.args.shelf.now) (g.S.Shelf.shelf_faults c.check_folder-2.new.shelf)
    (Ok (record { bundles = c.in_ok-bundles.bundles; blocks = c.in_ok-bundles.merged.blocks; one = c.in_ok-one.one.files; forked = c.in_ok-forked.forked.files })) (returns-clause-answer g c)

pub returns-in_err-size-clause-named : goal.returns-in_err-size-clause-named
returns-in_err-size-clause-named g c =
    known_answer (g.S.Shelf.files c.args.shelf.now) (g.S.Shelf.shelf_faults c.args.shelf.now) (g.S.Shelf.shelf_faults c.read_layout.new.shelf) c.from_residual.result
    (returns-in_err-size-clause-answer g c)

pub returns-in_err-bundles-clause-named : goal.returns-in_err-bundles-clause-named
returns-in_err-bundles-clause-named g c =
    known_answer (g.S.Shelf.files c.args.shelf.now) (g.S.Shelf.shelf_faults c.args.shelf.now) (g.S.Shelf.shelf_faults c.check_merged.new.shelf) c.from_residual-in_err-bundles.result
    (returns-in_err-bundles-clause-answer g c)

pub returns-in_err-one-clause-named : goal.returns-in_err-one-clause-named
returns-in_err-one-clause-named g c =
    known_answer (g.S.Shelf.files c.args.shelf.now) (g.S.Shelf.shelf_faults c.args.shelf.now) (g.S.Shelf.shelf_faults c.check_folder.new.shelf) c.from_residual-in_err-one.result
    (returns-in_err-one-clause-answer g c)

pub returns-in_err-forked-clause-named : goal.returns-in_err-forked-clause-named
returns-in_err-forked-clause-named g c =
    known_answer (g.S.Shelf.files c.args.shelf.now) (g.S.Shelf.shelf_faults c.args.shelf.now) (g.S.Shelf.shelf_faults c.check_folder-2.new.shelf) c.from_residual-in_err-forked.result
    (returns-in_err-forked-clause-answer g c)
