use Rattle.std.proofs.Common.{◌∙◌, ap}
use Rattle.outer_world.specs.Shelves.{with_piece}
use Rattle.outer_world.proofs.ShelfFacts.{front_refused, on_err_of, others_committed, others_refused}
use Rattle.outer_world.proofs.files.write_file.Goals as goal

pub returns-in_err-commit-clause-others : goal.returns-in_err-commit-clause-others
returns-in_err-commit-clause-others g c =
    others_refused c.in_err-commit.field-0.0 (g.S.Shelf.files c.args.shelf.now) (g.S.Shelf.files c.stage.new.self) (g.S.Shelf.files c.commit.new.self) (g.S.Shelf.staged c.args.shelf.now) (g.S.Shelf.staged c.stage.new.self) (g.S.Shelf.staged c.commit.new.self) c.args.name.now c.args.text.now
    (c.in_ok-stage.ensures.files ∙ c.unstage.ensures.files) (c.in_ok-stage.ensures.whole ∙ ap (λ s. with_piece s c.args.text.now) c.unstage.ensures.staged) c.in_err-commit.ensures.refused

pub returns-in_err-commit-clause-front : goal.returns-in_err-commit-clause-front
returns-in_err-commit-clause-front g c =
    on_err_of c.from_residual-in_err-commit.result
    (front_refused c.in_err-commit.field-0.0 (g.S.Shelf.files c.args.shelf.now) (g.S.Shelf.files c.stage.new.self) (g.S.Shelf.files c.commit.new.self) (g.S.Shelf.staged c.args.shelf.now) (g.S.Shelf.staged c.stage.new.self) (g.S.Shelf.staged c.commit.new.self) c.args.name.now c.args.text.now
    (c.in_ok-stage.ensures.whole ∙ ap (λ s. with_piece s c.args.text.now) c.unstage.ensures.staged) c.in_err-commit.ensures.refused)

pub returns-clause-others : goal.returns-clause-others
returns-clause-others g c =
    others_committed (g.S.Shelf.files c.args.shelf.now) (g.S.Shelf.files c.stage.new.self) (g.S.Shelf.files c.commit.new.self) (g.S.Shelf.staged c.args.shelf.now) (g.S.Shelf.staged c.stage.new.self) c.args.name.now c.args.text.now
    (c.in_ok-stage.ensures.files ∙ c.unstage.ensures.files) (c.in_ok-stage.ensures.whole ∙ ap (λ s. with_piece s c.args.text.now) c.unstage.ensures.staged) c.in_ok-commit.ensures.put
