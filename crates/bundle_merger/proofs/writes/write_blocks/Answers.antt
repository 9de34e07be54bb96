use Rattle.std.proofs.Common.{◌∙◌, ap, arith}
use Rattle.std.proofs.lemmas.Result.{err_from_is_err_and}
use Rattle.outer_world.specs.Shelves.{with_piece}
use Rattle.bundle_merger.specs.Containers.{blocks_of, bundle_text}
use Rattle.bundle_merger.proofs.WriteFacts.{stopped_commit}
use Rattle.bundle_merger.proofs.writes.write_blocks.Goals as goal

pub returns-in_err-commit-clause-stopped : goal.returns-in_err-commit-clause-stopped
returns-in_err-commit-clause-stopped g c =
    let p = err_from_is_err_and c.from_residual-in_err-commit.result c.from_residual-in_err-commit.ensures.1 in
    rw (p.1, p.2)
    (stopped_commit c.in_err-commit.field-0.0 (g.S.Shelf.files c.args.shelf.now) (g.S.Shelf.files c.stage_blocks.new.shelf) (g.S.Shelf.files c.commit.new.self)
    (g.S.Shelf.staged c.args.shelf.now) (g.S.Shelf.staged c.stage_blocks.new.shelf) (g.S.Shelf.staged c.commit.new.self) c.args.name.now (bundle_text c.args.kind.now (blocks_of c.args.blocks.now))
    (g.S.Shelf.shelf_faults c.args.shelf.now) (g.S.Shelf.shelf_faults c.stage_blocks.new.shelf) (g.S.Shelf.shelf_faults c.commit.new.self)
    (c.in_ok-stage_blocks.ensures.files ∙ c.unstage.ensures.files)
    (c.in_ok-stage_blocks.ensures.staged ∙ ap (λ s. with_piece s (bundle_text c.args.kind.now (blocks_of c.args.blocks.now))) c.unstage.ensures.staged)
    c.in_err-commit.ensures.refused (omega (arith, c.unstage.ensures.later, c.in_ok-stage_blocks.ensures.later)) c.in_err-commit.ensures.cause.failed)
