use Rattle.std.proofs.Common.{arith, ℕ, List, [], Option, Some, Ok, ap, subst, sym, ◌∙◌}
use Rattle.std.proofs.lemmas.Result.{err_from_is_err_and}
use Rattle.block_record.specs.declared.blocks.BlockRef.{BlockRef}
use Rattle.file_reader.specs.Reading.{FileState, HasReadOn}
use Rattle.one_block.specs.Heads.{IsKept}
use Rattle.shelf_check.specs.Steps.{FirstAnswers, next_record_place}
use Rattle.shelf_check.proofs.BundleFacts.{no_block, head_refused, first_refused, counts_on, reads_on, shorter, last_refused, bundle_whole}
use Rattle.shelf_check.proofs.bundles.check_bundle.Goals as goal

pub returns-in_err-block_type-clause-answer : goal.returns-in_err-block_type-clause-answer
returns-in_err-block_type-clause-answer g c =
    let p = err_from_is_err_and c.from_residual-in_err-block_type.result c.from_residual-in_err-block_type.ensures.1 in
    let on : HasReadOn (g.S.Shelf.files c.args.shelf.now) c.fill.new.self [] [] = c.in_ok-fill.ensures.read (λ e. cc e) [] [] (c.open-file.ensures.read (g.S.Shelf.files c.args.shelf.now)) in
    rw (p.1, p.2)
    (head_refused (g.S.Shelf.files c.args.shelf.now) c.fill.new.self on.more [] on.read c.in_ok-fill.ensures.stands c.args.size c.args.base c.args.name.now c.args.kept.now c.args.tip c.in_err-block_type.field-0.0
    (c.in_ok-fill.ensures.name ∙ ap (λ (r : FileState). r.name) c.open-file.ensures.state ∙ c.in_ok-name.ensures ∙ c.as_bytes.ensures) c.in_err-block_type.ensures)

pub loop-last-init : goal.loop-last-init
loop-last-init g c =
    let on : HasReadOn (g.S.Shelf.files c.args.shelf.now) c.fill.new.self [] [] = c.in_ok-fill.ensures.read (λ e. cc e) [] [] (c.open-file.ensures.read (g.S.Shelf.files c.args.shelf.now)) in
    record {
      read = no_block (g.S.Shelf.files c.args.shelf.now) c.args.size c.args.base c.args.name.now c.args.kept.now c.args.tip c.fill.new.self on.more c.block_type.inside.bytes.items on.read
          (c.in_ok-fill.ensures.name ∙ ap (λ (r : FileState). r.name) c.open-file.ensures.state ∙ c.in_ok-name.ensures ∙ c.as_bytes.ensures)
          (c.in_ok-block_type.ensures.0 ∙ ap (λ (l : List ℕ). let o : Option (List ℕ) = Some l in o) (sym c.block_type.view_is)) c.in_ok-fill.ensures.stands
          (subst (IsKept c.args.kept.now) (sym c.block_type.view_is) c.in_ok-block_type.ensures.1);
      files = c.in_ok-fill.ensures.files;
      staged = c.in_ok-fill.ensures.staged;
      later = c.in_ok-fill.ensures.cause.later;
    }

pub returns-in_err-next-clause-answer : goal.returns-in_err-next-clause-answer
returns-in_err-next-clause-answer g c =
    let p = err_from_is_err_and c.from_residual-in_err-next.result c.from_residual-in_err-next.ensures.1 in
    rw (p.1, p.2)
    (first_refused (g.S.Shelf.files c.args.shelf.now) c.args.size c.args.base c.args.name.now c.args.kept.now c.args.tip c.loop-last.file c.block_type.inside.bytes.items c.loop-last.last c.loop-last.blocks c.loop-last.invariant.read
    c.in_err-next.field-0.0 c.in_err-next.ensures)

pub overflow_add-blocks : goal.overflow_add-blocks
overflow_add-blocks g c =
    let A : Option BlockRef → Type 0 = λ o. FirstAnswers c.args.size c.args.base (next_record_place c.loop-last.file) c.loop-last.last c.loop-last.file.left (Ok o) in
    omega (
      arith,
      counts_on (g.S.Shelf.files c.args.shelf.now) c.args.size c.args.base c.args.name.now c.args.kept.now c.args.tip c.loop-last.file c.block_type.inside.bytes.items c.loop-last.last c.loop-last.blocks c.loop-last.invariant.read
          c.in-Some.next (subst A c.in-Some.is c.in_ok-next.ensures),
    )

pub loop-last-smaller : goal.loop-last-smaller
loop-last-smaller g c =
    let A : Option BlockRef → Type 0 = λ o. FirstAnswers c.args.size c.args.base (next_record_place c.loop-last.file) c.loop-last.last c.loop-last.file.left (Ok o) in
    shorter (g.S.Shelf.files c.args.shelf.now) c.args.size c.args.base c.args.name.now c.args.kept.now c.args.tip c.loop-last.file c.block_type.inside.bytes.items c.loop-last.last c.loop-last.blocks c.loop-last.invariant.read
    c.in-Some.next (subst A c.in-Some.is c.in_ok-next.ensures) (g.S.Shelf.files c.loop-last.shelf) c.advance.new.self c.fill-in-Some.new.self c.loop-last.invariant.files
    c.advance.ensures.given c.advance.ensures.later c.advance.ensures.small (c.in_ok-fill-2.ensures.read (λ e. cc e))

pub loop-last-preserved : goal.loop-last-preserved
loop-last-preserved g c =
    let A : Option BlockRef → Type 0 = λ o. FirstAnswers c.args.size c.args.base (next_record_place c.loop-last.file) c.loop-last.last c.loop-last.file.left (Ok o) in
    record {
      read = reads_on (g.S.Shelf.files c.args.shelf.now) c.args.size c.args.base c.args.name.now c.args.kept.now c.args.tip c.loop-last.file c.block_type.inside.bytes.items c.loop-last.last c.loop-last.blocks c.loop-last.invariant.read
          c.in-Some.next (subst A c.in-Some.is c.in_ok-next.ensures) (g.S.Shelf.files c.loop-last.shelf) c.advance.new.self c.fill-in-Some.new.self c.loop-last.invariant.files
          c.advance.ensures.given c.advance.ensures.state (c.in_ok-fill-2.ensures.read (λ e. cc e)) c.in_ok-fill-2.ensures.name c.in_ok-fill-2.ensures.stands;
      files = c.in_ok-fill-2.ensures.files ∙ c.loop-last.invariant.files;
      staged = c.in_ok-fill-2.ensures.staged ∙ c.loop-last.invariant.staged;
      later = omega (arith, c.in_ok-fill-2.ensures.cause.later, c.loop-last.invariant.later);
    }

pub returns-in_err-tip-clause-answer : goal.returns-in_err-tip-clause-answer
returns-in_err-tip-clause-answer g c =
    let p = err_from_is_err_and c.from_residual-in_err-tip.result c.from_residual-in_err-tip.ensures.1 in
    rw (p.1, p.2)
    (last_refused (g.S.Shelf.files c.args.shelf.now) c.args.size c.args.base c.args.name.now c.args.kept.now c.args.tip c.loop-last.file c.block_type.inside.bytes.items c.loop-last.last c.loop-last.blocks c.loop-last.invariant.read
    c.in_ok-next.field-0 c.in_default.not-Some c.in_ok-next.ensures c.in_err-tip.field-0.0 c.in_err-tip.ensures)

pub returns-clause-answer : goal.returns-clause-answer
returns-clause-answer g c =
    rw (sym c.block_type.view_is)
    (bundle_whole (g.S.Shelf.files c.args.shelf.now) c.args.size c.args.base c.args.name.now c.args.kept.now c.args.tip c.loop-last.file c.block_type.inside.bytes.items c.loop-last.last c.loop-last.blocks c.loop-last.invariant.read
    c.in_ok-next.field-0 c.in_default.not-Some c.in_ok-next.ensures c.in_ok-tip.tip c.in_ok-tip.ensures)
