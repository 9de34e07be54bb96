use Rattle.std.proofs.Common.{arith, [], Option, Ok, ap, subst, ◌∙◌}
use Rattle.std.proofs.Math.Nat.{le_refl}
use Rattle.std.proofs.lemmas.Result.{err_from_is_err_and}
use Rattle.block_record.specs.declared.blocks.Block.{Block}
use Rattle.block_relay.specs.Chronicle.{world_told}
use Rattle.file_reader.specs.Reading.{FileState, HasReadOn}
use Rattle.shelf_load.specs.Merging.{BlockAnswers}
use Rattle.shelf_load.specs.Taking.{stage}
use Rattle.shelf_load.proofs.LoadedFacts.{shelf_refused}
use Rattle.shelf_load.proofs.ReadingFacts.{IsBadNamed, head_answers, no_block, block_refused, not_taken, reads_on, shorter, end_refused, file_whole}
use Rattle.shelf_load.proofs.merged.load_bundle.Goals as goal

pub returns-in_err-fill-clause-answer : goal.returns-in_err-fill-clause-answer
returns-in_err-fill-clause-answer g c =
    let p = err_from_is_err_and c.from_residual-in_err-fill.result c.from_residual-in_err-fill.ensures.1 in
    rw (p.1, p.2)
    (λ w older l parts. shelf_refused (IsBadNamed (g.S.Shelf.files c.args.shelf.now) c.args.name.now) (g.S.Shelf.files c.args.shelf.now) w (g.S.Shelf.shelf_faults c.args.shelf.now) (g.S.Shelf.shelf_faults c.args.shelf.now) (g.S.Shelf.shelf_faults c.fill.new.shelf)
    c.in_err-fill.field-0.0 (le_refl (g.S.Shelf.shelf_faults c.args.shelf.now)) c.in_err-fill.ensures.cause.failed)

pub returns-in_err-greet-clause-answer : goal.returns-in_err-greet-clause-answer
returns-in_err-greet-clause-answer g c =
    let p = err_from_is_err_and c.from_residual-in_err-greet.result c.from_residual-in_err-greet.ensures.1 in
    let on : HasReadOn (g.S.Shelf.files c.args.shelf.now) c.fill.new.self [] [] = c.in_ok-fill.ensures.read (λ e. cc e) [] [] (c.open-file.ensures.read (g.S.Shelf.files c.args.shelf.now)) in
    rw (p.1, p.2)
    (λ w older l parts. head_answers (g.S.Shelf.files c.args.shelf.now) c.fill.new.self on.more [] on.read c.in_ok-fill.ensures.stands c.args.name.now w older
    (stage (world_told c.args.relay.now) c.args.left.now) (stage (world_told c.greet.new.relay) c.args.left.now) (g.S.Shelf.shelf_faults c.args.shelf.now) (g.S.Shelf.shelf_faults c.fill.new.shelf) c.in_err-greet.field-0.0
    (c.in_ok-fill.ensures.name ∙ ap (λ (r : FileState). r.name) c.open-file.ensures.state ∙ c.in_ok-name.ensures ∙ c.as_bytes.ensures) l parts c.in_err-greet.ensures)

pub loop-file-init : goal.loop-file-init
loop-file-init g c =
    let on : HasReadOn (g.S.Shelf.files c.args.shelf.now) c.fill.new.self [] [] = c.in_ok-fill.ensures.read (λ e. cc e) [] [] (c.open-file.ensures.read (g.S.Shelf.files c.args.shelf.now)) in
    record {
      read = no_block (g.S.Shelf.files c.args.shelf.now) c.args.name.now (world_told c.args.relay.now) (world_told c.greet.new.relay) c.args.left.now c.fill.new.self on.more on.read
          (c.in_ok-fill.ensures.name ∙ ap (λ (r : FileState). r.name) c.open-file.ensures.state ∙ c.in_ok-name.ensures ∙ c.as_bytes.ensures) c.in_ok-fill.ensures.stands c.in_ok-greet.ensures;
      files = c.in_ok-fill.ensures.files;
      staged = c.in_ok-fill.ensures.staged;
      later = c.in_ok-fill.ensures.cause.later;
    }

pub returns-in_err-block-clause-answer : goal.returns-in_err-block-clause-answer
returns-in_err-block-clause-answer g c =
    let p = err_from_is_err_and c.from_residual-in_err-block.result c.from_residual-in_err-block.ensures.1 in
    rw (p.1, p.2)
    (λ w older l parts. block_refused (g.S.Shelf.files c.args.shelf.now) c.args.name.now (stage (world_told c.args.relay.now) c.args.left.now) (stage (world_told c.loop-file.relay) c.loop-file.left) c.loop-file.file c.loop-file.some c.loop-file.invariant.read
    w older (stage (world_told c.loop-file.relay) c.loop-file.left) (g.S.Shelf.shelf_faults c.args.shelf.now) (g.S.Shelf.shelf_faults c.loop-file.shelf) c.in_err-block.field-0.0 c.in_err-block.ensures)

pub returns-in_err-take_block-clause-answer : goal.returns-in_err-take_block-clause-answer
returns-in_err-take_block-clause-answer g c =
    let p = err_from_is_err_and c.from_residual-in_err-take_block.result c.from_residual-in_err-take_block.ensures.1 in
    let A : Option Block → Type 0 = λ o. BlockAnswers c.loop-file.file c.loop-file.file.left (Ok o) in
    rw (p.1, p.2)
    (λ w older l parts. not_taken (g.S.Shelf.files c.args.shelf.now) c.args.name.now (stage (world_told c.args.relay.now) c.args.left.now) (stage (world_told c.loop-file.relay) c.loop-file.left) c.loop-file.file c.loop-file.some c.loop-file.invariant.read
    c.in-Some.block (subst A c.in-Some.is c.in_ok-block.ensures) w older (stage (world_told c.take_block.new.relay) c.take_block.new.left) (g.S.Shelf.shelf_faults c.args.shelf.now) (g.S.Shelf.shelf_faults c.loop-file.shelf) c.in_err-take_block.field-0.0 l parts c.in_err-take_block.ensures)

pub returns-in_err-fill-2-clause-answer : goal.returns-in_err-fill-2-clause-answer
returns-in_err-fill-2-clause-answer g c =
    let p = err_from_is_err_and c.from_residual-in_err-fill-2.result c.from_residual-in_err-fill-2.ensures.1 in
    rw (p.1, p.2)
    (λ w older l parts. shelf_refused (IsBadNamed (g.S.Shelf.files c.args.shelf.now) c.args.name.now) (g.S.Shelf.files c.args.shelf.now) w (g.S.Shelf.shelf_faults c.args.shelf.now) (g.S.Shelf.shelf_faults c.loop-file.shelf) (g.S.Shelf.shelf_faults c.fill-in-Some.new.shelf)
    c.in_err-fill-2.field-0.0 c.loop-file.invariant.later c.in_err-fill-2.ensures.cause.failed)

pub loop-file-smaller : goal.loop-file-smaller
loop-file-smaller g c =
    let A : Option Block → Type 0 = λ o. BlockAnswers c.loop-file.file c.loop-file.file.left (Ok o) in
    shorter (g.S.Shelf.files c.args.shelf.now) c.args.name.now (stage (world_told c.args.relay.now) c.args.left.now) (stage (world_told c.loop-file.relay) c.loop-file.left) c.loop-file.file c.loop-file.some c.loop-file.invariant.read
    c.in-Some.block (subst A c.in-Some.is c.in_ok-block.ensures) (g.S.Shelf.files c.loop-file.shelf) c.advance.new.self c.fill-in-Some.new.self c.loop-file.invariant.files
    c.advance.ensures.given c.advance.ensures.later c.advance.ensures.small (c.in_ok-fill-2.ensures.read (λ e. cc e))

pub loop-file-preserved : goal.loop-file-preserved
loop-file-preserved g c =
    let A : Option Block → Type 0 = λ o. BlockAnswers c.loop-file.file c.loop-file.file.left (Ok o) in
    record {
      read = reads_on (g.S.Shelf.files c.args.shelf.now) c.args.name.now (stage (world_told c.args.relay.now) c.args.left.now) (stage (world_told c.loop-file.relay) c.loop-file.left) c.loop-file.file c.loop-file.some c.loop-file.invariant.read
          c.in-Some.block (subst A c.in-Some.is c.in_ok-block.ensures) (g.S.Shelf.files c.loop-file.shelf) (stage (world_told c.take_block.new.relay) c.take_block.new.left) c.advance.new.self c.fill-in-Some.new.self c.loop-file.invariant.files
          c.in_ok-take_block.ensures c.advance.ensures.given c.advance.ensures.state (c.in_ok-fill-2.ensures.read (λ e. cc e)) c.in_ok-fill-2.ensures.name c.in_ok-fill-2.ensures.stands;
      files = c.in_ok-fill-2.ensures.files ∙ c.loop-file.invariant.files;
      staged = c.in_ok-fill-2.ensures.staged ∙ c.loop-file.invariant.staged;
      later = omega (arith, c.in_ok-fill-2.ensures.cause.later, c.loop-file.invariant.later);
    }

pub returns-in_err-end_bundle-clause-answer : goal.returns-in_err-end_bundle-clause-answer
returns-in_err-end_bundle-clause-answer g c =
    let p = err_from_is_err_and c.from_residual-in_err-end_bundle.result c.from_residual-in_err-end_bundle.ensures.1 in
    rw (p.1, p.2)
    (λ w older l parts. end_refused (g.S.Shelf.files c.args.shelf.now) c.args.name.now (stage (world_told c.args.relay.now) c.args.left.now) (stage (world_told c.loop-file.relay) c.loop-file.left) c.loop-file.file c.loop-file.some c.loop-file.invariant.read
    c.in_ok-block.field-0 c.in_default.not-Some c.in_ok-block.ensures w older (stage (world_told c.loop-file.relay) c.loop-file.left) (g.S.Shelf.shelf_faults c.args.shelf.now) (g.S.Shelf.shelf_faults c.loop-file.shelf) c.in_err-end_bundle.field-0.0 c.in_err-end_bundle.ensures)

pub returns-clause-answer : goal.returns-clause-answer
returns-clause-answer g c =
    λ w older l parts. file_whole (g.S.Shelf.files c.args.shelf.now) c.args.name.now (stage (world_told c.args.relay.now) c.args.left.now) (stage (world_told c.loop-file.relay) c.loop-file.left) c.loop-file.file c.loop-file.some c.loop-file.invariant.read
    c.in_ok-block.field-0 c.in_default.not-Some c.in_ok-block.ensures w older l c.in_ok-end_bundle.ensures.0 c.in_ok-end_bundle.ensures.1
