use Rattle.std.proofs.Common.{ap, arith, ◌∙◌}
use Rattle.std.proofs.lemmas.Result.{err_from_is_err_and}
use Rattle.file_reader.specs.Reading.{FileState}
use Rattle.file_source.proofs.SearchFacts.{refused_next, found_next, more_next, smaller_next, pass_name, own_id, other_id}
use Rattle.file_source.proofs.search.first_under.Goals as goal

pub returns-in_err-block-clause-answer : goal.returns-in_err-block-clause-answer
returns-in_err-block-clause-answer g c =
    let p = err_from_is_err_and c.from_residual.result c.from_residual.ensures.1 in
    rw (p.1, p.2)
    (refused_next (g.S.Shelf.files c.args.shelf.now) (g.S.Shelf.files c.loop-block.shelf) c.loop-block.file c.next_block.new.file c.args.file.now.name c.args.id.now c.requires.there.0
    (g.S.Shelf.shelf_faults c.args.shelf.now) (g.S.Shelf.shelf_faults c.loop-block.shelf) (g.S.Shelf.shelf_faults c.next_block.new.shelf) c.in_err-block.field-0.0
    c.loop-block.invariant.searched c.loop-block.invariant.files c.in_err-block.ensures.answer c.in_err-block.ensures.cause (c.in_err-block.ensures.name ∙ c.loop-block.invariant.name) c.requires.there.1 c.loop-block.invariant.later)

pub returns-then-eq-clause-answer : goal.returns-then-eq-clause-answer
returns-then-eq-clause-answer g c =
    found_next (g.S.Shelf.files c.args.shelf.now) (g.S.Shelf.files c.loop-block.shelf) c.loop-block.file c.next_block.new.file c.args.file.now.name c.args.id.now c.requires.there.0 c.in_ok-block.field-0 c.in-Some.block
    c.loop-block.invariant.searched c.loop-block.invariant.files c.in_ok-block.ensures.answer c.in-Some.is (c.in_ok-block.ensures.name ∙ c.loop-block.invariant.name) c.requires.there.1
    (own_id c.in-Some.block.id c.args.id.now c.eq.result c.eq.ensures c.if-eq.true)

pub loop-block-smaller : goal.loop-block-smaller
loop-block-smaller g c =
    smaller_next (g.S.Shelf.files c.args.shelf.now) (g.S.Shelf.files c.loop-block.shelf) c.loop-block.file c.next_block.new.file c.advance.new.self c.args.id.now c.in_ok-block.field-0 c.in-Some.block
    c.loop-block.invariant.searched c.loop-block.invariant.files c.in_ok-block.ensures.answer c.in-Some.is c.advance.ensures.later c.advance.ensures.small

pub loop-block-preserved : goal.loop-block-preserved
loop-block-preserved g c = record {
  searched =
      more_next (g.S.Shelf.files c.args.shelf.now) (g.S.Shelf.files c.loop-block.shelf) c.loop-block.file c.next_block.new.file c.advance.new.self c.args.id.now c.in_ok-block.field-0 c.in-Some.block
      c.loop-block.invariant.searched c.loop-block.invariant.files c.in_ok-block.ensures.answer c.in-Some.is c.advance.ensures.given
      (other_id c.in-Some.block.id c.args.id.now c.eq.result c.eq.ensures c.if-eq.false);
  name = ap (λ (r : FileState). r.name) c.advance.ensures.state ∙ pass_name c.next_block.new.file c.next_block.new.file.left ∙ c.in_ok-block.ensures.name ∙ c.loop-block.invariant.name;
  files = c.in_ok-block.ensures.files ∙ c.loop-block.invariant.files;
  staged = c.in_ok-block.ensures.staged ∙ c.loop-block.invariant.staged;
  later = omega (arith, c.loop-block.invariant.later, c.in_ok-block.ensures.later);
}
