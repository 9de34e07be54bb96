use Rattle.std.proofs.Common.{arith, ap, Err, ◌∙◌}
use Rattle.std.proofs.lemmas.Result.{err_from_is_err_and}
use Rattle.file_reader.specs.Reading.{FileState}
use Rattle.file_reader.proofs.PieceFacts.{read_then, none_left}
use Rattle.file_reader.proofs.reader.FileReader.fill.Goals as goal

pub loop-self-preserved : goal.loop-self-preserved
loop-self-preserved g c = record {
  read = read_then (g.S.Shelf.files c.args.shelf.now) (g.S.Shelf.files c.loop-self.shelf) c.args.self.now c.loop-self.self c.read_piece.new.self c.loop-self.invariant.files c.loop-self.invariant.read (c.in_ok-read_piece.ensures.read (λ e. cc e));
  name = c.in_ok-read_piece.ensures.name ∙ c.loop-self.invariant.name;
  files = c.in_ok-read_piece.ensures.files ∙ c.loop-self.invariant.files;
  staged = c.in_ok-read_piece.ensures.staged ∙ c.loop-self.invariant.staged;
  later = omega (arith, c.in_ok-read_piece.ensures.cause.later, c.loop-self.invariant.later);
}

pub returns-in_err-read_piece-clause-read : goal.returns-in_err-read_piece-clause-read
returns-in_err-read_piece-clause-read g c = λ apart.
    let p = err_from_is_err_and c.from_residual.result c.from_residual.ensures.1 in
    read_then (g.S.Shelf.files c.args.shelf.now) (g.S.Shelf.files c.loop-self.shelf) c.args.self.now c.loop-self.self c.read_piece.new.self c.loop-self.invariant.files c.loop-self.invariant.read
    (c.in_err-read_piece.ensures.read (λ e. apart (p.1 ∙ ap (λ f. Err f) p.2 ∙ e)))

pub returns-else-self-len-clause-stands : goal.returns-else-self-len-clause-stands
returns-else-self-len-clause-stands g c = λ none. absurd (none_left c.self.inside.messages.items c.self.inside.next (grind (arith, c.if-self-len.false, c.len.ensures)) (ap (λ (r : FileState). r.left) c.self.view_is ∙ none))
