use Rattle.std.proofs.Common.{arith, ap, refl, subst, sym, true}
use Rattle.file_reader.specs.Reading.{FileState, ReadsOn}
use Rattle.file_reader.proofs.PieceFacts.{read_ended, read_piece}
use Rattle.file_reader.proofs.reader.FileReader.read_piece.Goals as goal

pub returns-then-count-eq0-clause-read : goal.returns-then-count-eq0-clause-read
returns-then-count-eq0-clause-read g c = λ apart.
    let R : FileState → Type 0 = λ r. ReadsOn (g.S.Shelf.files c.args.shelf.now) c.args.self.now (record r { over = true }) in
    subst R (sym c.self.view_is)
    (read_ended (g.S.Shelf.files c.args.shelf.now) c.args.self.now c.self.inside.name c.read_at.new.buf c.self.inside.at c.in_ok-count.count
    (ap (λ (s : FileState). s.name) c.self.view_is) (ap (λ (s : FileState). s.at) c.self.view_is) (omega (arith, c.if-count-eq0.true)) (omega arith) c.in_ok-count.ensures.bytes)

pub returns-clause-read : goal.returns-clause-read
returns-clause-read g c = λ apart.
    read_piece (g.S.Shelf.files c.args.shelf.now) c.args.self.now c.take.new.self c.take.result c.self.inside.name c.read_at.new.buf _ c.self.inside.at c.in_ok-count.count
    c.requires.none (ap (λ (s : FileState). s.name) c.self.view_is) (ap (λ (s : FileState). s.at) c.self.view_is) c.in_ok-count.ensures.bytes refl
    c.take.ensures.memory c.take.ensures.state c.take.ensures.messages c.take.ensures.over c.take.ensures.at c.take.ensures.small c.take.ensures.name c.take.ensures.passed apart
