use Rattle.std.proofs.Common.{◌≡◌, Some, sym, ap, ◌∙◌, refl}
use Rattle.fire_lines.specs.declared.faults.LineFault.TheVariants.{Mem}
use Rattle.fire_lines.specs.Reader.{ReaderState}
use Rattle.fire_lines.proofs.LineFacts.{stopped_read, stays_cut_short}
use Rattle.fire_lines.proofs.reader.LineReader.feed.Goals as goal

pub returns-in-Some-clause-read : goal.returns-in-Some-clause-read
returns-in-Some-clause-read c = λ text is apart.
    let bad : c.args.self.now.fault ≡ Some c.in-Some.fault = ap (λ (s : ReaderState). s.fault) (sym c.self.view_is) ∙ c.in-Some.is in
    stopped_read _ text c.args.piece.now c.args.self.now c.in-Some.fault _ _ is bad refl

pub returns-in-Some-clause-memory : goal.returns-in-Some-clause-memory
returns-in-Some-clause-memory c = λ text is mem.
    let none : c.in-Some.fault ≡ Mem = cc mem in
    let bad : c.args.self.now.fault ≡ Some Mem = ap (λ (s : ReaderState). s.fault) (sym c.self.view_is) ∙ c.in-Some.is ∙ ap (λ f. Some f) none in
    stays_cut_short _ text c.args.piece.now c.args.self.now _ is bad
