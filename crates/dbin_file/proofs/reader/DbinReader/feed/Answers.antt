use Rattle.std.proofs.Common.{◌≡◌, Some, sym, ap, subst, ◌∙◌, refl}
use Rattle.dbin_file.specs.declared.faults.DbinFault.TheVariants.{Mem}
use Rattle.dbin_file.specs.Reader.{ReaderState, IsCutShort}
use Rattle.dbin_file.proofs.StopFacts.{stays_stopped, stays_cut_short}
use Rattle.dbin_file.proofs.reader.DbinReader.feed.Goals as goal

pub returns-in-Some-clause-read : goal.returns-in-Some-clause-read
returns-in-Some-clause-read c = λ text is apart.
    let bad : c.args.self.now.fault ≡ Some c.in-Some.fault = ap (λ (s : ReaderState). s.fault) (sym c.self.view_is) ∙ c.in-Some.is in
    stays_stopped text c.args.piece.now c.args.self.now c.in-Some.fault _ c.args.out.now.items is bad refl

pub returns-in-Some-clause-memory : goal.returns-in-Some-clause-memory
returns-in-Some-clause-memory c = λ text is mem.
    let none : c.in-Some.fault ≡ Mem = cc mem in
    let bad : c.args.self.now.fault ≡ Some Mem = ap (λ (s : ReaderState). s.fault) (sym c.self.view_is) ∙ c.in-Some.is ∙ ap (λ f. Some f) none in
    stays_cut_short text c.args.piece.now c.args.self.now c.args.out.now.items is bad

pub returns-in-Err-Mem-clause-memory : goal.returns-in-Err-Mem-clause-memory
returns-in-Err-Mem-clause-memory c = λ text is mem.
    subst (λ (r : ReaderState). IsCutShort text c.args.piece.now r c.args.out.now.items c.take_piece.new.out.items) (sym c.stop.ensures.state) (c.take_piece.ensures.memory text is (rw c.in-Err-Mem.field-0-is at c.in-Err-Mem.is))
