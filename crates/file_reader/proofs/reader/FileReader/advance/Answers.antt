use Rattle.std.proofs.Common.{arith, ap}
use Rattle.file_reader.specs.Reading.{FileState}
use Rattle.file_reader.proofs.PieceFacts.{message_fits}
use Rattle.file_reader.proofs.reader.FileReader.advance.Goals as goal

pub returns-in-Some-clause-later : goal.returns-in-Some-clause-later
returns-in-Some-clause-later c = λ files front message given more h some.
    omega (arith, message_fits files c.args.self.now front message given more h some, ap (λ (r : FileState). r.passed) c.self.view_is, c.saturating_add-self-inside.ensures)
