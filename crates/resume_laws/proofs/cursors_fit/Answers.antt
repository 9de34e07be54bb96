use Rattle.resume_laws.proofs.CursorFacts.{cursors_fit}
use Rattle.resume_laws.proofs.cursors_fit.Goals as goal

pub returns : goal.returns
returns c = cursors_fit
