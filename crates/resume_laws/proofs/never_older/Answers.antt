use Rattle.resume_laws.proofs.Lengths.{never_older}
use Rattle.resume_laws.proofs.never_older.Goals as goal

pub returns : goal.returns
returns c = never_older
