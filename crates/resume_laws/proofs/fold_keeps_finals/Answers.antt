use Rattle.resume_laws.proofs.Counts.{fold_keeps_finals}
use Rattle.resume_laws.proofs.fold_keeps_finals.Goals as goal

pub returns : goal.returns
returns c = fold_keeps_finals
