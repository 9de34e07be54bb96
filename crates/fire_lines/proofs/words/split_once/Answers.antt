use Rattle.fire_lines.proofs.PartFacts.{cut_at, uncut}
use Rattle.fire_lines.proofs.words.split_once.Goals as goal

pub returns-in_err-at-clause-parts : goal.returns-in_err-at-clause-parts
returns-in_err-at-clause-parts c = rw c.from_residual.ensures (uncut _ _ c.in_err-at.ensures)

pub returns-clause-parts : goal.returns-clause-parts
returns-clause-parts c = cut_at _ _ _ c.in_ok-at.ensures
