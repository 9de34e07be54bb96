use Rattle.replay_text.proofs.CutFacts.{cut_at, uncut}
use Rattle.replay_text.proofs.clients.cut_line.Goals as goal

pub returns-in-Some-clause-line : goal.returns-in-Some-clause-line
returns-in-Some-clause-line c = cut_at _ _ c.in-Some.ensures

pub returns-in-None-clause-line : goal.returns-in-None-clause-line
returns-in-None-clause-line c = uncut _ c.requires c.in-None.ensures
