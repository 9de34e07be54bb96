use Rattle.reply_reader.proofs.public.CutFacts.{cut_at, uncut}
use Rattle.reply_reader.proofs.parts.split_once.Goals as goal

pub returns-in_err-at : goal.returns-in_err-at
returns-in_err-at c = rw c.from_residual.ensures (uncut _ _ c.in_err-at.ensures)

pub returns : goal.returns
returns c = cut_at _ _ _ c.in_ok-at.ensures
