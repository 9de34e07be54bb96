use Rattle.own_laws.proofs.public.MergeFacts.{merges_stay}
use Rattle.own_laws.proofs.merges_stay.Goals as goal

pub returns : goal.returns
returns c = merges_stay
