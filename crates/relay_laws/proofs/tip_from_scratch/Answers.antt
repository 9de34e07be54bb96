use Rattle.relay_laws.proofs.public.Scratch.{tip_from_scratch}
use Rattle.relay_laws.proofs.tip_from_scratch.Goals as goal

pub returns : goal.returns
returns c = tip_from_scratch
