use Rattle.relay_laws.proofs.public.FromScratch.{from_scratch}
use Rattle.relay_laws.proofs.from_scratch.Goals as goal

pub returns : goal.returns
returns c = from_scratch
