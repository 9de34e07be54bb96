use Rattle.store_model.proofs.public.ReloadFacts.{load_keeps}
use Rattle.store_model.proofs.load_keeps.Goals as goal

pub returns : goal.returns
returns c = load_keeps
