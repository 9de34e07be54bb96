use Rattle.store_files.proofs.public.KeptFacts.{load_keeps_files}
use Rattle.store_files.proofs.load_keeps_files.Goals as goal

pub returns : goal.returns
returns c = load_keeps_files
