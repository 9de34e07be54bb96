use Rattle.store_files.proofs.public.KeptFacts.{other_file_keeps}
use Rattle.store_files.proofs.other_file_keeps.Goals as goal

pub returns : goal.returns
returns c = other_file_keeps
