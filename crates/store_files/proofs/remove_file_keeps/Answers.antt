use Rattle.store_files.proofs.public.KeptFacts.{remove_file_keeps}
use Rattle.store_files.proofs.remove_file_keeps.Goals as goal

pub returns : goal.returns
returns c = remove_file_keeps
