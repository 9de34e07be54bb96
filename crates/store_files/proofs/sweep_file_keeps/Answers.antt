use Rattle.store_files.proofs.public.KeptFacts.{sweep_file_keeps}
use Rattle.store_files.proofs.sweep_file_keeps.Goals as goal

pub returns : goal.returns
returns c = sweep_file_keeps
