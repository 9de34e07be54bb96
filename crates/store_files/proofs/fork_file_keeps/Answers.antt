use Rattle.store_files.proofs.public.KeptFacts.{fork_file_keeps}
use Rattle.store_files.proofs.fork_file_keeps.Goals as goal

pub returns : goal.returns
returns c = fork_file_keeps
