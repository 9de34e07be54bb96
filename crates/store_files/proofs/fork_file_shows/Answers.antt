use Rattle.store_files.proofs.public.KeptFacts.{fork_file_shows}
use Rattle.store_files.proofs.fork_file_shows.Goals as goal

pub returns : goal.returns
returns c = fork_file_shows
