use Rattle.store_files.proofs.public.KeptFacts.{own_file_shows}
use Rattle.store_files.proofs.own_file_shows.Goals as goal

pub returns : goal.returns
returns c = own_file_shows
