use Rattle.store_files.proofs.public.BundleFacts.{bundle_file_shows}
use Rattle.store_files.proofs.bundle_file_shows.Goals as goal

pub returns : goal.returns
returns c = bundle_file_shows
