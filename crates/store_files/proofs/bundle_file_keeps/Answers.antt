use Rattle.store_files.proofs.public.BundleFacts.{bundle_file_keeps}
use Rattle.store_files.proofs.bundle_file_keeps.Goals as goal

pub returns : goal.returns
returns c = bundle_file_keeps
