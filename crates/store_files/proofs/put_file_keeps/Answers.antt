use Rattle.store_files.proofs.public.KeptFacts.{put_file_keeps}
use Rattle.store_files.proofs.put_file_keeps.Goals as goal

pub returns : goal.returns
returns c = put_file_keeps
