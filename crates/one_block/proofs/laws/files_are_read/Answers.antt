use Rattle.one_block.proofs.public.FileFacts.{files_are_read}
use Rattle.one_block.proofs.laws.files_are_read.Goals as goal

pub returns : goal.returns
returns c = files_are_read
