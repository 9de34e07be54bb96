use Rattle.block_reader.proofs.TextFacts.{file_holds}
use Rattle.block_reader.proofs.take.show_file.Goals as goal

pub returns-clause-holds : goal.returns-clause-holds
returns-clause-holds c = file_holds c.container_is_read.ensures c.args.kind.now c.args.block.now c.as_bytes-type.ensures.name c.show_recordable.ensures
