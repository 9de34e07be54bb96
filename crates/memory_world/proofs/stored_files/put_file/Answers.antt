use Rattle.std.proofs.Common.{◌∙◌}
use Rattle.memory_world.proofs.MapFacts.{inserted_is}
use Rattle.memory_world.proofs.stored_files.put_file.Goals as goal

pub returns-in-Ok-clause-put : goal.returns-in-Ok-clause-put
returns-in-Ok-clause-put c = c.in-Ok.ensures.entries ∙ inserted_is c.args.name c.args.text c.args.files.now.entries
