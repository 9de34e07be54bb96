use Rattle.std.proofs.Common.{◌∙◌}
use Rattle.memory_world.proofs.MapFacts.{removed_is}
use Rattle.memory_world.proofs.stored_files.take_away.Goals as goal

pub returns : goal.returns
returns c = c.remove.ensures.entries ∙ removed_is c.args.name.now c.args.files.now.entries c.requires
