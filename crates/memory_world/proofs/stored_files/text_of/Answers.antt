use Rattle.std.proofs.Common.{Some, ◌∙◌, ap}
use Rattle.memory_world.proofs.MapFacts.{lookup_is}
use Rattle.memory_world.proofs.stored_files.text_of.Goals as goal

pub returns-in-Some : goal.returns-in-Some
returns-in-Some c = ap Some c.as_slice.ensures ∙ (c.in-Some.ensures.value ∙ lookup_is c.args.name.now c.args.files.now.entries)

pub returns-in-None : goal.returns-in-None
returns-in-None c = c.in-None.ensures.value ∙ lookup_is c.args.name.now c.args.files.now.entries
