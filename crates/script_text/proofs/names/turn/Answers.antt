use Rattle.script_text.proofs.NameFacts.{set_role}
use Rattle.script_text.proofs.names.turn.Goals as goal

pub returns : goal.returns
returns c = set_role c.args.used.now c.args.place c.args.role c.index-used-place.result
