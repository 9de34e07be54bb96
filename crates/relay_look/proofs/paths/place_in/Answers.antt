use Rattle.std.proofs.Common.{ap, sym, ◌∙◌}
use Rattle.chain_model.specs.Steps.{ancestry_at}
use Rattle.block_tree.proofs.public.PlaceFacts.{path_of_id}
use Rattle.relay_look.proofs.paths.place_in.Goals as goal

pub returns-in-Some : goal.returns-in-Some
returns-in-Some c = path_of_id c.args.db.now.history c.in-Some.block.id _ c.find.ensures ∙ ap (ancestry_at c.args.db.now.history) (sym c.in-Some.is)
