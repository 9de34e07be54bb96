use Rattle.std.proofs.Common.{ap, ◌∙◌, is_some}
use Rattle.block_tree.proofs.public.PlaceFacts.{is_held}
use Rattle.relay_look.proofs.paths.is_known.Goals as goal

pub returns : goal.returns
returns c = c.is_some.ensures ∙ ap is_some c.find.ensures ∙ is_held _ _
