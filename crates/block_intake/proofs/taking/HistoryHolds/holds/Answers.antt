use Rattle.std.proofs.Common.{ap, ◌∙◌, is_some}
use Rattle.block_tree.proofs.public.PlaceFacts.{is_held}
use Rattle.block_intake.proofs.taking.HistoryHolds.holds.Goals as goal

pub returns : goal.returns
returns c = c.is_some.ensures ∙ ap is_some c.find.ensures ∙ is_held c.args.self.now.0.now.history c.args.id.now
