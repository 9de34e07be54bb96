use Rattle.std.proofs.Common.{ap, ◌∙◌, set, None}
use Rattle.std.proofs.lemmas.List.{map-set}
use Rattle.fork_db.proofs.held.HeldBlocks.release.Goals as goal

pub returns-clause-blocks : goal.returns-clause-blocks
returns-clause-blocks c = map-set _ _ c.args.at None ∙ ap (λ v. set v.blocks c.args.at None) c.self.view_is
