use Rattle.std.proofs.Common.{ap, ◌∙◌}
use Rattle.block_tree.specs.Places.{place_of}
use Rattle.block_tree.proofs.SlipFacts.{found_place}
use Rattle.block_tree.proofs.slips.Slips.find.Goals as goal

pub returns : goal.returns
returns c = c.get_index_of.ensures.index ∙ found_place c.self.inside.slips.keys c.args.id.now c.self.invariant.0 ∙ ap (λ v. place_of v.history c.args.id.now) c.self.view_is
