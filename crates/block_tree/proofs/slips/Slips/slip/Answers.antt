use Rattle.std.proofs.Common.{ap, sym, ◌∙◌, map}
use Rattle.std.specs.List.{slice_get}
use Rattle.block_tree.specs.Places.{slip_at}
use Rattle.block_tree.proofs.SlipFacts.{slip_of_keys}
use Rattle.block_tree.proofs.slips.Slips.slip.Goals as goal

pub returns : goal.returns
returns c =
    ap (λ v. slip_at v.history c.args.at) (sym c.self.view_is)
    ∙ slip_of_keys c.self.inside.slips.keys c.args.at c.slip_in.result.now (ap (λ l. slice_get (map (λ s. s.slip) l) c.args.at) (sym c.as_slice.ensures.keys) ∙ c.slip_in.ensures)
