use Rattle.std.proofs.Common.{subst, ◌≡◌}
use Rattle.chain_model.specs.Ancestry.{IsHistory}
use Rattle.block_tree.specs.Places.{parent_places}
use Rattle.block_tree.proofs.public.WalkFacts.{in_tree, depth_is}
use Rattle.block_tree.proofs.tree.BlockTree.depth.Goals as goal

pub depth-requires : goal.depth-requires
depth-requires c =
    let rows = subst (λ v. c.self.inside.rows.parents ≡ parent_places v.history) c.self.view_is c.self.invariant.0 in
    in_tree _ _ _ rows c.requires

pub returns : goal.returns
returns c = λ s e.
    let rows = subst (λ v. c.self.inside.rows.parents ≡ parent_places v.history) c.self.view_is c.self.invariant.0 in
    let history = subst (λ v. IsHistory v.history) c.self.view_is c.self.invariant.1 in
    depth_is _ _ _ _ s rows history e c.depth.ensures
