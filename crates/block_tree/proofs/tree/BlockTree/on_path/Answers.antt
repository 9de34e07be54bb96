use Rattle.std.proofs.Common.{subst, ◌≡◌}
use Rattle.chain_model.specs.Ancestry.{IsHistory}
use Rattle.block_tree.specs.Places.{parent_places}
use Rattle.block_tree.proofs.public.WalkFacts.{in_tree, tree_cost}
use Rattle.block_tree.proofs.public.PathFacts.{deeper_off, same_off}
use Rattle.block_tree.proofs.tree.BlockTree.on_path.Goals as goal

pub depth-a_depth-requires : goal.depth-a_depth-requires
depth-a_depth-requires g c =
    let rows = subst (λ v. c.self.inside.rows.parents ≡ parent_places v.history) c.self.view_is c.self.invariant.0 in
    in_tree _ _ _ rows c.requires.a_range

pub depth-requires : goal.depth-requires
depth-requires g c =
    let rows = subst (λ v. c.self.inside.rows.parents ≡ parent_places v.history) c.self.view_is c.self.invariant.0 in
    in_tree _ _ _ rows c.requires.b_range

pub returns-then-a_depth-depth-clause-value : goal.returns-then-a_depth-depth-clause-value
returns-then-a_depth-depth-clause-value g c = λ x y ea eb.
    let rows = subst (λ v. c.self.inside.rows.parents ≡ parent_places v.history) c.self.view_is c.self.invariant.0 in
    let history = subst (λ v. IsHistory v.history) c.self.view_is c.self.invariant.1 in
    deeper_off _ _ _ _ _ _ x y rows history ea eb c.depth-a_depth.ensures c.depth.ensures c.if-a_depth-depth.true

pub up-requires-clause-range : goal.up-requires-clause-range
up-requires-clause-range g c =
    let rows = subst (λ v. c.self.inside.rows.parents ≡ parent_places v.history) c.self.view_is c.self.invariant.0 in
    in_tree _ _ _ rows c.requires.b_range

pub returns-clause-value : goal.returns-clause-value
returns-clause-value g c = λ x y ea eb.
    let rows = subst (λ v. c.self.inside.rows.parents ≡ parent_places v.history) c.self.view_is c.self.invariant.0 in
    let history = subst (λ v. IsHistory v.history) c.self.view_is c.self.invariant.1 in
    same_off _ _ _ _ _ _ x y rows history ea eb c.depth-a_depth.ensures c.up.ensures.above

pub returns-clause-cost : goal.returns-clause-cost
returns-clause-cost g c = λ d lt.
    let rows = subst (λ v. c.self.inside.rows.parents ≡ parent_places v.history) c.self.view_is c.self.invariant.0 in
    c.up.ensures.cost d (tree_cost _ _ d rows lt)
