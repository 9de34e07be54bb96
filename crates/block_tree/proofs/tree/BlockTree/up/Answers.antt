use Rattle.std.proofs.Common.{subst, ◌≡◌}
use Rattle.chain_model.specs.Ancestry.{IsHistory}
use Rattle.block_tree.specs.Places.{parent_places}
use Rattle.block_tree.proofs.public.WalkFacts.{in_tree, tree_cost}
use Rattle.block_tree.proofs.public.PathFacts.{path_slip, path_none, path_range}
use Rattle.block_tree.proofs.tree.BlockTree.up.Goals as goal

pub depth-requires : goal.depth-requires
depth-requires g c =
    let rows = subst (λ v. c.self.inside.rows.parents ≡ parent_places v.history) c.self.view_is c.self.invariant.0 in
    in_tree _ _ _ rows c.requires.range

pub up-requires-clause-range : goal.up-requires-clause-range
up-requires-clause-range g c =
    let rows = subst (λ v. c.self.inside.rows.parents ≡ parent_places v.history) c.self.view_is c.self.invariant.0 in
    in_tree _ _ _ rows c.requires.range

pub returns-clause-value : goal.returns-clause-value
returns-clause-value g c = λ y e.
    let rows = subst (λ v. c.self.inside.rows.parents ≡ parent_places v.history) c.self.view_is c.self.invariant.0 in
    let history = subst (λ v. IsHistory v.history) c.self.view_is c.self.invariant.1 in
    path_slip _ _ _ _ _ y rows history e c.up.ensures.value

pub returns-clause-range : goal.returns-clause-range
returns-clause-range g c =
    let rows = subst (λ v. c.self.inside.rows.parents ≡ parent_places v.history) c.self.view_is c.self.invariant.0 in
    path_range _ _ _ _ _ rows c.up.ensures.value

pub returns-clause-cost : goal.returns-clause-cost
returns-clause-cost g c = λ d lt.
    let rows = subst (λ v. c.self.inside.rows.parents ≡ parent_places v.history) c.self.view_is c.self.invariant.0 in
    c.up.ensures.cost d (tree_cost _ _ d rows lt)

pub returns-then-depth-clause-value : goal.returns-then-depth-clause-value
returns-then-depth-clause-value g c = λ y e.
    let rows = subst (λ v. c.self.inside.rows.parents ≡ parent_places v.history) c.self.view_is c.self.invariant.0 in
    let history = subst (λ v. IsHistory v.history) c.self.view_is c.self.invariant.1 in
    path_none _ _ _ _ _ y rows history e c.depth.ensures c.if-depth.true
