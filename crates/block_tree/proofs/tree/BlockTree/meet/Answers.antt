use Rattle.std.proofs.Common.{subst, ◌≡◌}
use Rattle.chain_model.specs.Ancestry.{IsHistory}
use Rattle.block_tree.specs.Places.{parent_places}
use Rattle.block_tree.proofs.public.WalkFacts.{in_tree, tree_cost}
use Rattle.block_tree.proofs.public.PathFacts.{meeting_slip, meeting_range}
use Rattle.block_tree.proofs.tree.BlockTree.meet.Goals as goal

pub meet-requires-clause-a_range : goal.meet-requires-clause-a_range
meet-requires-clause-a_range g c =
    let rows = subst (λ v. c.self.inside.rows.parents ≡ parent_places v.history) c.self.view_is c.self.invariant.0 in
    in_tree _ _ _ rows c.requires.a_range

pub meet-requires-clause-b_range : goal.meet-requires-clause-b_range
meet-requires-clause-b_range g c =
    let rows = subst (λ v. c.self.inside.rows.parents ≡ parent_places v.history) c.self.view_is c.self.invariant.0 in
    in_tree _ _ _ rows c.requires.b_range

pub returns-clause-value : goal.returns-clause-value
returns-clause-value g c = λ x y ea eb.
    let rows = subst (λ v. c.self.inside.rows.parents ≡ parent_places v.history) c.self.view_is c.self.invariant.0 in
    let history = subst (λ v. IsHistory v.history) c.self.view_is c.self.invariant.1 in
    meeting_slip _ _ _ _ _ x y rows history ea eb c.meet.ensures.value

pub returns-clause-range : goal.returns-clause-range
returns-clause-range g c =
    let rows = subst (λ v. c.self.inside.rows.parents ≡ parent_places v.history) c.self.view_is c.self.invariant.0 in
    meeting_range _ _ _ _ _ rows c.meet.ensures.value

pub returns-clause-cost : goal.returns-clause-cost
returns-clause-cost g c = λ d lt.
    let rows = subst (λ v. c.self.inside.rows.parents ≡ parent_places v.history) c.self.view_is c.self.invariant.0 in
    c.meet.ensures.cost d (tree_cost _ _ d rows lt)
