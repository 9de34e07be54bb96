use Rattle.std.proofs.Common.{arith, ap, ◌∙◌, subst, ◌≡◌, Some}
use Rattle.chain_model.specs.Ancestry.{IsHistory}
use Rattle.block_tree.specs.Places.{parent_places, slip_at}
use Rattle.link_rows.proofs.public.Meets.{digits_cost}
use Rattle.link_rows.specs.Tree.{ancestors}
use Rattle.std.specs.List.{slice_get}
use Rattle.block_tree.proofs.public.WalkFacts.{in_tree, at_once, tree_path, cut_zero, cut_rounds, cut_step, cut_end, depth_short, range_of, cut_range}
use Rattle.block_tree.proofs.tree.BlockTree.last_up_to.Goals as goal

pub returns-then-num-limit-clause-value : goal.returns-then-num-limit-clause-value
returns-then-num-limit-clause-value g c = λ s e.
    let history = subst (λ v. IsHistory v.history) c.self.view_is c.self.invariant.1 in
    at_once _ _ _ _ s history (subst (λ v. slip_at v.history c.args.at ≡ Some c.slip.result.now) c.self.view_is c.slip.ensures) c.if-num-limit.true e

pub depth-requires : goal.depth-requires
depth-requires g c =
    let rows = subst (λ v. c.self.inside.rows.parents ≡ parent_places v.history) c.self.view_is c.self.invariant.0 in
    in_tree _ _ _ rows c.requires.range

pub loop-i-init : goal.loop-i-init
loop-i-init g c =
    let rows = subst (λ v. c.self.inside.rows.parents ≡ parent_places v.history) c.self.view_is c.self.invariant.0 in
    let history = subst (λ v. IsHistory v.history) c.self.view_is c.self.invariant.1 in
    (cut_rounds _ _ _ _ _ _ history c.requires.range (subst (λ v. slip_at v.history c.args.at ≡ Some c.slip.result.now) c.self.view_is c.slip.ensures) c.if-num-limit.false (tree_path _ _ _ _ rows c.depth.ensures) c.rounds-count.ensures.above, omega arith)

pub skip-from-requires : goal.skip-from-requires
skip-from-requires g c = record { range = cut_range _ _ _ _ _ c.loop-i.invariant.0 }

pub loop-i-preserved : goal.loop-i-preserved
loop-i-preserved g c = (cut_step _ _ _ _ _ _ _ _ c.loop-i.invariant.0 (omega arith) (omega arith) c.skip-from.ensures.value, omega (arith, c.skip-from.ensures.cost, g.met.C.LinkCount.cheap, c.loop-i.invariant.1))

pub link-requires : goal.link-requires
link-requires g c =
    let rows = subst (λ v. c.self.inside.rows.parents ≡ parent_places v.history) c.self.view_is c.self.invariant.0 in
    in_tree _ _ _ rows (cut_range _ _ _ _ _ c.loop-i.invariant.0)

pub returns-clause-value : goal.returns-clause-value
returns-clause-value g c = λ s e.
    let rows = subst (λ v. c.self.inside.rows.parents ≡ parent_places v.history) c.self.view_is c.self.invariant.0 in
    let history = subst (λ v. IsHistory v.history) c.self.view_is c.self.invariant.1 in
    cut_end _ _ _ _ _ s history e (cut_zero _ _ _ _ _ (omega arith) c.loop-i.invariant.0) (c.link.ensures.value ∙ ap (λ t. slice_get (ancestors t c.loop-i.from) 1) rows)

pub returns-clause-range : goal.returns-clause-range
returns-clause-range g c =
    let rows = subst (λ v. c.self.inside.rows.parents ≡ parent_places v.history) c.self.view_is c.self.invariant.0 in
    range_of _ _ _ _ c.link.result rows c.link.ensures.value

pub returns-clause-cost : goal.returns-clause-cost
returns-clause-cost g c = λ d lt.
    let rows = subst (λ v. c.self.inside.rows.parents ≡ parent_places v.history) c.self.view_is c.self.invariant.0 in
    omega (arith, digits_cost _ _ _ d c.rounds-count.ensures.least (depth_short _ _ _ (tree_path _ _ _ _ rows c.depth.ensures)) lt, c.loop-i.invariant.1, c.link.ensures.cost, g.met.C.LinkCount.cheap)
