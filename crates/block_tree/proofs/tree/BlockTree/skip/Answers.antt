use Rattle.std.proofs.Common.{sym, ◌∙◌, subst, ◌≡◌}
use Rattle.block_tree.specs.Places.{parent_places}
use Rattle.block_tree.proofs.public.WalkFacts.{in_tree, line_range}
use Rattle.block_tree.proofs.tree.BlockTree.skip.Goals as goal

pub link-requires : goal.link-requires
link-requires g c =
    let rows = subst (λ v. c.self.inside.rows.parents ≡ parent_places v.history) c.self.view_is c.self.invariant.0 in
    in_tree _ _ _ rows c.requires.range

pub slip-requires : goal.slip-requires
slip-requires g c =
    let rows = subst (λ v. c.self.inside.rows.parents ≡ parent_places v.history) c.self.view_is c.self.invariant.0 in
    line_range _ _ _ _ _ rows (sym c.link.ensures.value ∙ c.in-Some.is)
