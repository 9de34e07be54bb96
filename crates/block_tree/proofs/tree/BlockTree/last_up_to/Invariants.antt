use Rattle.std.proofs.Common.{◌+◌, ◌≤◌, ◌-◌}
use Rattle.link_rows.specs.Tree.{ancestors}
use Rattle.block_tree.specs.Places.{parent_places}
use Rattle.block_tree.proofs.public.WalkFacts.{IsCut}
use Rattle.block_tree.proofs.tree.BlockTree.last_up_to.Given as goal

abbrev pub invariant-loop-i : goal.invariant-loop-i
invariant-loop-i g l = IsCut l.self.history (ancestors (parent_places l.self.history) l.at) l.limit (l.count - l.i) l.from × (g.C.LinkCount.count l.links ≤ g.C.LinkCount.count l.initial.links + l.i)
