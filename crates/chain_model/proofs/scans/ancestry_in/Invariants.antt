use Rattle.std.proofs.Common.{◌≡◌, ◌++◌, map, reverse, length}
use Rattle.chain_model.specs.Ancestry.{ancestry}
use Rattle.chain_model.proofs.scans.ancestry_in.Given as goal

abbrev pub invariant-loop-newest : goal.invariant-loop-newest
invariant-loop-newest l = map (λ s. s.now) l.path.items ++ ancestry (reverse l.older) l.wanted ≡ ancestry (reverse l.fn.history) l.fn.id

abbrev pub decreases-loop-newest : goal.decreases-loop-newest
decreases-loop-newest l = length l.older
