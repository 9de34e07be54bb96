use Rattle.std.proofs.Common.{arith, subst, ◌≤◌, ◌+◌}
use Rattle.link_rows.specs.declared.rows.TheConstants.{PLACES_MAX}
use Rattle.link_rows.proofs.RowFacts.{below_max}
use Rattle.link_rows.proofs.rows.LinkRows.len.Goals as goal

pub returns-clause-small : goal.returns-clause-small
returns-clause-small c = subst (λ v. c.len.result + v.room ≤ PLACES_MAX) c.self.view_is (omega (arith, below_max _ _ c.self.invariant.3 c.self.invariant.4, c.len.ensures))
