use Rattle.std.proofs.Common.{arith, ap, sym, subst, ◌∙◌, ◌<◌, length}
use Rattle.block_tree.specs.Places.{slip_at}
use Rattle.chain_model.specs.Steps.{head}
use Rattle.fork_db.proofs.AdmitFacts.{head_at, ranked_range}
use Rattle.fork_db.proofs.db.ForkDb.head.Goals as goal

pub returns-clause-head : goal.returns-clause-head
returns-clause-head c =
    ap (λ v. slip_at v.history c.head.result) (sym c.self.view_is) ∙ ap (slip_at c.self.inside.tree.history) c.head.ensures
    ∙ head_at _ _ _ c.self.invariant.3 ∙ ap (λ v. head v.history) c.self.view_is

pub returns-clause-range : goal.returns-clause-range
returns-clause-range c =
    subst (λ v. c.head.result < length v.history) c.self.view_is
    (subst (λ at. at < length c.self.inside.tree.history) (sym c.head.ensures) (ranked_range _ _ _ (grind (arith, c.if-len-eq0.false, c.len.ensures.len)) c.self.invariant.3))
