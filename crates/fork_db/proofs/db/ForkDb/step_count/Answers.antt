use Rattle.std.proofs.Common.{sym, ◌∙◌, subst}
use Rattle.fork_db.specs.Batches.{IsGiven}
use Rattle.fork_db.proofs.StepFacts.{runs_of, steps_length}
use Rattle.fork_db.proofs.db.ForkDb.step_count.Goals as goal

pub returns : goal.returns
returns c = λ older mode stop given.
    c.count_in.ensures.total
    ∙ sym (steps_length c.self.inside.tree.history c.args.batch.now _ (runs_of c.self.inside.tree.history older mode stop c.args.batch.now c.self.invariant.9
    (subst (λ v. IsGiven v.history older mode stop c.args.batch.now) (sym c.self.view_is) given)))
