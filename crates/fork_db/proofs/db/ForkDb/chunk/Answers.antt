use Rattle.std.proofs.Common.{arith, ◌≡◌, ◌++◌, map, subst, sym}
use Rattle.std.specs.Result.{OnOk}
use Rattle.fork_db.specs.Batches.{IsGiven, item_seen}
use Rattle.fork_db.proofs.PlaceFacts.{chunk_is}
use Rattle.fork_db.proofs.StepFacts.{runs_of}
use Rattle.fork_db.proofs.db.ForkDb.chunk.Goals as goal

pub returns-else-is_err-clause-ok : goal.returns-else-is_err-clause-ok
returns-else-is_err-clause-ok c = λ older m stop given.
    let r = runs_of _ older m stop _ c.count_in.ensures.sound (subst (λ v. IsGiven v.history older m stop c.args.batch.now) (sym c.self.view_is) given) in
    subst (λ l. OnOk c.push_range-pushed.result (map item_seen c.push_range-pushed.new.out.items ≡ map item_seen c.args.out.now.items ++ l))
    (chunk_is _ _ _ r c.args.from c.args.max c.min-end.result c.saturating_add.result (omega (arith, c.saturating_add.ensures, c.count_in.ensures.total, c.from.ensures)) (omega (arith, c.min-end.ensures, c.count_in.ensures.total)))
    (c.push_range-pushed.ensures.ok older m stop given)
