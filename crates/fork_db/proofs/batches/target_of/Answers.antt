use Rattle.fork_db.proofs.BatchFacts.{target_last}
use Rattle.chain_model.specs.declared.places.Mode.TheVariants as mode
use Rattle.fork_db.proofs.batches.target_of.Goals as goal

pub returns-in-Live-clause-value : goal.returns-in-Live-clause-value
returns-in-Live-clause-value g c = rw c.in-Live.is (target_last c.args.tree.now.history mode.Live c.args.stop _ _ c.requires.head c.cut_at.ensures.value)

pub returns-in-Final-clause-value : goal.returns-in-Final-clause-value
returns-in-Final-clause-value g c = rw c.in-Final.is (target_last c.args.tree.now.history mode.Final c.args.stop _ _ c.requires.tip c.cut_at-in-Final.ensures.value)
