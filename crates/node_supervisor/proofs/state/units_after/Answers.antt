use Rattle.node_supervisor.proofs.WaitFacts.{short_wait, long_wait}
use Rattle.node_supervisor.proofs.state.units_after.Goals as goal

pub returns-then-deaths-lt-LONG_FROM : goal.returns-then-deaths-lt-LONG_FROM
returns-then-deaths-lt-LONG_FROM c = short_wait c.args.deaths c.requires c.if-deaths-lt-LONG_FROM.true

pub returns-else-deaths-lt-LONG_FROM : goal.returns-else-deaths-lt-LONG_FROM
returns-else-deaths-lt-LONG_FROM c = long_wait c.args.deaths c.if-deaths-lt-LONG_FROM.false
