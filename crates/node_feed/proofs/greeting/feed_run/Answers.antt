use Rattle.node_feed.proofs.GrowFacts.{grown_then}
use Rattle.block_reader.specs.Changes.{shelved}
use Rattle.own_laws.proofs.public.AwayFacts.{nothing_stays_away}
use Rattle.node_feed.proofs.greeting.feed_run.Goals as goal

pub returns-clause-grows : goal.returns-clause-grows
returns-clause-grows g c = grown_then c.args.relay.now c.greet.new.relay c.feed_blocks.new.relay c.greet.ensures.grows c.feed_blocks.ensures.grows

pub returns-in_default-clause-away : goal.returns-in_default-clause-away
returns-in_default-clause-away g c = nothing_stays_away c.args.name.now (shelved (g.S.Shelf.files c.args.shelf.now) c.args.own.now)

pub returns-in_err-greet-clause-away : goal.returns-in_err-greet-clause-away
returns-in_err-greet-clause-away g c = nothing_stays_away c.args.name.now (shelved (g.S.Shelf.files c.args.shelf.now) c.args.own.now)

pub returns-then-branch-clause-away : goal.returns-then-branch-clause-away
returns-then-branch-clause-away g c = nothing_stays_away c.args.name.now (shelved (g.S.Shelf.files c.args.shelf.now) c.args.own.now)
