use Rattle.node_feed.specs.Outcomes.{outside}
use Rattle.node_feed.proofs.FrontFacts.{at_err, feed_front}
use Rattle.block_reader.specs.Changes.{shelved}
use Rattle.own_laws.proofs.public.AwayFacts.{nothing_stays_away}
use Rattle.node_feed.proofs.reader.NodeReader.feed.Goals as goal

pub returns-in_err-self-inside-clause-lines : goal.returns-in_err-self-inside-clause-lines
returns-in_err-self-inside-clause-lines g c = λ goes text h.
    at_err c.from_residual-in_err-self-inside.result
    (feed_front text c.args.piece.now c.args.self.now
    (outside c.args.relay.now (g.S.Shelf.files c.args.shelf.now) c.args.own.now (g.S.Shelf.shelf_faults c.args.shelf.now) c.args.out.now.items)
    (outside c.feed_piece.new.relay (g.S.Shelf.files c.feed_piece.new.shelf) c.feed_piece.new.own (g.S.Shelf.shelf_faults c.feed_piece.new.shelf) c.feed_piece.new.out.items)
    c.in_err-self-inside.field-0.0 (c.in_err-self-inside.ensures.answer text h))

pub returns-in_err-push_over-clause-away : goal.returns-in_err-push_over-clause-away
returns-in_err-push_over-clause-away g c = nothing_stays_away c.args.self.now.name (shelved (g.S.Shelf.files c.args.shelf.now) c.args.own.now)

pub returns-then-self-clause-away : goal.returns-then-self-clause-away
returns-then-self-clause-away g c = nothing_stays_away c.args.self.now.name (shelved (g.S.Shelf.files c.args.shelf.now) c.args.own.now)
