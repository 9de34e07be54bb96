use Rattle.std.proofs.Common.{map}
use Rattle.std.specs.Option.{option_copied}
use Rattle.block_record.specs.Slips.{slip}
use Rattle.node_feed.specs.Outcomes.{outside}
use Rattle.node_feed.proofs.ReadFacts.{over_read, told_read}
use Rattle.node_feed.proofs.reading.feed_read.Goals as goal

pub returns-then-branch-clause-answer : goal.returns-then-branch-clause-answer
returns-then-branch-clause-answer g c =
    over_read c.args.name.now (option_copied c.args.kind) (map slip c.args.blocks.now.items) c.args.bad
    (outside c.args.relay.now (g.S.Shelf.files c.args.shelf.now) c.args.own.now (g.S.Shelf.shelf_faults c.args.shelf.now) c.args.out.now.items)
    (outside c.feed_run.new.relay (g.S.Shelf.files c.feed_run.new.shelf) c.feed_run.new.own (g.S.Shelf.shelf_faults c.feed_run.new.shelf) c.feed_run.new.out.items)
    c.in_ok-feed_run.field-0 c.if-branch.true c.in_ok-feed_run.ensures.answer

pub returns-clause-answer : goal.returns-clause-answer
returns-clause-answer g c =
    told_read c.args.name.now (option_copied c.args.kind) (map slip c.args.blocks.now.items) c.args.bad
    (outside c.args.relay.now (g.S.Shelf.files c.args.shelf.now) c.args.own.now (g.S.Shelf.shelf_faults c.args.shelf.now) c.args.out.now.items)
    (outside c.feed_run.new.relay (g.S.Shelf.files c.feed_run.new.shelf) c.feed_run.new.own (g.S.Shelf.shelf_faults c.feed_run.new.shelf) c.feed_run.new.out.items)
    c.in_ok-feed_run.field-0 c.in_ok-is_over.is_over c.tell_bad.new.out.items c.if-branch.false c.in_ok-feed_run.ensures.answer c.in_ok-is_over.ensures
