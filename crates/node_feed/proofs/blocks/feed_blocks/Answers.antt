use Rattle.std.proofs.Common.{rules, ◌≡◌, ◌≤◌, ◌∷◌, ◌∙◌, ap, length, map, sym}
use Rattle.std.specs.Vec.Iter.{drain_items}
use Rattle.block_record.specs.Slips.{slip}
use Rattle.node_feed.specs.Outcomes.{outside}
use Rattle.node_feed.proofs.GrowFacts.{grown_same, grown_then}
use Rattle.node_feed.proofs.ListFacts.{begun, ends, goes, next_left, whole}
use Rattle.std.specs.Prelude.{vec_len}
use Rattle.block_reader.specs.Changes.{shelved}
use Rattle.own_laws.proofs.public.AwayFacts.{nothing_stays_away, takes_go_on}
use Rattle.node_feed.proofs.blocks.feed_blocks.Goals as goal

pub returns-in_err-feed_block-clause-grows : goal.returns-in_err-feed_block-clause-grows
returns-in_err-feed_block-clause-grows g c = grown_then c.args.relay.now c.loop-block.relay c.feed_block.new.relay c.loop-block.invariant.grows c.feed_block.ensures.grows

pub returns-then-branch-clause-grows : goal.returns-then-branch-clause-grows
returns-then-branch-clause-grows g c = grown_then c.args.relay.now c.loop-block.relay c.feed_block.new.relay c.loop-block.invariant.grows c.feed_block.ensures.grows

pub returns-then-branch-clause-answer : goal.returns-then-branch-clause-answer
returns-then-branch-clause-answer g c =
    let split : drain_items c.loop-block.block-iterator ≡ c.in-Some.block ∷ drain_items c.next.new.self = search rules in
    let old = outside c.args.relay.now (g.S.Shelf.files c.args.shelf.now) c.args.own.now (g.S.Shelf.shelf_faults c.args.shelf.now) c.args.out.now.items in
    let mid = outside c.loop-block.relay (g.S.Shelf.files c.loop-block.shelf) c.loop-block.own (g.S.Shelf.shelf_faults c.loop-block.shelf) c.loop-block.out.items in
    let new = outside c.feed_block.new.relay (g.S.Shelf.files c.feed_block.new.shelf) c.feed_block.new.own (g.S.Shelf.shelf_faults c.feed_block.new.shelf) c.feed_block.new.out.items in
    let all = map slip c.args.blocks.now.items in
    let left = drain_items c.next.new.self in
    ends c.args.name.now all (map slip left) (slip c.in-Some.block) old mid new
    (next_left c.args.name.now all old mid (drain_items c.loop-block.block-iterator) left c.in-Some.block split c.loop-block.invariant.under_way)
    c.args.kind.now c.in_ok-feed_block.field-0 c.if-branch.true c.in_ok-feed_block.ensures.answer

pub loop-block-preserved : goal.loop-block-preserved
loop-block-preserved g c =
    let split : drain_items c.loop-block.block-iterator ≡ c.in-Some.block ∷ drain_items c.next.new.self = search rules in
    let old = outside c.args.relay.now (g.S.Shelf.files c.args.shelf.now) c.args.own.now (g.S.Shelf.shelf_faults c.args.shelf.now) c.args.out.now.items in
    let mid = outside c.loop-block.relay (g.S.Shelf.files c.loop-block.shelf) c.loop-block.own (g.S.Shelf.shelf_faults c.loop-block.shelf) c.loop-block.out.items in
    let new = outside c.feed_block.new.relay (g.S.Shelf.files c.feed_block.new.shelf) c.feed_block.new.own (g.S.Shelf.shelf_faults c.feed_block.new.shelf) c.feed_block.new.out.items in
    let all = map slip c.args.blocks.now.items in
    let left = drain_items c.next.new.self in
    record {
      next = tt;
      finite = tt;
      under_way = goes c.args.name.now all (map slip left) (slip c.in-Some.block) old mid new
          (next_left c.args.name.now all old mid (drain_items c.loop-block.block-iterator) left c.in-Some.block split c.loop-block.invariant.under_way)
          c.args.kind.now c.in_ok-feed_block.field-0 c.if-branch.false c.feed_block.ensures.later c.in_ok-feed_block.ensures.answer;
      grows = grown_then c.args.relay.now c.loop-block.relay c.feed_block.new.relay c.loop-block.invariant.grows c.feed_block.ensures.grows;
      away = takes_go_on c.args.name.now (shelved (g.S.Shelf.files c.args.shelf.now) c.args.own.now) (shelved (g.S.Shelf.files c.loop-block.shelf) c.loop-block.own) (shelved (g.S.Shelf.files c.feed_block.new.shelf) c.feed_block.new.own) c.loop-block.invariant.away c.feed_block.ensures.away;
      own = c.feed_block.ensures.own;
      kept = λ was. c.feed_block.ensures.kept (c.loop-block.invariant.kept was);
    }

pub returns-in_err-feed_block-clause-away : goal.returns-in_err-feed_block-clause-away
returns-in_err-feed_block-clause-away g c = takes_go_on c.args.name.now (shelved (g.S.Shelf.files c.args.shelf.now) c.args.own.now) (shelved (g.S.Shelf.files c.loop-block.shelf) c.loop-block.own) (shelved (g.S.Shelf.files c.feed_block.new.shelf) c.feed_block.new.own) c.loop-block.invariant.away c.feed_block.ensures.away

pub returns-then-branch-clause-away : goal.returns-then-branch-clause-away
returns-then-branch-clause-away g c = takes_go_on c.args.name.now (shelved (g.S.Shelf.files c.args.shelf.now) c.args.own.now) (shelved (g.S.Shelf.files c.loop-block.shelf) c.loop-block.own) (shelved (g.S.Shelf.files c.feed_block.new.shelf) c.feed_block.new.own) c.loop-block.invariant.away c.feed_block.ensures.away

pub loop-block-init : goal.loop-block-init
loop-block-init g c =
    let fit : length c.args.blocks.now.items ≤ vec_len c.args.blocks.now = search rules in
    let rest : drain_items c.drain-block-items.result ≡ c.args.blocks.now.items = c.drain-block-items.ensures.rest ∙ whole c.args.blocks.now.items (vec_len c.args.blocks.now) fit in
    let same : drain_items c.into_iter-block-iterator.result ≡ drain_items c.drain-block-items.result = ap drain_items c.into_iter-block-iterator.ensures.into_iter_gives in
    record {
      next = tt;
      finite = tt;
      under_way = begun c.args.name.now (map slip c.args.blocks.now.items) (map slip (drain_items c.into_iter-block-iterator.result))
          (outside c.args.relay.now (g.S.Shelf.files c.args.shelf.now) c.args.own.now (g.S.Shelf.shelf_faults c.args.shelf.now) c.args.out.now.items) (ap (map slip) (sym (same ∙ rest)));
      grows = grown_same c.args.relay.now;
      away = nothing_stays_away c.args.name.now (shelved (g.S.Shelf.files c.args.shelf.now) c.args.own.now);
      own = c.requires.own;
      kept = λ was. was;
    }
