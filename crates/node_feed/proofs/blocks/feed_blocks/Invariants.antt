use Rattle.std.proofs.Common.{map}
use Rattle.std.specs.Vec.Iter.{drain_items}
use Rattle.block_record.specs.Slips.{slip}
use Rattle.block_relay.specs.Chronicle.{world_told}
use Rattle.block_reader.specs.Changes.{shelved}
use Rattle.own_laws.specs.Away.{TakesAway}
use Rattle.block_reader.specs.Kept.{AreOwn, KeepsTold}
use Rattle.node_feed.specs.Growing.{IsGrown}
use Rattle.node_feed.specs.Outcomes.{outside}
use Rattle.node_feed.proofs.ListFacts.{IsUnderWay}
use Rattle.node_feed.proofs.blocks.feed_blocks.Given as goal

abbrev pub invariant-loop-block : goal.invariant-loop-block
invariant-loop-block g l = record {
  next : (goal.iterator-loop-block g).can_next l.block-iterator;
  finite : (goal.iterator-loop-block g).is_finite l.block-iterator;
  under_way : IsUnderWay l.name (map slip l.fn.blocks.items) (map slip (drain_items l.block-iterator))
      (outside l.fn.relay (g.S.Shelf.files l.fn.shelf) l.fn.own (g.S.Shelf.shelf_faults l.fn.shelf) l.fn.out.items)
      (outside l.relay (g.S.Shelf.files l.shelf) l.own (g.S.Shelf.shelf_faults l.shelf) l.out.items);
  grows : IsGrown l.fn.relay l.relay;
  away : TakesAway l.name (shelved (g.S.Shelf.files l.fn.shelf) l.fn.own) (shelved (g.S.Shelf.files l.shelf) l.own);
  own : AreOwn (g.S.Shelf.files l.shelf) l.own;
  kept : KeepsTold (g.S.Shelf.files l.fn.shelf) (world_told l.fn.relay) → KeepsTold (g.S.Shelf.files l.shelf) (world_told l.relay);
}
