use Rattle.std.proofs.Common.{arith, ◌∙◌}
use Rattle.bundle_merger.proofs.MessageFacts.{staged_more}
use Rattle.bundle_merger.proofs.messages.stage_messages.Goals as goal

pub loop-block-preserved : goal.loop-block-preserved
loop-block-preserved g c = record {
  staged =
      staged_more c.args.blocks.now c.loop-block.block-index c.block-item.result c.deref.result.now (g.S.Shelf.staged c.args.shelf.now) (g.S.Shelf.staged c.loop-block.shelf) (g.S.Shelf.staged c.stage.new.self) c.as_slice.result.now
      c.loop-block-test.true c.block-item.is c.deref.ensures c.loop-block.invariant.staged (c.as_slice.ensures.value ∙ c.in_ok-frame.ensures) c.in_ok-stage.ensures.whole;
  files = c.in_ok-stage.ensures.files ∙ c.loop-block.invariant.files;
  later = omega (arith, c.loop-block.invariant.later, c.in_ok-stage.ensures.cause.later);
}
