use Rattle.std.proofs.lemmas.Result.{err_from_is_err_and}
use Rattle.block_relay.specs.Chronicle.{world_told}
use Rattle.shelf_load.proofs.EndingFacts.{round_more, round_over, round_refused}
use Rattle.shelf_load.proofs.ending.offer_put_by.Goals as goal

pub returns-in_err-offer_again : goal.returns-in_err-offer_again
returns-in_err-offer_again c =
    let p = err_from_is_err_and c.from_residual.result c.from_residual.ensures.1 in
    rw (p.1, p.2)
    (round_refused (world_told c.args.relay.now) (world_told c.loop-entry.relay) c.args.put_by.now c.loop-entry.entry-index c.entry-item.result c.in_err-offer_again.field-0.0
    c.loop-entry-test.true c.entry-item.is c.loop-entry.invariant c.in_err-offer_again.ensures)

pub returns-then-branch : goal.returns-then-branch
returns-then-branch c =
    round_over (world_told c.args.relay.now) (world_told c.loop-entry.relay) (world_told c.offer_again.new.relay) c.args.put_by.now c.loop-entry.entry-index c.entry-item.result c.in_ok-offer_again.field-0
    c.loop-entry-test.true c.entry-item.is c.loop-entry.invariant c.in_ok-offer_again.ensures c.if-branch.true

pub loop-entry-preserved : goal.loop-entry-preserved
loop-entry-preserved c =
    round_more (world_told c.args.relay.now) (world_told c.loop-entry.relay) (world_told c.offer_again.new.relay) c.args.put_by.now c.loop-entry.entry-index c.entry-item.result c.in_ok-offer_again.field-0
    c.loop-entry-test.true c.entry-item.is c.loop-entry.invariant c.in_ok-offer_again.ensures c.if-branch.false
