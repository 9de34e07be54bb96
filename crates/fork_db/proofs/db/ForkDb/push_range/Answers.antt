use Rattle.std.proofs.Common.{arith, ap, ◌∙◌, ◌∷◌, [], ◌+◌, ◌-◌, ◌++◌, drop, length, map, take}
use Rattle.std.proofs.lemmas.List.{length-append}
use Rattle.std.proofs.Math.Seq.{take-length}
use Rattle.chain_model.specs.Places.{steps_to}
use Rattle.fork_db.specs.Batches.{HasOwnBlock, item_seen}
use Rattle.fork_db.proofs.PlaceFacts.{first_kept, item_pushed}
use Rattle.fork_db.proofs.HoldFacts.{all_more, none_yet, none_told}
use Rattle.fork_db.proofs.db.ForkDb.push_range.Goals as goal

pub loop-index-preserved : goal.loop-index-preserved
loop-index-preserved c = record {
  told = λ older m stop given.
      item_pushed item_seen _ _ _ _ _ c.args.from c.loop-index.index (c.loop-index.index + 1 - c.args.from) (c.loop-index.index - c.args.from) (c.loop-index.invariant.told older m stop given)
      c.in_ok-push.ensures.items (c.in_ok-item.ensures.step older m stop given) (omega (arith, c.loop-index.auto.index)) (omega (arith, c.loop-index.auto.index));
  kept = first_kept _ _ _ _ c.loop-index.invariant.kept c.loop-index.invariant.more c.in_ok-push.ensures.items;
  within = omega (arith, c.loop-index-test.true);
  more = omega (arith, ap length c.in_ok-push.ensures.items, length-append c.loop-index.out.items (c.in_ok-item.item ∷ []), c.loop-index.invariant.more);
  holds = all_more _ (length c.args.out.now.items) c.loop-index.out.items _ c.in_ok-item.item c.loop-index.invariant.more c.in_ok-push.ensures.items c.in_ok-item.ensures.holds c.loop-index.invariant.holds;
  own = all_more HasOwnBlock (length c.args.out.now.items) c.loop-index.out.items _ c.in_ok-item.item c.loop-index.invariant.more c.in_ok-push.ensures.items c.in_ok-item.ensures.own c.loop-index.invariant.own;
}

pub returns-clause-ok : goal.returns-clause-ok
returns-clause-ok c = λ older m stop given.
    c.loop-index.invariant.told older m stop given
    ∙ ap (λ n. map item_seen c.args.out.now.items ++ take n (drop c.args.from (steps_to older c.args.batch.now.place m stop)))
    (omega (arith, c.loop-index-test.false, c.loop-index.auto.index, c.loop-index.invariant.within))

pub loop-index-init : goal.loop-index-init
loop-index-init c = record {
  told = λ older m stop given. none_told (map item_seen c.args.out.now.items) (drop c.args.from (steps_to older c.args.batch.now.place m stop)) c.args.from;
  kept = take-length c.args.out.now.items;
  within = omega arith;
  more = omega arith;
  holds = none_yet _ c.args.out.now.items;
  own = none_yet HasOwnBlock c.args.out.now.items;
}
