use Rattle.std.proofs.Common.{ltb}
use Rattle.std.proofs.lemmas.Fn.{filter_same}
use Rattle.std.proofs.Common.{rules}
use Rattle.wait_room.specs.declared.waiters.Waiter.{Waiter}
use Rattle.wait_room.proofs.scans.keep_above.Goals as goal

pub returns : goal.returns
returns c = filter_same _ (λ (w : Waiter). ltb c.args.num w.slip.num) _ (λ x b f k. search rules) _ _ c.retain.ensures.filtered
