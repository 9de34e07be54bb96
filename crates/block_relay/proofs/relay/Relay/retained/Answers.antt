use Rattle.std.proofs.Common.{arith, subst}
use Rattle.block_relay.specs.Chronicle.{IsKept, Told, world_told}
use Rattle.block_relay.specs.Held.{AreGone}
use Rattle.block_relay.proofs.StoredFacts.{index_low, retained_is}
use Rattle.block_relay.proofs.relay.Relay.retained.Goals as goal

pub returns : goal.returns
returns c =
    let t = c.self.inside in
    let k : IsKept (world_told c.args.self.now) t.intake t.kind t.closed t.run t.size = subst (λ (x : Told). IsKept (world_told x) t.intake t.kind t.closed t.run t.size) c.self.view_is c.self.invariant.0 in
    let gone : AreGone (world_told c.args.self.now).stored t.intake.forks.held = subst (λ (x : Told). AreGone (world_told x).stored t.intake.forks.held) c.self.view_is c.self.invariant.5 in
    let is = retained_is (world_told c.args.self.now) t.intake.forks t.stored k.alike.history gone c.self.invariant.4 in
    omega (arith, is, c.len.ensures.len, c.stored.ensures)

pub overflow_sub-result : goal.overflow_sub-result
overflow_sub-result c = let t = c.self.inside in let low = index_low t.intake.forks t.stored c.self.invariant.4 in omega (arith, low, c.len.ensures.len, c.stored.ensures)
