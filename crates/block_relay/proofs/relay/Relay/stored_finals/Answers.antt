use Rattle.std.proofs.Common.{◌∙◌, subst}
use Rattle.block_relay.specs.Chronicle.{IsKept, Told, world_told}
use Rattle.block_relay.specs.Held.{AreGone}
use Rattle.block_relay.proofs.StoredFacts.{finals_is}
use Rattle.block_relay.proofs.relay.Relay.stored_finals.Goals as goal

pub returns : goal.returns
returns c =
    let t = c.self.inside in
    let k : IsKept (world_told c.args.self.now) t.intake t.kind t.closed t.run t.size = subst (λ (x : Told). IsKept (world_told x) t.intake t.kind t.closed t.run t.size) c.self.view_is c.self.invariant.0 in
    let gone : AreGone (world_told c.args.self.now).stored t.intake.forks.held = subst (λ (x : Told). AreGone (world_told x).stored t.intake.forks.held) c.self.view_is c.self.invariant.5 in
    c.stored_finals.ensures ∙ finals_is (world_told c.args.self.now) t.intake.forks t.stored k.alike.history gone c.self.invariant.4
