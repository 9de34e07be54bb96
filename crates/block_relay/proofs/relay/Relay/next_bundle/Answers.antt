use Rattle.std.proofs.Common.{ap, sym, ◌∙◌, subst}
use Rattle.bundle_model.specs.Plans.{next_plan}
use Rattle.fork_db.specs.Forks.{Forks}
use Rattle.stored_blocks.specs.Stored.{world_in}
use Rattle.block_relay.specs.Chronicle.{IsKept, Told, world_told}
use Rattle.block_relay.specs.Held.{AreGone}
use Rattle.block_relay.proofs.StoredFacts.{plan_alike}
use Rattle.block_relay.proofs.relay.Relay.next_bundle.Goals as goal

pub returns : goal.returns
returns c =
    let t = c.self.inside in
    let k : IsKept (world_told c.args.self.now) t.intake t.kind t.closed t.run t.size = subst (λ (x : Told). IsKept (world_told x) t.intake t.kind t.closed t.run t.size) c.self.view_is c.self.invariant.0 in
    let gone : AreGone (world_told c.args.self.now).stored t.intake.forks.held = subst (λ (x : Told). AreGone (world_told x).stored t.intake.forks.held) c.self.view_is c.self.invariant.5 in
    let w = world_told c.args.self.now in
    let same = plan_alike w t.intake.forks k.alike.history gone in
    c.in_ok-plan.ensures ∙ ap (λ (f : Forks). next_plan (world_in t.size f)) c.history-db.ensures ∙ ap (λ n. next_plan (world_in n t.intake.forks)) (sym k.size_is) ∙ sym same
