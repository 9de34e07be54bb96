use Rattle.std.proofs.Common.{ap, sym, ◌∙◌, subst}
use Rattle.fork_db.specs.Forks.{Forks}
use Rattle.block_relay.specs.Chronicle.{IsKept, Told, world_told}
use Rattle.block_relay.proofs.relay.Relay.look.Goals as goal

pub returns-clause-said : goal.returns-clause-said
returns-clause-said c =
    let t = c.self.inside in
    let k : IsKept (world_told c.args.self.now) t.intake t.kind t.closed t.run t.size = subst (λ (x : Told). IsKept (world_told x) t.intake t.kind t.closed t.run t.size) c.self.view_is c.self.invariant.0 in
    c.look.ensures.said (world_told c.args.self.now)
    (record { shows = record { history = k.alike.history ∙ sym (ap (λ (f : Forks). f.history) c.history.ensures); closed = k.closed }; run = k.run_is })
