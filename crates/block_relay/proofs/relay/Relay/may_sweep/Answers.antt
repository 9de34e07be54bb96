use Rattle.std.proofs.Common.{◌&&◌, List, not, ap, subst, sym, ◌∙◌}
use Rattle.block_record.specs.declared.blocks.Slip.{Slip}
use Rattle.bundle_model.specs.Shedding.{is_reached}
use Rattle.block_tree.proofs.public.PlaceFacts.{place_range}
use Rattle.chain_model.specs.Ancestry.{has_id}
use Rattle.chain_model.specs.Finality.{final_tip}
use Rattle.fork_db.specs.Forks.{Forks}
use Rattle.stored_blocks.specs.Stored.{is_gone}
use Rattle.block_relay.specs.Chronicle.{IsKept, Told, world_told}
use Rattle.block_relay.specs.Held.{AreGone}
use Rattle.block_relay.proofs.StoredFacts.{gone_none, other_way, sweep_found, sweep_lost}
use Rattle.block_relay.proofs.relay.Relay.may_sweep.Goals as goal

pub held-requires : goal.held-requires
held-requires c = place_range _ _ _ (sym c.find.ensures ∙ c.in-Some.is)

pub returns-in-Some : goal.returns-in-Some
returns-in-Some c =
    let t = c.self.inside in
    let w = world_told c.args.self.now in
    let f = c.history-db.result.now in
    let k : IsKept w t.intake t.kind t.closed t.run t.size = subst (λ (x : Told). IsKept (world_told x) t.intake t.kind t.closed t.run t.size) c.self.view_is c.self.invariant.0 in
    let gone : AreGone w.stored f.held = subst (λ (g : Forks). AreGone w.stored g.held) (sym c.history-db.ensures) (subst (λ (x : Told). AreGone (world_told x).stored t.intake.forks.held) c.self.view_is c.self.invariant.5) in
    other_way _ c.is_none.result c.is_none.ensures ∙ gone_none _ c.held.result ∙ ap is_gone (sym c.held.ensures.value)
    ∙ sweep_found w f c.args.num c.in-Some.at c.args.id.now c.len.ensures.sound (k.alike.history ∙ ap (λ (g : Forks). g.history) (sym c.history-db.ensures)) gone (sym c.find.ensures ∙ c.in-Some.is)

pub returns-then-not-waits : goal.returns-then-not-waits
returns-then-not-waits c =
    let t = c.self.inside in
    let w = world_told c.args.self.now in
    let f = c.history-db.result.now in
    let k : IsKept w t.intake t.kind t.closed t.run t.size = subst (λ (x : Told). IsKept (world_told x) t.intake t.kind t.closed t.run t.size) c.self.view_is c.self.invariant.0 in
    let gone : AreGone w.stored f.held = subst (λ (g : Forks). AreGone w.stored g.held) (sym c.history-db.ensures) (subst (λ (x : Told). AreGone (world_told x).stored t.intake.forks.held) c.self.view_is c.self.invariant.5) in
    let waits = c.waits.ensures ∙ ap (λ (l : List Slip). has_id l c.args.id.now) (sym k.alike.waiting) in
    c.is_reached.ensures
    ∙ ap (λ b. not b && is_reached (final_tip f.history) c.args.num) (sym c.if-not-waits.true)
    ∙ sweep_lost w f c.args.num c.args.id.now c.waits.result (k.alike.history ∙ ap (λ (g : Forks). g.history) (sym c.history-db.ensures)) waits gone (sym c.find.ensures ∙ c.in-None.is)

pub returns-else-not-waits : goal.returns-else-not-waits
returns-else-not-waits c =
    let t = c.self.inside in
    let w = world_told c.args.self.now in
    let f = c.history-db.result.now in
    let k : IsKept w t.intake t.kind t.closed t.run t.size = subst (λ (x : Told). IsKept (world_told x) t.intake t.kind t.closed t.run t.size) c.self.view_is c.self.invariant.0 in
    let gone : AreGone w.stored f.held = subst (λ (g : Forks). AreGone w.stored g.held) (sym c.history-db.ensures) (subst (λ (x : Told). AreGone (world_told x).stored t.intake.forks.held) c.self.view_is c.self.invariant.5) in
    let waits = c.waits.ensures ∙ ap (λ (l : List Slip). has_id l c.args.id.now) (sym k.alike.waiting) in
    ap not c.if-not-waits.false
    ∙ ap (λ b. not b && is_reached (final_tip f.history) c.args.num) (sym c.if-not-waits.false)
    ∙ sweep_lost w f c.args.num c.args.id.now c.waits.result (k.alike.history ∙ ap (λ (g : Forks). g.history) (sym c.history-db.ensures)) waits gone (sym c.find.ensures ∙ c.in-None.is)
