use Rattle.std.proofs.Common.{ap, sym, ◌∙◌, subst, List, drop, length}
use Rattle.std.specs.List.{AllByRecursion}
use Rattle.std.proofs.lemmas.Result.{on_ok_weaker}
use Rattle.block_record.specs.declared.blocks.Slip.{Slip}
use Rattle.fork_db.specs.Batches.{IsGiven}
use Rattle.fork_db.specs.Forks.{Forks}
use Rattle.block_relay.specs.Chronicle.{IsKept, Told, world_told}
use Rattle.block_relay.specs.Held.{AreGone}
use Rattle.chain_model.specs.Ancestry.{IsHistory}
use Rattle.fork_db.specs.Batches.{HoldsWhatIs}
use Rattle.block_relay.proofs.HeldFacts.{have_blocks}
use Rattle.block_relay.proofs.relay.Relay.chunk.Goals as goal

pub returns-clause-ok : goal.returns-clause-ok
returns-clause-ok c =
    λ older m stop given.
    let t = c.self.inside in
    let k : IsKept (world_told c.args.self.now) t.intake t.kind t.closed t.run t.size = subst (λ (x : Told). IsKept (world_told x) t.intake t.kind t.closed t.run t.size) c.self.view_is c.self.invariant.0 in
    c.chunk.ensures.ok older m stop (subst (λ (l : List Slip). IsGiven l older m stop c.args.batch.now) (k.alike.history ∙ sym (ap (λ (f : Forks). f.history) c.history.ensures)) given)

pub returns-clause-held : goal.returns-clause-held
returns-clause-held c =
    let t = c.self.inside in
    let k : IsKept (world_told c.args.self.now) t.intake t.kind t.closed t.run t.size = subst (λ (x : Told). IsKept (world_told x) t.intake t.kind t.closed t.run t.size) c.self.view_is c.self.invariant.0 in
    let gone : AreGone (world_told c.args.self.now).stored t.intake.forks.held = subst (λ (x : Told). AreGone (world_told x).stored t.intake.forks.held) c.self.view_is c.self.invariant.5 in
    let history = subst IsHistory k.alike.history k.sound.history in
    on_ok_weaker c.chunk.result
    (λ h. have_blocks (world_told c.args.self.now) t.intake.forks _ history k.alike.history gone (subst (λ (f : Forks). AllByRecursion (HoldsWhatIs f.history f.held) (drop (length c.args.out.now.items) c.chunk.new.out.items)) c.history.ensures h))
    c.chunk.ensures.holds
