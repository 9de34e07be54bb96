use Rattle.std.proofs.Common.{ap, refl, sym, subst, ◌∙◌}
use Rattle.block_record.specs.SlipRefs.{slip_seen}
use Rattle.block_intake.specs.Intakes.{world_taken}
use Rattle.block_intake.specs.Judged.{verdict_of_judged}
use Rattle.block_relay.specs.Chronicle.{IsKept, Told, world_told}
use Rattle.block_relay.proofs.HoldsFacts.{is_duplicate, holds_is}
use Rattle.block_relay.proofs.relay.Relay.holds.Goals as goal

pub returns-in-Duplicate : goal.returns-in-Duplicate
returns-in-Duplicate c =
    let t = c.self.inside in
    let w = world_told c.args.self.now in
    let s = slip_seen c.args.slip in
    let k : IsKept w t.intake t.kind t.closed t.run t.size = subst (λ (x : Told). IsKept (world_told x) t.intake t.kind t.closed t.run t.size) c.self.view_is c.self.invariant.0 in
    sym (ap (λ j. is_duplicate (verdict_of_judged (world_taken t.intake) s j)) c.in-Duplicate.is)
    ∙ holds_is w (world_taken t.intake) s (verdict_of_judged (world_taken t.intake) s c.judge.result) k.alike.history k.alike.waiting refl c.judge.ensures.rule
