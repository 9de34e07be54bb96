use Rattle.std.proofs.Common.{◌≡◌, sym, ◌∙◌, subst}
use Rattle.block_record.specs.declared.blocks.Slip.{Slip}
use Rattle.block_record.specs.Slips.{slip}
use Rattle.relay_model.specs.Offers.{judge}
use Rattle.relay_model.specs.Soundness.{IsBlock}
use Rattle.block_intake.specs.Intakes.{world_taken}
use Rattle.block_intake.specs.Judged.{IsLinked, verdict_of_judged}
use Rattle.block_intake.proofs.public.AlikeFacts.{judge_alike, judged_alike}
use Rattle.block_relay.specs.Chronicle.{IsKept, Told, world_told}
use Rattle.block_relay.proofs.relay.Relay.judge.Goals as goal

pub judge-requires : goal.judge-requires
judge-requires c = subst IsBlock (sym c.of_block.ensures) c.args.block.now.parent_first

pub returns-clause-rule : goal.returns-clause-rule
returns-clause-rule c =
    let t = c.self.inside in
    let s = slip c.args.block.now in
    let w = world_told c.args.self.now in
    let k : IsKept w t.intake t.kind t.closed t.run t.size = subst (λ (x : Told). IsKept (world_told x) t.intake t.kind t.closed t.run t.size) c.self.view_is c.self.invariant.0 in
    judged_alike w (world_taken t.intake) s c.judge.result k.alike
    ∙ subst (λ (x : Slip). verdict_of_judged (world_taken t.intake) x c.judge.result ≡ judge (world_taken t.intake) x) c.of_block.ensures c.judge.ensures.rule
    ∙ sym (judge_alike w (world_taken t.intake) s k.alike c.requires)

pub returns-clause-linked : goal.returns-clause-linked
returns-clause-linked c =
    let t = c.self.inside in
    let w = world_told c.args.self.now in
    let k : IsKept w t.intake t.kind t.closed t.run t.size = subst (λ (x : Told). IsKept (world_told x) t.intake t.kind t.closed t.run t.size) c.self.view_is c.self.invariant.0 in
    let linked = subst (λ (x : Slip). IsLinked t.intake.forks.history x c.judge.result) c.of_block.ensures c.judge.ensures.linked in
    subst (λ l. IsLinked l (slip c.args.block.now) c.judge.result) (sym k.alike.history) linked
