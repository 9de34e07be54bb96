use Rattle.std.proofs.Common.{◌≡◌, Err, ap, refl, sym, ◌∙◌, subst}
use Rattle.block_record.specs.declared.blocks.Slip.{Slip}
use Rattle.block_record.specs.Slips.{slip}
use Rattle.relay_model.specs.Offers.{Answer, judge}
use Rattle.relay_model.specs.Verdicts as verdict
use Rattle.block_intake.specs.Answers.{IsAnswer}
use Rattle.block_intake.specs.Intakes.{world_taken}
use Rattle.block_intake.specs.Judged.{verdict_of_judged}
use Rattle.block_intake.proofs.public.AlikeFacts.{answer_alike}
use Rattle.block_relay.specs.Chronicle.{IsKept, Told, world_told}
use Rattle.block_relay.proofs.DoneFacts.{stays_told}
use Rattle.block_relay.proofs.relay.Relay.take.Goals as goal

pub returns-in-WaitFull : goal.returns-in-WaitFull
returns-in-WaitFull c =
    let t = c.self.inside in
    let s = slip c.args.block.value in
    let w = world_told c.args.self.now in
    let k : IsKept w t.intake t.kind t.closed t.run t.size = subst (λ (x : Told). IsKept (world_told x) t.intake t.kind t.closed t.run t.size) c.self.view_is c.self.invariant.0 in
    let rule : verdict.WaitFull ≡ judge w s =
    subst (λ (x : Slip). verdict.WaitFull ≡ judge w x) (ap slip c.deref.ensures) (sym (ap (verdict_of_judged w (slip c.deref.result.now)) c.in-WaitFull.is) ∙ c.judge.ensures.rule) in
    let said = subst (λ (a : Answer). IsAnswer a (Err c.wait_full.result)) (sym (answer_alike w (world_taken t.intake) s verdict.WaitFull k.alike)) (c.wait_full.ensures s) in
    stays_told s c.args.self.now verdict.WaitFull (judge w s) (Err c.wait_full.result) rule said refl refl
