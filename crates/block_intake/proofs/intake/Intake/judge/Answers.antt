use Rattle.std.proofs.Common.{◌≡◌, refl, subst}
use Rattle.block_record.specs.SlipRefs.{slip_seen}
use Rattle.relay_model.specs.Offers.{judge}
use Rattle.block_intake.specs.Intakes.{TakenIn, taken_in, world_taken}
use Rattle.block_intake.specs.Judged.{verdict_of_judged}
use Rattle.block_intake.proofs.public.IntakeFacts.{own_parts}
use Rattle.block_intake.proofs.intake.Intake.judge.Goals as goal

pub returns-clause-rule : goal.returns-clause-rule
returns-clause-rule c =
    let t = c.self.inside in
    let s = slip_seen c.args.slip in
    let v = taken_in t.first t.db t.room t.drops.spare in
    subst (λ (x : TakenIn). verdict_of_judged (world_taken x) s c.judge_offer.result ≡ judge (world_taken x) s) c.self.view_is (c.judge_offer.ensures.rule (world_taken v) (own_parts v) refl)
