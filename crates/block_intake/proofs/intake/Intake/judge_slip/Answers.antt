use Rattle.std.proofs.Common.{◌≡◌, sym, subst}
use Rattle.block_record.specs.declared.blocks.Slip.{Slip}
use Rattle.relay_model.specs.Offers.{judge}
use Rattle.relay_model.specs.Soundness.{IsBlock}
use Rattle.block_intake.specs.Intakes.{world_taken}
use Rattle.block_intake.specs.Judged.{IsLinked, verdict_of_judged}
use Rattle.block_intake.proofs.intake.Intake.judge_slip.Goals as goal

pub judge-requires : goal.judge-requires
judge-requires c = subst IsBlock (sym c.of_slip.ensures) c.requires

pub returns-clause-rule : goal.returns-clause-rule
returns-clause-rule c =
    let w = world_taken c.args.self.now in
    subst (λ (s : Slip). verdict_of_judged w s c.judge.result ≡ judge w s) c.of_slip.ensures c.judge.ensures.rule

pub returns-clause-linked : goal.returns-clause-linked
returns-clause-linked c = subst (λ (s : Slip). IsLinked c.args.self.now.forks.history s c.judge.result) c.of_slip.ensures c.judge.ensures.linked
