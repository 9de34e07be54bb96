use Rattle.std.proofs.Common.{ap, cond, sym, ◌∙◌}
use Rattle.block_record.specs.SlipRefs.{slip_seen}
use Rattle.relay_model.specs.declared.answers.ConflictKind.TheVariants as kind
use Rattle.relay_model.specs.Offers.{conflict}
use Rattle.relay_model.specs.Verdicts as verdict
use Rattle.block_intake.proofs.JudgedFacts.{same_slip_comm}
use Rattle.block_intake.proofs.judged.judge_same.Goals as goal

pub returns-then-is_same-clause-rule : goal.returns-then-is_same-clause-rule
returns-then-is_same-clause-rule c =
    λ w.
    let s = slip_seen c.args.slip in
    let h = c.args.held.now in
    sym (ap (λ b. cond b verdict.Duplicate (verdict.Conflict (conflict kind.Id h s))) (same_slip_comm h s ∙ sym c.is_same.ensures ∙ c.if-is_same.true))

pub returns-clause-rule : goal.returns-clause-rule
returns-clause-rule c =
    λ w.
    let s = slip_seen c.args.slip in
    let h = c.args.held.now in
    sym (ap (λ b. cond b verdict.Duplicate (verdict.Conflict (conflict kind.Id h s))) (same_slip_comm h s ∙ sym c.is_same.ensures ∙ c.if-is_same.false))
