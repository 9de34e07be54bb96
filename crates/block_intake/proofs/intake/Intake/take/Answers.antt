use Rattle.std.proofs.Common.{rules, ◌≡◌, Err, Ok, Result, is_some, ap, refl, subst, sym, ◌∙◌}
use Rattle.block_intake.specs.declared.answers.Offered.{Offered}
use Rattle.block_intake.specs.declared.answers.OfferFault.{OfferFault}
use Rattle.relay_model.specs.Offers.{Conflict, conflict, judge}
use Rattle.relay_model.specs.Verdicts as verdict
use Rattle.block_record.specs.declared.blocks.Slip.{Slip}
use Rattle.block_intake.specs.declared.answers.Offered.TheVariants as answer
use Rattle.block_intake.specs.declared.answers.OfferFault.TheVariants as fault
use Rattle.block_intake.specs.Intakes.{IsOffered, IsUnchanged, world_taken}
use Rattle.block_intake.specs.Judged.{verdict_of_judged}
use Rattle.block_intake.proofs.public.IntakeFacts.{no_memory, stays_offered, unchanged_same}
use Rattle.block_intake.proofs.intake.Intake.take.Goals as goal

pub returns-in-WaitFull : goal.returns-in-WaitFull
returns-in-WaitFull c =
    stays_offered c.args.self.now c.args.slip _ verdict.WaitFull _ (Err c.wait_full.result) (sym (ap (verdict_of_judged (world_taken c.args.self.now) c.args.slip) c.in-WaitFull.is) ∙ c.judge_slip.ensures.rule)
    (c.wait_full.ensures c.args.slip) refl

pub returns-in-Duplicate : goal.returns-in-Duplicate
returns-in-Duplicate c =
    stays_offered c.args.self.now c.args.slip _ verdict.Duplicate _ (Ok answer.Duplicate) (sym (ap (verdict_of_judged (world_taken c.args.self.now) c.args.slip) c.in-Duplicate.is) ∙ c.judge_slip.ensures.rule) refl refl

pub returns-in_ok-held-in-Conflict : goal.returns-in_ok-held-in-Conflict
returns-in_ok-held-in-Conflict c =
    stays_offered c.args.self.now c.args.slip _ (verdict.Conflict (conflict c.in-Conflict.kind c.in-Conflict.held.now c.args.slip)) _ _
    (sym (ap (verdict_of_judged (world_taken c.args.self.now) c.args.slip) c.in-Conflict.is) ∙ c.judge_slip.ensures.rule)
    (ap (λ (h : Slip). Conflict (conflict c.in-Conflict.kind h c.args.slip)) (sym c.in_ok-held-in-Conflict.ensures)) refl

pub returns-in_err-held-in-Conflict : goal.returns-in_err-held-in-Conflict
returns-in_err-held-in-Conflict c =
    let is : c.from_residual.result ≡ Err fault.Mem = search rules in
    subst (λ (r : Result Offered OfferFault). IsOffered (judge (world_taken c.args.self.now) c.args.slip) c.args.slip (is_some c.args.block) c.args.self.now c.args.self.now r) (sym is)
    (no_memory c.args.self.now c.args.self.now c.args.slip _ (verdict.Conflict (conflict c.in-Conflict.kind c.in-Conflict.held.now c.args.slip)) _
    (sym (ap (verdict_of_judged (world_taken c.args.self.now) c.args.slip) c.in-Conflict.is) ∙ c.judge_slip.ensures.rule) tt (unchanged_same c.args.self.now))

pub returns-in_err-let_wait-in-Waiting : goal.returns-in_err-let_wait-in-Waiting
returns-in_err-let_wait-in-Waiting c =
    let is : c.from_residual-in_err-let_wait-in-Waiting.result ≡ Err fault.Mem = search rules in
    let same : IsUnchanged c.args.self.now c.let_wait.new.self = subst (IsUnchanged c.args.self.now) (sym c.in_err-let_wait-in-Waiting.ensures.err) (unchanged_same c.args.self.now) in
    subst (λ (r : Result Offered OfferFault). IsOffered (judge (world_taken c.args.self.now) c.args.slip) c.args.slip (is_some c.args.block) c.args.self.now c.let_wait.new.self r) (sym is)
    (no_memory c.args.self.now c.let_wait.new.self c.args.slip _ verdict.Waiting _
    (sym (ap (verdict_of_judged (world_taken c.args.self.now) c.args.slip) c.in-Waiting.is) ∙ c.judge_slip.ensures.rule) tt same)
