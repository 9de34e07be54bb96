-- That an offer is answered alike in worlds that are alike, and leaves such.
use Rattle.std.proofs.Common.{◌≡◌, ◌++◌, List, [], ◌∷◌, Option, Some, None, refl, sym, ◌∙◌, ap, subst, cond}
use Rattle.block_record.specs.declared.blocks.Slip.{Slip}
use Rattle.chain_model.specs.Ancestry.{find_id}
use Rattle.relay_model.specs.declared.answers.Conflict.{Conflict as Clash}
use Rattle.relay_model.specs.Worlds.{World}
use Rattle.relay_model.specs.Offers.{Intake, answer_by, clash, intake, judge, judge_clash, judge_held, judge_limit, judge_linked, judge_parent, offered, purged, world_by}
use Rattle.relay_model.specs.Verdicts.{Verdict}
use Rattle.relay_model.specs.Verdicts as verdict
use Rattle.block_intake.specs.declared.judged.Judged.{Judged}
use Rattle.block_intake.specs.declared.judged.Judged.TheVariants as judged
use Rattle.block_intake.specs.Intakes.{IsAlike}
use Rattle.block_intake.specs.Judged.{verdict_of_judged}
use Rattle.relay_model.proofs.public.Judged.{closed_by}

limit_alike : (w v : World) (s : Slip) → IsAlike w v → judge_limit w s ≡ judge_limit v s
limit_alike w v s a = rw (a.limits, a.history, a.waiting) refl

clash_alike : (w v : World) (s : Slip) (o : Option Clash) → IsAlike w v → judge_clash w s o ≡ judge_clash v s o
clash_alike w v s None a = limit_alike w v s a
clash_alike w v s (Some c) a = refl

parent_alike : (w v : World) (s : Slip) (o : Option Slip) → IsAlike w v → judge_parent w s o ≡ judge_parent v s o
parent_alike w v s None a = rw (a.limits, a.history, a.waiting) refl
parent_alike w v s (Some p) a = ap (λ l. judge_clash w s (clash l s)) a.history ∙ clash_alike w v s (clash v.history s) a

linked_alike : (w v : World) (s : Slip) (h : List Slip) → IsAlike w v → judge_linked w s h ≡ judge_linked v s h
linked_alike w v s [] a = limit_alike w v s a
linked_alike w v s (t ∷ older) a = rw (← parent_alike w v s (find_id v.history s.parent_id) a, a.history) refl

held_alike : (w v : World) (s : Slip) (o : Option Slip) → IsAlike w v → judge_held w s o ≡ judge_held v s o
held_alike w v s None a = rw (← linked_alike w v s v.history a, a.first, a.history) refl
held_alike w v s (Some h) a = refl

-- the rule that decides an offer
pub judge_alike : (w v : World) (s : Slip) → IsAlike w v → w.closed ≡ v.closed → judge w s ≡ judge v s
judge_alike w v s a closed =
    let held : judge_held w s (find_id (w.waiting ++ w.history) s.id) ≡ judge_held v s (find_id (v.waiting ++ v.history) s.id) =
    ap (λ l. judge_held w s (find_id (l ++ w.history) s.id)) a.waiting ∙ ap (λ l. judge_held w s (find_id (v.waiting ++ l) s.id)) a.history ∙ held_alike w v s (find_id (v.waiting ++ v.history) s.id) a in
    ap (λ b. cond b verdict.Closed (judge_held w s (find_id (w.waiting ++ w.history) s.id))) closed ∙ ap (λ r. cond v.closed verdict.Closed r) held

intake_alike : (w v : World) (s : Slip) → IsAlike w v → intake w s ≡ intake v s
intake_alike w v s a = rw (a.history, a.waiting) refl

-- what a rule answers
pub answer_alike : (w v : World) (s : Slip) (u : Verdict) → IsAlike w v → answer_by w s u ≡ answer_by v s u
answer_alike w v s verdict.Closed a = rw a.history refl
answer_alike w v s verdict.Duplicate a = refl
answer_alike w v s (verdict.Conflict c) a = refl
answer_alike w v s verdict.Early a = refl
answer_alike w v s verdict.Stale a = refl
answer_alike w v s verdict.WaitFull a = rw a.waiting refl
answer_alike w v s verdict.Waiting a = refl
answer_alike w v s (verdict.HistoryFull need) a = rw a.history refl
answer_alike w v s verdict.Admitted a = rw (a.history, a.waiting) refl

-- and what it leaves
pub world_alike : (w v : World) (s : Slip) (u : Verdict) → IsAlike w v → IsAlike (world_by w s u) (world_by v s u)
world_alike w v s verdict.Closed a = a
world_alike w v s verdict.Duplicate a = a
world_alike w v s (verdict.Conflict c) a = record { first = a.first; limits = a.limits; history = a.history; waiting = a.waiting }
world_alike w v s verdict.Early a = a
world_alike w v s verdict.Stale a = a
world_alike w v s verdict.WaitFull a = a
world_alike w v s verdict.Waiting a = record { first = a.first; limits = a.limits; history = a.history; waiting = ap (λ l. s ∷ l) a.waiting }
world_alike w v s (verdict.HistoryFull need) a = a
world_alike w v s verdict.Admitted a = record {
  first = a.first;
  limits = a.limits;
  history = ap (λ (i : Intake). i.history) (intake_alike w v s a);
  waiting = ap (λ (i : Intake). purged i.history i.waiting) (intake_alike w v s a);
}

pub alike_back : (w v : World) → IsAlike w v → IsAlike v w
alike_back w v a = record { first = sym a.first; limits = sym a.limits; history = sym a.history; waiting = sym a.waiting }

pub alike_on : (u w v : World) → IsAlike u w → w ≡ v → IsAlike u v
alike_on u w v a e = record {
  first = a.first ∙ ap (λ (x : World). x.first) e;
  limits = a.limits ∙ ap (λ (x : World). x.limits) e;
  history = a.history ∙ ap (λ (x : World). x.history) e;
  waiting = a.waiting ∙ ap (λ (x : World). x.waiting) e;
}

-- what an offer answers, and what it leaves
pub record AnswersAlike (w v : World) (s : Slip) : Type 0 where
  pub answer : (offered w s).answer ≡ (offered v s).answer
  pub world : IsAlike (offered w s).world (offered v s).world
  pub closed : (offered w s).world.closed ≡ (offered v s).world.closed

pub offered_alike : (w v : World) (s : Slip) → IsAlike w v → w.closed ≡ v.closed → AnswersAlike w v s
offered_alike w v s a closed =
    let rule = judge_alike w v s a closed in
    record {
      answer = ap (answer_by w s) rule ∙ answer_alike w v s (judge v s) a;
      world = subst (λ (u : Verdict). IsAlike (world_by w s u) (world_by v s (judge v s))) (sym rule) (world_alike w v s (judge v s) a);
      closed = closed_by w s (judge w s) ∙ closed ∙ sym (closed_by v s (judge v s));
    }

-- the rule that the code tells
pub judged_alike : (w v : World) (s : Slip) (j : Judged) → IsAlike w v → verdict_of_judged w s j ≡ verdict_of_judged v s j
judged_alike w v s judged.Duplicate a = refl
judged_alike w v s (judged.Conflict kind held) a = refl
judged_alike w v s judged.Early a = refl
judged_alike w v s judged.Stale a = refl
judged_alike w v s judged.WaitFull a = refl
judged_alike w v s judged.Waiting a = refl
judged_alike w v s (judged.Links linked) a = limit_alike w v s a
