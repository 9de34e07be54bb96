-- What an offer leaves, verdict by verdict.
use Rattle.std.proofs.Common.{arith, ◌≡◌, ◌<◌, ◌+◌, ◌++◌, ℕ, false, [], length, Result, Err, refl, sym, ◌∙◌, ap, subst}
use Rattle.block_record.specs.declared.blocks.Slip.{Slip}
use Rattle.relay_model.specs.Worlds.{descendants}
use Rattle.relay_model.specs.Offers.{HistoryFull, answer_by, judge, judge_limit, world_by}
use Rattle.relay_model.specs.Verdicts.{Verdict}
use Rattle.relay_model.specs.Verdicts as verdict
use Rattle.relay_model.specs.Chronicles.{added_by}
use Rattle.relay_model.specs.Soundness.{IsBlock, IsSound}
use Rattle.block_intake.specs.declared.answers.Offered.{Offered}
use Rattle.block_intake.specs.declared.answers.OfferFault.{OfferFault}
use Rattle.block_intake.specs.declared.answers.OfferFault.TheVariants as fault
use Rattle.block_intake.specs.Answers.{IsAnswer, TakesMemory, is_mem}
use Rattle.block_intake.specs.Taking.{IsRoomFault}
use Rattle.block_intake.specs.Intakes.{IsAlike, TakenIn, world_taken}
use Rattle.block_intake.proofs.public.IntakeFacts.{full_rule, limit_memory}
use Rattle.block_relay.specs.Chronicle.{Told, world_told}
use Rattle.block_relay.specs.Done.{IsDone}
use Rattle.block_relay.proofs.KeptFacts.{told, told_left}

-- no memory
pub no_memory : (s : Slip) (old new : Told) (v u : Verdict) → v ≡ u → TakesMemory (answer_by (world_told old) s v) → new ≡ old → IsDone u s old new (Err fault.Mem)
no_memory s old new v u e takes same = record {
  said = subst (λ (x : Verdict). TakesMemory (answer_by (world_told old) s x)) e takes;
  entries = λ m. absurd (grind (arith, m));
  world = λ m. absurd (grind (arith, m));
  mem = λ _. same;
}

-- an answer that changes what is told
pub changed : (s : Slip) (t old new : Told) (v : Verdict) (result : Result Offered OfferFault) → t ≡ old → judge (world_told t) s ≡ v → IsSound (world_told t) → IsBlock s
    → IsAnswer (answer_by (world_told t) s v) result → is_mem result ≡ false
    → new.entries ≡ added_by (world_told t) s v ++ t.entries → new.conflicts ≡ (world_by (world_told t) s v).conflicts → IsDone (judge (world_told old) s) s old new result
changed s t old new v result is rule sound block said ok entries conflicts =
    let parts : world_told new ≡ world_told (told (added_by (world_told t) s v ++ t.entries) (world_by (world_told t) s v).conflicts) = rw (← entries, ← conflicts) refl in
    subst (λ (o : Told). IsDone (judge (world_told o) s) s o new result) is (subst (λ (x : Verdict). IsDone x s t new result) (sym rule) (record {
      said = said;
      entries = λ _. entries;
      world = λ _. parts ∙ told_left t.entries t.conflicts s v sound block rule;
      mem = λ m. absurd (grind (arith, m, ok));
    }))

-- an answer that leaves what is told as it is
pub stays_told : (s : Slip) (t : Told) (v u : Verdict) (result : Result Offered OfferFault) → v ≡ u → IsAnswer (answer_by (world_told t) s v) result → added_by (world_told t) s v ≡ [] → world_by (world_told t) s v ≡ world_told t
    → IsDone u s t t result
stays_told s t v u result e said none same =
    subst (λ (x : Verdict). IsDone x s t t result) e (record {
      said = said;
      entries = λ _. sym (ap (λ l. l ++ t.entries) none);
      world = λ _. sym same;
      mem = λ _. refl;
    })

-- a block that links and for which no room was made
pub room_refused : (s : Slip) (old new : Told) (t : TakenIn) (f : OfferFault) → new ≡ old → IsAlike (world_told old) (world_taken t) → IsRoomFault f → judge (world_told old) s ≡ judge_limit (world_told old) s
    → ((len need : ℕ) → f ≡ fault.HistoryFull len need → (len ≡ length t.forks.history) × (need ≡ 1 + descendants t.room.waiting s.id) × (t.forks.limit < len + need))
    → IsDone (judge (world_told old) s) s old new (Err f)
room_refused s old new t (fault.HistoryFull len need) same a is rule full =
    let w = world_told old in
    let k = full len need refl in
    let limit : w.limits.history ≡ t.forks.limit = ap (λ l. l.history) a.limits in
    let start : len ≡ length w.history = k.0 ∙ sym (ap length a.history) in
    let count : need ≡ 1 + descendants w.waiting s.id = k.1 ∙ sym (ap (λ l. 1 + descendants l s.id) a.waiting) in
    let over : w.limits.history < len + need = subst (λ n. n < len + need) (sym limit) k.2 in
    let v : verdict.HistoryFull need ≡ judge w s = sym (rule ∙ full_rule w s len need (start, count, over)) in
    subst (λ (x : Verdict). IsDone x s old new (Err (fault.HistoryFull len need))) v (record {
      said = ap (λ n. HistoryFull n need) (sym start);
      entries = λ _. ap (λ (x : Told). x.entries) same;
      world = λ _. ap world_told same;
      mem = λ m. absurd (grind (arith, m));
    })
room_refused s old new t fault.Mem same a is rule full = no_memory s old new (judge_limit (world_told old) s) (judge (world_told old) s) (sym rule) (limit_memory (world_told old) s) same
room_refused s old new t (fault.Closed len) same a is rule full = absurd is
room_refused s old new t (fault.Conflict c) same a is rule full = absurd is
room_refused s old new t (fault.WaitFull blocks bytes) same a is rule full = absurd is
