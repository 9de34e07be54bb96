-- Runs in which no block is refused.
use Rattle.std.proofs.Common.{arith, ◌≡◌, inl, inr, Bool, true, false, cond, leb, ltb, List, [], ◌∷◌, ◌++◌, map, reverse, Option, Some, None, refl, sym, ◌∙◌, ap, append_assoc}
use Rattle.std.proofs.lemmas.Bool.{cases_Bool}
use Rattle.std.proofs.lemmas.List.{reverse-append}
use Rattle.block_record.specs.declared.blocks.Slip.{Slip}
use Rattle.chain_model.specs.declared.places.Place.{Place}
use Rattle.chain_model.specs.Ancestry.{find_id}
use Rattle.chain_model.specs.Finality.{root_num}
use Rattle.chain_model.specs.Steps.{plain_of}
use Rattle.relay_model.specs.declared.answers.Conflict.{Conflict as Clash}
use Rattle.relay_model.specs.Worlds.{World}
use Rattle.relay_model.specs.Offers.{Answer, Closed, Duplicate, Conflict, Early, Stale, WaitFull, Waiting, HistoryFull, Admitted, offered, clash, judge_limit, judge_clash, judge_parent, judge_linked, judge_held, judge, answer_by}
use Rattle.relay_model.specs.Verdicts.{Verdict}
use Rattle.relay_model.specs.Verdicts as verdict
use Rattle.relay_model.specs.Runs.{run, is_ok, taken, dropped_by, dropped}
use Rattle.step_text.specs.declared.refusals.Refusal.{Refusal}
use Rattle.step_text.specs.StepText.{first_clash, refusal_of, steps_by, place_by, goes_on, step_lines, tell}
use Rattle.step_laws.specs.Telling.{unless_refused, world_left}
use Rattle.relay_model.proofs.public.Judged.{closed_by}

-- offers in two parts
run-append : (w : World) (later earlier : List Slip) → run w (later ++ earlier) ≡ run (run w earlier) later
run-append w [] earlier = refl
run-append w (s ∷ later) earlier = ap (λ v. (offered v s).world) (run-append w later earlier)

dropped-append : (w : World) (later earlier : List Slip) → dropped w (later ++ earlier) ≡ dropped (run w earlier) later ++ dropped w earlier
dropped-append w [] earlier = refl
dropped-append w (s ∷ later) earlier =
    let e = run-append w later earlier in
    let d = dropped-append w later earlier in
    let first = dropped_by (offered (run (run w earlier) later) s).answer in
    ap (λ v. dropped_by (offered v s).answer ++ dropped w (later ++ earlier)) e ∙ ap (λ x. first ++ x) d ∙ sym (append_assoc first (dropped (run w earlier) later) (dropped w earlier))

-- an answer that refuses nothing dropped nothing
none_dropped : (a : Answer) → refusal_of a ≡ None → dropped_by a ≡ []
none_dropped (Closed len) e = refl
none_dropped Duplicate e = refl
none_dropped (Conflict c) e = refl
none_dropped Early e = refl
none_dropped Stale e = refl
none_dropped (WaitFull blocks bytes) e = refl
none_dropped Waiting e = refl
none_dropped (HistoryFull len need) e = refl
none_dropped (Admitted from count dropped) e = go dropped e
  where
    go : (cs : List Clash) → first_clash cs ≡ None → cs ≡ []
    go [] h = refl
    go (c ∷ cs) h = absurd (cc)

-- a relay that is not closed answers no block that it is
limit_open : (w : World) (s : Slip) → judge_limit w s ≡ verdict.Closed → ⊥
limit_open w s e = grind (arith, e)

clash_open : (w : World) (s : Slip) (o : Option Clash) → judge_clash w s o ≡ verdict.Closed → ⊥
clash_open w s None e = limit_open w s e
clash_open w s (Some c) e = cc

parent_open : (w : World) (s : Slip) (o : Option Slip) → judge_parent w s o ≡ verdict.Closed → ⊥
parent_open w s None e = grind (arith, e)
parent_open w s (Some p) e = clash_open w s (clash w.history s) e

linked_open : (w : World) (s : Slip) (h : List Slip) → judge_linked w s h ≡ verdict.Closed → ⊥
linked_open w s [] e = limit_open w s e
linked_open w s (t ∷ older) e =
    elim (cases_Bool (leb s.num (root_num w.history))) [
      | inl low ↦ grind (arith, e, low)
      | inr high ↦ parent_open w s (find_id w.history s.parent_id) (rw high at e)
    ]

held_open : (w : World) (s : Slip) (o : Option Slip) → judge_held w s o ≡ verdict.Closed → ⊥
held_open w s (Some h) e = grind (arith, e)
held_open w s None e =
    elim (cases_Bool (ltb s.num w.first)) [
      | inl low ↦ grind (arith, e, low)
      | inr high ↦ linked_open w s w.history (rw high at e)
    ]

judged_open : (w : World) (s : Slip) → w.closed ≡ false → judge w s ≡ verdict.Closed → ⊥
judged_open w s is e = held_open w s (find_id (w.waiting ++ w.history) s.id) (rw is at e)

-- so an answer that refuses nothing is Ok
ok_by : (w : World) (s : Slip) → w.closed ≡ false → (v : Verdict) → judge w s ≡ v → refusal_of (answer_by w s v) ≡ None → is_ok (answer_by w s v) ≡ true
ok_by w s is verdict.Closed e none = absurd (judged_open w s is e)
ok_by w s is verdict.Duplicate e none = refl
ok_by w s is (verdict.Conflict c) e none = absurd (cc)
ok_by w s is verdict.Early e none = refl
ok_by w s is verdict.Stale e none = refl
ok_by w s is verdict.WaitFull e none = absurd (cc)
ok_by w s is verdict.Waiting e none = refl
ok_by w s is (verdict.HistoryFull need) e none = absurd (cc)
ok_by w s is verdict.Admitted e none = refl

taken-append : (w : World) (later earlier : List Slip) → taken w (later ++ earlier) ≡ taken (run w earlier) later ++ taken w earlier
taken-append w [] earlier = refl
taken-append w (s ∷ later) earlier =
    let P : Bool → Type 0 = λ b. cond b (s ∷ taken w (later ++ earlier)) (taken w (later ++ earlier)) ≡ cond b (s ∷ taken (run w earlier) later) (taken (run w earlier) later) ++ taken w earlier in
    let rest = taken-append w later earlier in
    let both : (b : Bool) → P b = λ b. elim b as P [ true ↦ ap (λ l. s ∷ l) rest | false ↦ rest ] in
    ap (λ v. cond (is_ok (offered v s).answer) (s ∷ taken w (later ++ earlier)) (taken w (later ++ earlier))) (run-append w later earlier) ∙ both (is_ok (offered (run (run w earlier) later) s).answer)

-- where no block is refused, the world that is left is that of the run, nothing was dropped, and all blocks were answered Ok
pub record IsWhole (slips : List Slip) (w : World) : Type 0 where
  pub left : world_left slips w ≡ run w (reverse slips)
  pub kept : dropped w (reverse slips) ≡ []
  pub all : taken w (reverse slips) ≡ reverse slips

pub whole_run : (slips : List Slip) (w : World) (place : Place) → w.closed ≡ false → (tell slips w place).refusal ≡ None → IsWhole slips w
whole_run [] w place is e = record { left = refl; kept = refl; all = refl }
whole_run (s ∷ slips) w place is e =
    let after = (offered w s).world in
    let to = place_by (offered w s).answer after.history place in
    go (refusal_of (offered w s).answer) refl e (λ h. whole_run slips after to (closed_by w s (judge w s) ∙ is) h)
  where
    go : (r : Option Refusal) → refusal_of (offered w s).answer ≡ r
        → (goes_on (step_lines (map plain_of (steps_by (offered w s).answer (offered w s).world.history place))) r (tell slips (offered w s).world (place_by (offered w s).answer (offered w s).world.history place))).refusal ≡ None
        → ((tell slips (offered w s).world (place_by (offered w s).answer (offered w s).world.history place)).refusal ≡ None → IsWhole slips (offered w s).world)
        → IsWhole (s ∷ slips) w
    go (Some r) none h rest = absurd (cc)
    go None none h rest =
        let below = rest h in
        let turned : reverse (s ∷ slips) ≡ reverse slips ++ s ∷ [] = reverse-append (s ∷ []) slips in
        let ok = ok_by w s is (judge w s) refl none in
        record {
          left = ap (λ r. unless_refused r (offered w s).world (world_left slips (offered w s).world)) none ∙ below.left ∙ sym (run-append w (reverse slips) (s ∷ [])) ∙ ap (run w) (sym turned);
          kept = ap (dropped w) turned ∙ dropped-append w (reverse slips) (s ∷ []) ∙ ap (λ x. x ++ (dropped_by (offered w s).answer ++ [])) below.kept ∙ ap (λ x. x ++ []) (none_dropped (offered w s).answer none);
          all = ap (taken w) turned ∙ taken-append w (reverse slips) (s ∷ []) ∙ ap (λ x. x ++ taken w (s ∷ [])) below.all ∙ ap (λ b. reverse slips ++ cond b (s ∷ []) []) ok ∙ sym turned;
        }
