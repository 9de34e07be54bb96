-- What an offer does while nothing waits.
use Rattle.std.proofs.Common.{arith, ◌≡◌, ◌≤◌, ◌+◌, ◌⊎◌, inl, inr, ℕ, true, false, List, [], ◌∷◌, ◌++◌, length, Option, Some, None, refl, sym, ◌∙◌, ap, subst, ltb, leb}
use Rattle.std.proofs.lemmas.Bool.{cases_Bool, both_ways}
use Rattle.block_record.specs.declared.blocks.Slip.{Slip}
use Rattle.chain_model.specs.Ancestry.{find_id, has_id}
use Rattle.chain_model.specs.Finality.{root_num}
use Rattle.chain_laws.proofs.public.Growth.{IsFound}
use Rattle.relay_model.specs.Worlds.{World, descendants}
use Rattle.relay_model.specs.Offers.{Answer, Intake, intake, take_in, purged, judge, judge_held, judge_linked, judge_parent, judge_limit, judge_clash, answer_by, world_by, offered}
use Rattle.relay_model.specs.Verdicts.{Verdict}
use Rattle.relay_model.specs.Verdicts as verdict
use Rattle.relay_model.proofs.public.Judged.{IsLinked, limit_takes, judged_waits}
use Rattle.relay_model.proofs.public.Sound.{none_found}
use Rattle.bundle_model.proofs.public.Climbs.{ltb_no, leb_no}
use Rattle.store_model.specs.Loads.{is_offered, if_full, first_full}

-- an open world in which nothing waits
pub record IsCalm (w : World) : Type 0 where
  pub opened : w.closed ≡ false
  pub none : w.waiting ≡ []

judge_open : (w : World) (s : Slip) → w.closed ≡ false → judge w s ≡ judge_held w s (find_id (w.waiting ++ w.history) s.id)
judge_open w s e = rw e refl

-- a block that is offered at once does not wait
held_none : (w : World) (s : Slip) → w.history ≡ [] → (o : Option Slip) → judge_held w s o ≡ verdict.Waiting → ⊥
held_none w s is (Some h) e = absurd (grind (arith, e))
held_none w s is None e =
    elim (cases_Bool (ltb s.num w.first)) [
      | inl low ↦ absurd (grind (arith, e, low))
      | inr high ↦ limit_takes w s (ap (judge_linked w s) (sym is) ∙ (rw high at e))
    ]

not_waits : (w : World) (s : Slip) → w.closed ≡ false → is_offered w.history s ≡ true → judge w s ≡ verdict.Waiting → ⊥
not_waits w s opened e j = go w.history refl
  where
    go : (h : List Slip) → w.history ≡ h → ⊥
    go [] is = held_none w s is (find_id (w.waiting ++ w.history) s.id) (sym (judge_open w s opened) ∙ j)
    go (t ∷ older) is =
        let there : has_id w.history s.parent_id ≡ true = ap (λ h. has_id h s.parent_id) is ∙ subst (λ (h : List Slip). is_offered h s ≡ true) is e in
        both_ways _ (none_found w.history s.parent_id (judged_waits w s j).orphan) there

-- what an offer leaves
pub record Effect (w : World) (s : Slip) (after : World) : Type 0 where
  pub opened : after.closed ≡ w.closed
  pub first : after.first ≡ w.first
  pub none : after.waiting ≡ []
  pub history : (after.history ≡ w.history) ⊎ (after.history ≡ s ∷ w.history)

intake_calm : (w : World) (s : Slip) → w.waiting ≡ [] → intake w s ≡ record { history = s ∷ w.history; waiting = []; dropped = [] }
intake_calm w s none = ap (λ (r : List Slip). take_in (length r) (record { history = s ∷ w.history; waiting = r; dropped = [] })) none

pub effect_by : (w : World) (s : Slip) → IsCalm w → is_offered w.history s ≡ true → (v : Verdict) → judge w s ≡ v → Effect w s (world_by w s v)
effect_by w s calm e verdict.Closed j = record { opened = refl; first = refl; none = calm.none; history = inl refl }
effect_by w s calm e verdict.Duplicate j = record { opened = refl; first = refl; none = calm.none; history = inl refl }
effect_by w s calm e (verdict.Conflict c) j = record { opened = refl; first = refl; none = calm.none; history = inl refl }
effect_by w s calm e verdict.Early j = record { opened = refl; first = refl; none = calm.none; history = inl refl }
effect_by w s calm e verdict.Stale j = record { opened = refl; first = refl; none = calm.none; history = inl refl }
effect_by w s calm e verdict.WaitFull j = record { opened = refl; first = refl; none = calm.none; history = inl refl }
effect_by w s calm e verdict.Waiting j = absurd (not_waits w s calm.opened e j)
effect_by w s calm e (verdict.HistoryFull need) j = record { opened = refl; first = refl; none = calm.none; history = inl refl }
effect_by w s calm e verdict.Admitted j =
    let d = intake_calm w s calm.none in
    record { opened = refl; first = refl; none = ap (λ (x : Intake). purged x.history x.waiting) d; history = inr (ap (λ (x : Intake). x.history) d) }

pub taken_history : (w : World) (s : Slip) → IsCalm w → (world_by w s verdict.Admitted).history ≡ s ∷ w.history
taken_history w s calm = ap (λ (x : Intake). x.history) (intake_calm w s calm.none)

-- a block that nothing speaks against
pub record IsGood (w : World) (s : Slip) : Type 0 where
  pub calm : IsCalm w
  pub late : w.first ≤ s.num
  pub own : (g : Slip) → find_id w.history s.id ≡ Some g → g ≡ s
  pub links : find_id w.history s.id ≡ None → (w.history ≡ []) ⊎ ((p : Slip) × IsLinked w s p)

limit_cases : (w : World) (s : Slip) → (judge_limit w s ≡ verdict.Admitted) ⊎ ((need : ℕ) × (judge_limit w s ≡ verdict.HistoryFull need))
limit_cases w s =
    elim (cases_Bool (leb (length w.history + (1 + descendants w.waiting s.id)) w.limits.history)) [
      | inl fits ↦ inl (rw fits refl)
      | inr more ↦ inr (1 + descendants w.waiting s.id, rw more refl)
    ]

linked_limit : (w : World) (s p : Slip) → IsLinked w s p → (h : List Slip) → judge_linked w s h ≡ judge_limit w s
linked_limit w s p l [] = refl
linked_limit w s p l (t ∷ older) =
    let high = leb_no s.num (root_num w.history) l.above in
    let step : judge_linked w s (t ∷ older) ≡ judge_parent w s (find_id w.history s.parent_id) = rw high refl in
    step ∙ ap (judge_parent w s) l.parent ∙ ap (judge_clash w s) l.fits

links_limit : (w : World) (s : Slip) → ((w.history ≡ []) ⊎ ((p : Slip) × IsLinked w s p)) → judge_linked w s w.history ≡ judge_limit w s
links_limit w s (inl empty) = ap (judge_linked w s) empty
links_limit w s (inr l) = linked_limit w s l.0 l.1 w.history

new_limit : (w : World) (s : Slip) → IsGood w s → find_id w.history s.id ≡ None → judge w s ≡ judge_limit w s
new_limit w s good new =
    let held : find_id (w.waiting ++ w.history) s.id ≡ None = ap (λ (r : List Slip). find_id (r ++ w.history) s.id) good.calm.none ∙ new in
    let late = ltb_no s.num w.first good.late in
    let step : judge_held w s None ≡ judge_linked w s w.history = rw late refl in
    judge_open w s good.calm.opened ∙ ap (judge_held w s) held ∙ step ∙ links_limit w s (good.links new)

pub judged_good : (w : World) (s : Slip) → IsGood w s → IsFound w.history s ⊎ (judge w s ≡ verdict.Admitted) ⊎ ((need : ℕ) × (judge w s ≡ verdict.HistoryFull need))
judged_good w s good = go (find_id w.history s.id) refl
  where
    go : (o : Option Slip) → find_id w.history s.id ≡ o → IsFound w.history s ⊎ (judge w s ≡ verdict.Admitted) ⊎ ((need : ℕ) × (judge w s ≡ verdict.HistoryFull need))
    go (Some g) e = inl (e ∙ ap (λ (x : Slip). Some x) (good.own g e))
    go None e =
        let same = new_limit w s good e in
        elim (limit_cases w s) [
          | inl takes ↦ inr (inl (same ∙ takes))
          | inr full ↦ inr (inr (full.0, same ∙ full.1))
        ]

-- no answer so far was that the history is full, nor is this one
pub not_full : (o : Option Answer) (a : Answer) → first_full o a ≡ None → (o ≡ None) × (if_full a ≡ None)
not_full None a e = (refl, e)
not_full (Some b) a e = absurd (grind (arith, e))

pub passes_full : (w : World) (s : Slip) (need : ℕ) → judge w s ≡ verdict.HistoryFull need → if_full (offered w s).answer ≡ None → ⊥
passes_full w s need j e =
    let e' : if_full (answer_by w s (verdict.HistoryFull need)) ≡ None = ap (λ (v : Verdict). if_full (answer_by w s v)) (sym j) ∙ e in
    grind (arith, e')
