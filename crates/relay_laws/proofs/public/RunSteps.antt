-- A run, offer by offer.
use Rattle.std.proofs.Common.{arith, ◌≡◌, ◌<◌, ◌⊎◌, inl, inr, ℕ, Bool, true, false, cond, leb, List, [], ◌∷◌, ◌++◌, Option, Some, None, refl, sym, ◌∙◌, ap, subst}
use Rattle.std.specs.List.{AllByRecursion, list_any}
use Rattle.std.proofs.lemmas.Bool.{cases_Bool, both_ways, false_from_ne_true, or_cases, leb-true, leb-false}
use Rattle.block_record.proofs.public.SlipFacts.{same_slip_is, same_slip_refl}
use Rattle.block_record.specs.declared.blocks.Slip.{Slip}
use Rattle.block_record.specs.Ids.{same_id, same_id_refl, same_id-true}
use Rattle.chain_model.specs.Ancestry.{find_id, has_id}
use Rattle.chain_laws.proofs.public.Lines.{find_id_at, find_id_past, has_id-find_id, id-find_id}
use Rattle.chain_laws.proofs.public.Growth.{IsFound, find_passes, found_cases}
use Rattle.relay_laws.proofs.EitherTest.{or_right}
use Rattle.relay_model.specs.declared.answers.Conflict.{Conflict as Clash}
use Rattle.block_record.specs.Slips.{same_slip}
use Rattle.relay_model.specs.Worlds.{World, Limits}
use Rattle.relay_model.specs.Offers.{judge, answer_by, world_by, offered}
use Rattle.relay_model.specs.Verdicts.{Verdict}
use Rattle.relay_model.specs.Verdicts as verdict
use Rattle.relay_model.specs.Orders.{once, root_or, root_of, position}
use Rattle.relay_model.specs.Runs.{empty_world, run, is_ok, taken, dropped_by, dropped, OneEach}
use Rattle.relay_model.specs.Soundness.{IsBlock}
use Rattle.relay_model.specs.Soundness.{IsDistinct}
use Rattle.relay_model.proofs.public.Intakes.{find_of}
use Rattle.relay_model.proofs.public.Sound.{empty_sound, keeps_by}
use Rattle.relay_laws.proofs.public.RunFacts.{IsStep, IsRun, run_step}
use Rattle.relay_model.proofs.public.Judged.{first_by}

once_has : (xs : List Slip) (s : Slip) → IsFound (once xs) s → list_any (same_slip s) xs ≡ true
once_has [] s f = absurd (grind (arith, f))
once_has (x ∷ older) s f = go (list_any (same_slip x) older) f (λ h. or_right (same_slip s x) (list_any (same_slip s) older) (once_has older s h))
  where
    go : (b : Bool) → IsFound (cond b (once older) (x ∷ once older)) s → (IsFound (once older) s → list_any (same_slip s) (x ∷ older) ≡ true) → list_any (same_slip s) (x ∷ older) ≡ true
    go true h ih = ih h
    go false h ih = elim (found_cases x (once older) s h) [
      | inl same ↦ let e : same_slip s x ≡ true = subst (λ (z : Slip). same_slip z x ≡ true) same (same_slip_refl x) in rw e refl
      | inr below ↦ ih below
    ]

-- no two slips with one id, and no slip twice
pub once_distinct : (xs : List Slip) → OneEach (once xs) → IsDistinct (once xs)
once_distinct [] one = tt
once_distinct (x ∷ older) one = go (list_any (same_slip x) older) refl one (λ h. once_distinct older h)
  where
    go : (b : Bool) → list_any (same_slip x) older ≡ b → OneEach (cond b (once older) (x ∷ once older)) → (OneEach (once older) → IsDistinct (once older)) → IsDistinct (cond b (once older) (x ∷ once older))
    go true e h ih = ih h
    go false e h ih = (
      false_from_ne_true _ (λ has.
          let p = find_of (once older) x.id has in
          let same : p.0.id ≡ x.id = id-find_id (once older) x.id p.0 p.1 in
          let found : IsFound (once older) p.0 = ap (find_id (once older)) same ∙ p.1 in
          let is : p.0 ≡ x = find_passes (λ t. t.id ≡ x.id → t ≡ x) (λ z. same_id z.id p.0.id) (once older) p.0 h.0 found same in
          both_ways _ e (once_has older x (subst (IsFound (once older)) is found))),
      ih h.1,
    )

pub apart_from : (x : Slip) (xs : List Slip) (s : Slip) → has_id xs x.id ≡ false → IsFound xs s → same_id x.id s.id ≡ false
apart_from x xs s lacks f = false_from_ne_true _ (λ same. both_ways _ (subst (λ (i : List ℕ). has_id xs i ≡ false) (same_id-true x.id s.id same) lacks) (has_id-find_id xs s.id s f))

any_has : (xs : List Slip) → IsDistinct (once xs) → (s : Slip) → list_any (same_slip s) xs ≡ true → IsFound (once xs) s
any_has [] d s e = absurd (both_ways _ refl e)
any_has (x ∷ older) d s e = go (list_any (same_slip x) older) refl d (or_cases (same_slip s x) (list_any (same_slip s) older) e) (λ h i. any_has older h s i)
  where
    go : (b : Bool) → list_any (same_slip x) older ≡ b → IsDistinct (cond b (once older) (x ∷ once older)) → (same_slip s x ≡ true) ⊎ (list_any (same_slip s) older ≡ true)
        → (IsDistinct (once older) → list_any (same_slip s) older ≡ true → IsFound (once older) s) → IsFound (cond b (once older) (x ∷ once older)) s
    go true a h (inl same) ih = ih h (subst (λ (z : Slip). list_any (same_slip z) older ≡ true) (sym (same_slip_is s x same)) a)
    go true a h (inr below) ih = ih h below
    go false a h (inl same) ih = subst (λ (z : Slip). find_id (x ∷ once older) z.id ≡ Some z) (sym (same_slip_is s x same)) (find_id_at x (once older) x.id (same_id_refl x.id))
    go false a h (inr below) ih = let f = ih h.1 below in find_id_past x (once older) s.id (apart_from x (once older) s h.0 f) ∙ f

pub no_root : (first : ℕ) (xs : List Slip) → root_of first xs ≡ None → (s : Slip) → IsFound xs s → s.num < first
no_root first [] e s f = absurd (grind (arith, f))
no_root first (x ∷ older) e s f = go (root_of first older) refl e (λ h g. no_root first older h s g)
  where
    go : (o : Option Slip) → root_of first older ≡ o → root_or o first x ≡ None → (root_of first older ≡ None → IsFound older s → s.num < first) → s.num < first
    go (Some r) is h ih = absurd (grind (arith, h))
    go None is h ih =
        elim (found_cases x older s f) [
          | inl same ↦ elim (cases_Bool (leb first x.num)) [
            | inl fits ↦ absurd (grind (arith, h, fits))
            | inr low ↦ let l = leb-false _ _ low in omega (arith, l, ap (λ (z : Slip). z.num) same)
          ]
          | inr below ↦ ih is below
        ]

root_again : (first : ℕ) (xs : List Slip) (s : Slip) → IsFound xs s → root_or (root_of first xs) first s ≡ root_of first xs
root_again first xs s f = go (root_of first xs) refl
  where
    go : (o : Option Slip) → root_of first xs ≡ o → root_or o first s ≡ o
    go (Some r) e = refl
    go None e =
        elim (cases_Bool (leb first s.num)) [
          | inl fits ↦ let le = leb-true _ _ fits in let low = no_root first xs e s f in absurd (omega (arith, le, low))
          | inr low ↦ rw low refl
        ]

past_position : (xs : List Slip) (x s : Slip) → same_id s.id x.id ≡ false → position (s ∷ xs) x ≡ position xs x
past_position xs x s apart =
    let other : same_slip s x ≡ false = false_from_ne_true _ (λ same. both_ways _ apart (subst (λ (z : Slip). same_id s.id z.id ≡ true) (same_slip_is s x same) (same_id_refl s.id))) in
    rw other refl

-- one more block answered Ok
pub block_step : (first : ℕ) (xs : List Slip) (s : Slip) → IsDistinct (once (s ∷ xs)) → IsStep first (once xs) (once (s ∷ xs)) s
block_step first xs s d = go (list_any (same_slip s) xs) refl d
  where
    go : (b : Bool) → list_any (same_slip s) xs ≡ b → IsDistinct (cond b (once xs) (s ∷ once xs)) → IsStep first (once xs) (cond b (once xs) (s ∷ once xs)) s
    go true e h = record {
      has = any_has xs h s e;
      keeps = λ x f. f;
      from = λ x f. inr f;
      root = sym (root_again first (once xs) s (any_has xs h s e));
      again = λ f. refl;
      at = λ x f. refl;
      fresh = inl (any_has xs h s e);
      distinct = h;
    }
    go false e h = record {
      has = find_id_at s (once xs) s.id (same_id_refl s.id);
      keeps = λ x f. find_id_past s (once xs) x.id (apart_from s (once xs) x h.0 f) ∙ f;
      from = λ x f. elim (found_cases s (once xs) x f) [ inl same ↦ inl (sym same) | inr below ↦ inr below ];
      root = refl;
      again = λ f. root_again first (once xs) s f;
      at = λ x f. past_position (once xs) x s (apart_from s (once xs) x h.0 f);
      fresh = inr (let same = same_slip_refl s in rw same refl);
      distinct = h;
    }

pub rest_one : (xs : List Slip) (s : Slip) → OneEach (once (s ∷ xs)) → OneEach (once xs)
rest_one xs s one = go (list_any (same_slip s) xs) one
  where
    go : (b : Bool) → OneEach (cond b (once xs) (s ∷ once xs)) → OneEach (once xs)
    go true h = h
    go false h = h.1

-- a refusal leaves the run as it was
refused_by : (w : World) (old : List Slip) (s : Slip) → IsRun w old → IsBlock s → (v : Verdict) → judge w s ≡ v → is_ok (answer_by w s v) ≡ false → IsRun (world_by w s v) old
refused_by w old s r block verdict.Closed e no' = r
refused_by w old s r block verdict.Duplicate e no' = r
refused_by w old s r block (verdict.Conflict c) e no' = record { sound = keeps_by w s r.sound block (verdict.Conflict c) e; in_history = r.in_history; in_waiting = r.in_waiting; rest = r.rest; root = r.root }
refused_by w old s r block verdict.Early e no' = r
refused_by w old s r block verdict.Stale e no' = r
refused_by w old s r block verdict.WaitFull e no' = r
refused_by w old s r block verdict.Waiting e no' = absurd (grind (arith, no'))
refused_by w old s r block (verdict.HistoryFull need) e no' = r
refused_by w old s r block verdict.Admitted e no' = absurd (grind (arith, no'))

pub empty_both : (xs ys : List Clash) → xs ++ ys ≡ [] → (xs ≡ []) × (ys ≡ [])
empty_both [] ys e = (refl, e)
empty_both (x ∷ xs) ys e = absurd (grind (arith, e))

pub run_of : (first number : ℕ) (limits : Limits) (offers : List Slip) → AllByRecursion IsBlock offers → dropped (empty_world first number limits) offers ≡ []
    → OneEach (once (taken (empty_world first number limits) offers)) → IsRun (run (empty_world first number limits) offers) (once (taken (empty_world first number limits) offers))
run_of first number limits [] blocks none one = record {
  sound = empty_sound first number limits;
  in_history = λ x f. absurd (nothing x f);
  in_waiting = λ x f. absurd (nothing x f);
  rest = λ x f. absurd (nothing x f);
  root = refl;
}
  where
    nothing : (x : Slip) → IsFound [] x → ⊥
    nothing x f = grind (arith, f)
run_of first number limits (s ∷ earlier) blocks none one =
    let w0 = empty_world first number limits in
    let w = run w0 earlier in
    let parts = empty_both (dropped_by (offered w s).answer) (dropped w0 earlier) none in
    go (is_ok (offered w s).answer) refl parts.0 one (λ h. run_of first number limits earlier blocks.1 parts.1 h)
  where
    W : World
    W = run (empty_world first number limits) earlier

    T : List Slip
    T = taken (empty_world first number limits) earlier

    go : (b : Bool) → is_ok (offered W s).answer ≡ b → dropped_by (offered W s).answer ≡ [] → OneEach (once (cond b (s ∷ T) T)) → (OneEach (once T) → IsRun W (once T))
        → IsRun (offered W s).world (once (cond b (s ∷ T) T))
    go true ok none' one' ih = run_step W (once T) (once (s ∷ T)) s (ih (rest_one T s one')) (block_step W.first T s (once_distinct (s ∷ T) one')) blocks.0 ok none'
    go false no' none' one' ih = refused_by W (once T) s (ih one') blocks.0 (judge W s) refl no'

pub run_first : (w : World) (offers : List Slip) → (run w offers).first ≡ w.first
run_first w [] = refl
run_first w (s ∷ earlier) = first_by (run w earlier) s (judge (run w earlier) s) ∙ run_first w earlier
