-- What a run keeps of the blocks answered Ok.
use Rattle.std.proofs.Common.{arith, ◌≡◌, ◌≤◌, ◌<◌, ◌⊎◌, inl, inr, ℕ, ◌+◌, Bool, true, false, cond, leb, List, [], ◌∷◌, ◌++◌, length, reverse, Option, Some, None, refl, sym, ◌∙◌, ap, subst, ltb}
use Rattle.std.proofs.lemmas.Bool.{cases_Bool, both_ways, false_from_ne_true, ltb-true, ltb-false, le-leb, leb-true}
use Rattle.std.proofs.lemmas.List.{reverse-reverse}
use mathlib.Core.List.{IsSuffix, IsSuffix-trans}
use Rattle.block_record.proofs.public.SlipFacts.{same_slip_is}
use Rattle.block_record.specs.declared.blocks.Slip.{Slip}
use Rattle.block_record.specs.Ids.{same_id, same_id_refl, same_id-true}
use Rattle.chain_model.specs.Ancestry.{find_id, has_id, IsHistory}
use Rattle.chain_model.specs.Finality.{root_num, final_tip}
use Rattle.chain_laws.proofs.public.Lines.{has_id-find_id, find_id_at, find_id_past}
use Rattle.chain_laws.proofs.public.Growth.{IsFound, claim_found, tip_claimed, found_past, found_cases}
use Rattle.chain_laws.proofs.public.Orders.{root_least}
use Rattle.chain_laws.proofs.public.Roots.{has_tip}
use Rattle.chain_laws.proofs.public.Later.{find_later}
use Rattle.relay_model.specs.declared.answers.Conflict.{Conflict as Clash}
use Rattle.block_record.specs.Slips.{same_slip}
use Rattle.relay_model.specs.Worlds.{World, has_room, descendants}
use Rattle.relay_model.specs.Offers.{intake, tip_num, num_of, judge, judge_held, judge_linked, judge_parent, judge_limit, judge_clash, clash, answer_by, world_by, offered}
use Rattle.relay_model.specs.Verdicts.{Verdict}
use Rattle.relay_model.specs.Verdicts as verdict
use Rattle.relay_model.specs.Orders.{root_or, root_of, position}
use Rattle.relay_model.specs.Soundness.{IsBlock}
use Rattle.relay_model.specs.Runs.{is_ok, dropped_by}
use Rattle.relay_model.specs.Soundness.{IsDistinct, IsSound}
use Rattle.relay_model.proofs.public.Intakes.{taking_grows}
use Rattle.relay_model.proofs.public.Judged.{limit_takes, judged_waits, judged_takes}
use Rattle.relay_model.proofs.public.Sound.{first_intake, starts, begins_taking, keeps_by, new_parts}
use Rattle.relay_model.proofs.public.Entries.{tip_rises}
use Rattle.relay_laws.proofs.Moves.{filter_found, found_filter, moves}

-- the root of a history
abbrev pub last_of : List Slip → Option Slip
last_of [] = None
last_of (s ∷ []) = Some s
last_of (s ∷ t ∷ older) = last_of (t ∷ older)

pub last_append : (more : List Slip) (s : Slip) (older : List Slip) → last_of (more ++ s ∷ older) ≡ last_of (s ∷ older)
last_append [] s older = refl
last_append (x ∷ []) s older = refl
last_append (x ∷ y ∷ more) s older = last_append (y ∷ more) s older

-- where a received block is: below the first number, in the history, waiting, or not above the tip
abbrev pub Where : World → Slip → Type 0
Where w s = (s.num < w.first) ⊎ IsFound w.history s ⊎ IsFound w.waiting s ⊎ (s.num ≤ tip_num w.history)

-- a list of received blocks with one more, or a repeat
pub record IsStep (first : ℕ) (old new : List Slip) (s : Slip) : Type 0 where
  pub has : IsFound new s
  pub keeps : (x : Slip) → IsFound old x → IsFound new x
  pub from : (x : Slip) → IsFound new x → (x ≡ s) ⊎ IsFound old x
  pub root : root_of first new ≡ root_or (root_of first old) first s
  pub again : IsFound old s → root_of first new ≡ root_of first old
  pub at : (x : Slip) → IsFound old x → position new x ≡ position old x
  -- a new block has the last position, and a repeat is there
  pub fresh : IsFound old s ⊎ (position new s ≡ length old)
  pub distinct : IsDistinct new

pub record IsRun (w : World) (received : List Slip) : Type 0 where
  pub sound : IsSound w
  pub in_history : (x : Slip) → IsFound w.history x → IsFound received x
  pub in_waiting : (x : Slip) → IsFound w.waiting x → IsFound received x
  pub rest : (x : Slip) → IsFound received x → Where w x
  pub root : root_of w.first received ≡ last_of w.history

root_under_tip : (newest : List Slip) → IsHistory newest → root_num newest ≤ tip_num newest
root_under_tip [] history = omega arith
root_under_tip (s ∷ older) history = go (final_tip (s ∷ older)) refl
  where
    go : (o : Option Slip) → final_tip (s ∷ older) ≡ o → root_num (s ∷ older) ≤ num_of o
    go None e = absurd (has_tip s older history e)
    go (Some t) e =
        let x = tip_claimed (s ∷ older) history t e in
        root_least (s ∷ older) history t (claim_found (s ∷ older) history x.by t x.claimed)

-- what a late block is
limit_stale : (w : World) (s : Slip) → judge_limit w s ≡ verdict.Stale → ⊥
limit_stale w s e = grind (arith, e)

clash_stale : (w : World) (s : Slip) (o : Option Clash) → judge_clash w s o ≡ verdict.Stale → ⊥
clash_stale w s None e = limit_stale w s e
clash_stale w s (Some c) e = cc

parent_stale : (w : World) (s : Slip) (o : Option Slip) → judge_parent w s o ≡ verdict.Stale → s.num ≤ tip_num w.history
parent_stale w s None e =
    elim (cases_Bool (leb s.num (tip_num w.history))) [
      | inl low ↦ leb-true _ _ low
      | inr high ↦ absurd (grind (arith, e, high))
    ]
parent_stale w s (Some p) e = absurd (clash_stale w s (clash w.history s) e)

pub record IsStale (w : World) (s : Slip) : Type 0 where
  pub low : s.num ≤ tip_num w.history
  pub begun : (t : Slip) × (older : List Slip) × (w.history ≡ t ∷ older)

linked_stale : (w : World) (s : Slip) → IsHistory w.history → (h : List Slip) → w.history ≡ h → judge_linked w s h ≡ verdict.Stale → IsStale w s
linked_stale w s history [] is e = absurd (limit_stale w s e)
linked_stale w s history (t ∷ older) is e =
    elim (cases_Bool (leb s.num (root_num w.history))) [
      | inl low ↦ let le = leb-true _ _ low in let up = root_under_tip w.history history in record { low = omega (arith, le, up); begun = (t, older, is) }
      | inr high ↦ record { low = parent_stale w s (find_id w.history s.parent_id) (rw high at e); begun = (t, older, is) }
    ]

held_stale : (w : World) (s : Slip) → IsHistory w.history → (o : Option Slip) → judge_held w s o ≡ verdict.Stale → IsStale w s
held_stale w s history (Some h) e = absurd (grind (arith, e))
held_stale w s history None e =
    elim (cases_Bool (ltb s.num w.first)) [
      | inl low ↦ absurd (grind (arith, e, low))
      | inr high ↦ linked_stale w s history w.history refl (rw high at e)
    ]

pub judged_stale : (w : World) (s : Slip) → IsHistory w.history → judge w s ≡ verdict.Stale → IsStale w s
judged_stale w s history e =
    elim (cases_Bool w.closed) [
      | inl shut ↦ absurd (grind (arith, e, shut))
      | inr open' ↦ held_stale w s history (find_id (w.waiting ++ w.history) s.id) (rw open' at e)
    ]

-- a block whose id is new and whose number is not too low is answered by the later rules
abbrev is_inner : Verdict → Bool
is_inner verdict.Closed = false
is_inner verdict.Duplicate = false
is_inner (verdict.Conflict c) = true
is_inner verdict.Early = false
is_inner verdict.Stale = true
is_inner verdict.WaitFull = true
is_inner verdict.Waiting = true
is_inner (verdict.HistoryFull need) = true
is_inner verdict.Admitted = true

inner_limit : (w : World) (s : Slip) → is_inner (judge_limit w s) ≡ true
inner_limit w s = elim (cases_Bool (leb (length w.history + (1 + descendants w.waiting s.id)) w.limits.history)) [ inl fits ↦ rw fits refl | inr more ↦ rw more refl ]

inner_clash : (w : World) (s : Slip) (o : Option Clash) → is_inner (judge_clash w s o) ≡ true
inner_clash w s None = inner_limit w s
inner_clash w s (Some c) = refl

inner_parent : (w : World) (s : Slip) (o : Option Slip) → is_inner (judge_parent w s o) ≡ true
inner_parent w s None =
    elim (cases_Bool (leb s.num (tip_num w.history))) [
      | inl low ↦ rw low refl
      | inr high ↦ elim (cases_Bool (has_room w.limits w.waiting s)) [ inl room ↦ rw (high, room) refl | inr none ↦ rw (high, none) refl ]
    ]
inner_parent w s (Some p) = inner_clash w s (clash w.history s)

inner_linked : (w : World) (s : Slip) (h : List Slip) → is_inner (judge_linked w s h) ≡ true
inner_linked w s [] = inner_limit w s
inner_linked w s (t ∷ older) =
    elim (cases_Bool (leb s.num (root_num w.history))) [
      | inl low ↦ rw low refl
      | inr high ↦ rw high (inner_parent w s (find_id w.history s.parent_id))
    ]

not_inner : (v u : Verdict) → is_inner v ≡ true → is_inner u ≡ false → v ≡ u → ⊥
not_inner v u a b e = both_ways _ (ap is_inner e ∙ b) a

-- an early one
linked_early : (w : World) (s : Slip) (h : List Slip) → judge_linked w s h ≡ verdict.Early → ⊥
linked_early w s h e = not_inner _ verdict.Early (inner_linked w s h) refl e

held_early : (w : World) (s : Slip) (o : Option Slip) → judge_held w s o ≡ verdict.Early → s.num < w.first
held_early w s (Some h) e = absurd (grind (arith, e))
held_early w s None e =
    elim (cases_Bool (ltb s.num w.first)) [
      | inl low ↦ ltb-true _ _ low
      | inr high ↦ absurd (linked_early w s w.history (rw high at e))
    ]

pub judged_early : (w : World) (s : Slip) → judge w s ≡ verdict.Early → s.num < w.first
judged_early w s e =
    elim (cases_Bool w.closed) [
      | inl shut ↦ absurd (grind (arith, e, shut))
      | inr open' ↦ held_early w s (find_id (w.waiting ++ w.history) s.id) (rw open' at e)
    ]

-- and a repeat
judged_duplicate : (w : World) (s : Slip) → judge w s ≡ verdict.Duplicate → IsFound (w.waiting ++ w.history) s
judged_duplicate w s e =
    elim (cases_Bool w.closed) [
      | inl shut ↦ absurd (grind (arith, e, shut))
      | inr open' ↦ go (find_id (w.waiting ++ w.history) s.id) refl (rw open' at e)
    ]
  where
    go : (o : Option Slip) → find_id (w.waiting ++ w.history) s.id ≡ o → judge_held w s o ≡ verdict.Duplicate → IsFound (w.waiting ++ w.history) s
    go (Some h) held e' =
        elim (cases_Bool (same_slip h s)) [
          | inl same ↦ held ∙ ap (λ x. Some x) (same_slip_is h s same)
          | inr other ↦ absurd (grind (arith, e', other))
        ]
    go None held e' =
        elim (cases_Bool (ltb s.num w.first)) [
          | inl low ↦ absurd (grind (arith, e', low))
          | inr high ↦ absurd (not_inner _ verdict.Duplicate (inner_linked w s w.history) refl (rw high at e'))
        ]

found_append : (xs ys : List Slip) (x : Slip) → IsFound (xs ++ ys) x → IsFound xs x ⊎ IsFound ys x
found_append [] ys x f = inr f
found_append (y ∷ xs) ys x f =
    elim (found_cases y (xs ++ ys) x f) [
      | inl same ↦ inl (subst (λ (z : Slip). find_id (y ∷ xs) z.id ≡ Some z) same (find_id_at y xs y.id (same_id_refl y.id)))
      | inr below ↦ elim (cases_Bool (same_id y.id x.id)) [
        | inl here ↦ inl (find_id_at y xs x.id here ∙ sym (find_id_at y (xs ++ ys) x.id here) ∙ f)
        | inr past ↦ elim (found_append xs ys x below) [ inl l ↦ inl (find_id_past y xs x.id past ∙ l) | inr r ↦ inr r ]
      ]
    ]

-- the root where one is there
root_stays : (o : Option Slip) (r : Slip) (first : ℕ) (s : Slip) → o ≡ Some r → root_or o first s ≡ Some r
root_stays o r first s e = rw e refl

root_early : (o : Option Slip) (first : ℕ) (s : Slip) → s.num < first → root_or o first s ≡ o
root_early (Some r) first s low = refl
root_early None first s low = let no' : leb first s.num ≡ false = lt-not_leb first s.num low in rw no' refl
  where
    lt-not_leb : (a b : ℕ) → b < a → leb a b ≡ false
    lt-not_leb a b h = false_from_ne_true _ (λ e. let le = leb-true a b e in omega (arith, le, h))

pub last_some : (t : Slip) (older : List Slip) → (r : Slip) × (last_of (t ∷ older) ≡ Some r)
last_some t [] = (t, refl)
last_some t (x ∷ older) = last_some x older

-- the root of what was received, where the history has begun
root_begun : (w : World) (old new : List Slip) (s : Slip) → IsStep w.first old new s → root_of w.first old ≡ last_of w.history
    → (t : Slip) × (older : List Slip) × (w.history ≡ t ∷ older) → root_of w.first new ≡ last_of w.history
root_begun w old new s step is begun =
    let r = last_some begun.0 begun.1 in
    let e : last_of w.history ≡ Some r.0 = ap last_of begun.2 ∙ r.1 in
    step.root ∙ root_stays (root_of w.first old) r.0 w.first s (is ∙ e) ∙ sym e

found_longer : (more older : List Slip) → IsHistory (more ++ older) → (x : Slip) → IsFound older x → IsFound (more ++ older) x
found_longer more older history x f = find_later more older history x.id (has_id-find_id older x.id x f) ∙ f

step_takes : (w : World) (old new : List Slip) (s : Slip) → IsRun w old → IsStep w.first old new s → IsBlock s → judge w s ≡ verdict.Admitted
    → (intake w s).dropped ≡ [] → IsRun (world_by w s verdict.Admitted) new
step_takes w old new s run step block e dropped =
    let d = intake w s in
    let begun = first_intake w s in
    let facts = judged_takes w s e in
    let t0 = starts w s run.sound block facts in
    let t = begins_taking w s run.sound block facts in
    let m = moves (length w.waiting) begun t0 in
    let own : IsFound d.history s = m.keeps s (find_id_at s w.history s.id (same_id_refl s.id)) in
    let longer : IsSuffix (s ∷ w.history) d.history = taking_grows (length w.waiting) begun in
    let grown : IsSuffix w.history d.history = IsSuffix-trans (s ∷ [], refl) longer in
    let higher : tip_num w.history ≤ tip_num d.history =
    subst (λ (l : List Slip). tip_num w.history ≤ tip_num l) grown.1 (tip_rises grown.0 w.history (subst IsHistory (sym grown.1) t.history)) in
    let ends : last_of d.history ≡ last_of (s ∷ w.history) = ap last_of (sym longer.1) ∙ last_append longer.0 s w.history in
    record {
      sound = keeps_by w s run.sound block verdict.Admitted e;
      in_history = λ x f. elim (m.from x f) [
        | inl h ↦ elim (found_cases s w.history x h) [ inl same ↦ subst (IsFound new) same step.has | inr was ↦ step.keeps x (run.in_history x was) ]
        | inr r ↦ step.keeps x (run.in_waiting x r)
      ];
      in_waiting = λ x f. step.keeps x (run.in_waiting x (m.back x (found_filter (λ (y : Slip). ltb (tip_num d.history) y.num) d.waiting t.distinct x f).0));
      rest = λ x f. elim (step.from x f) [
        | inl same ↦ inr (inl (subst (IsFound d.history) (sym same) own))
        | inr was ↦ elim (run.rest x was) [
          | inl early ↦ inl early
          | inr (inl h) ↦ inr (inl (m.keeps x (found_past s w.history t0.history x h)))
          | inr (inr (inl r)) ↦ elim (m.stays x dropped r) [
            | inl h ↦ inr (inl h)
            | inr still ↦ elim (cases_Bool (ltb (tip_num d.history) x.num)) [
              | inl above ↦ inr (inr (inl (filter_found (λ (y : Slip). ltb (tip_num d.history) y.num) d.waiting t.distinct x still above)))
              | inr below ↦ inr (inr (inr (ltb-false _ _ below)))
            ]
          ]
          | inr (inr (inr low)) ↦ inr (inr (inr (omega (arith, low, higher))))
        ]
      ];
      root = rooted w.history refl facts.new.late step.root run.root ∙ sym ends;
    }
  where
    rooted : (h : List Slip) → w.history ≡ h → w.first ≤ s.num → root_of w.first new ≡ root_or (root_of w.first old) w.first s → root_of w.first old ≡ last_of w.history
        → root_of w.first new ≡ last_of (s ∷ w.history)
    rooted [] is late grows was =
        let none : root_of w.first old ≡ None = was ∙ ap last_of is in
        grows ∙ ap (λ o. root_or o w.first s) none ∙ first_root (leb w.first s.num) (le-leb _ _ late) ∙ ap (λ l. last_of (s ∷ l)) (sym is)
      where
        first_root : (b : Bool) → b ≡ true → cond b (Some s) None ≡ Some s
        first_root b h = rw h refl
    rooted (x ∷ older) is late grows was =
        let r = last_some x older in
        let e' : last_of w.history ≡ Some r.0 = ap last_of is ∙ r.1 in
        grows ∙ root_stays (root_of w.first old) r.0 w.first s (was ∙ e') ∙ sym (ap (λ l. last_of (s ∷ l)) is ∙ r.1)

-- a block waits only where the history has begun
begun_linked : (w : World) (s : Slip) (h : List Slip) → w.history ≡ h → judge_linked w s h ≡ verdict.Waiting → (t : Slip) × (older : List Slip) × (w.history ≡ t ∷ older)
begun_linked w s [] is e = absurd (limit_takes w s e)
begun_linked w s (t ∷ older) is e = (t, older, is)

begun_held : (w : World) (s : Slip) (o : Option Slip) → judge_held w s o ≡ verdict.Waiting → (t : Slip) × (older : List Slip) × (w.history ≡ t ∷ older)
begun_held w s (Some h) e = absurd (grind (arith, e))
begun_held w s None e =
    elim (cases_Bool (ltb s.num w.first)) [
      | inl low ↦ absurd (grind (arith, e, low))
      | inr high ↦ begun_linked w s w.history refl (rw high at e)
    ]

begun_waits : (w : World) (s : Slip) → judge w s ≡ verdict.Waiting → (t : Slip) × (older : List Slip) × (w.history ≡ t ∷ older)
begun_waits w s e =
    elim (cases_Bool w.closed) [
      | inl shut ↦ absurd (grind (arith, e, shut))
      | inr open' ↦ begun_held w s (find_id (w.waiting ++ w.history) s.id) (rw open' at e)
    ]

step_by : (w : World) (old new : List Slip) (s : Slip) → IsRun w old → IsStep w.first old new s → IsBlock s → (v : Verdict) → judge w s ≡ v
    → is_ok (answer_by w s v) ≡ true → dropped_by (answer_by w s v) ≡ [] → IsRun (world_by w s v) new
step_by w old new s run step block verdict.Closed e ok dropped = absurd (grind (arith, ok))
step_by w old new s run step block verdict.Duplicate e ok dropped =
    let held : IsFound old s = elim (found_append w.waiting w.history s (judged_duplicate w s e)) [ inl r ↦ run.in_waiting s r | inr h ↦ run.in_history s h ] in
    let here : Where w s = run.rest s held in
    record {
      sound = run.sound;
      in_history = λ x f. step.keeps x (run.in_history x f);
      in_waiting = λ x f. step.keeps x (run.in_waiting x f);
      rest = λ x f. elim (step.from x f) [ inl same ↦ subst (Where w) (sym same) here | inr was ↦ run.rest x was ];
      root = step.again held ∙ run.root;
    }
step_by w old new s run step block (verdict.Conflict c) e ok dropped = absurd (grind (arith, ok))
step_by w old new s run step block verdict.Early e ok dropped =
    let low = judged_early w s e in
    record {
      sound = run.sound;
      in_history = λ x f. step.keeps x (run.in_history x f);
      in_waiting = λ x f. step.keeps x (run.in_waiting x f);
      rest = λ x f. elim (step.from x f) [ inl same ↦ subst (Where w) (sym same) (inl low) | inr was ↦ run.rest x was ];
      root = step.root ∙ root_early (root_of w.first old) w.first s low ∙ run.root;
    }
step_by w old new s run step block verdict.Stale e ok dropped =
    let late = judged_stale w s run.sound.history e in
    record {
      sound = run.sound;
      in_history = λ x f. step.keeps x (run.in_history x f);
      in_waiting = λ x f. step.keeps x (run.in_waiting x f);
      rest = λ x f. elim (step.from x f) [ inl same ↦ subst (Where w) (sym same) (inr (inr (inr late.low))) | inr was ↦ run.rest x was ];
      root = root_begun w old new s step run.root late.begun;
    }
step_by w old new s run step block verdict.WaitFull e ok dropped = absurd (grind (arith, ok))
step_by w old new s run step block verdict.Waiting e ok dropped =
    let facts = judged_waits w s e in
    let new' = new_parts w s facts.new in
    let more = λ (x : Slip) (f : IsFound w.waiting x).
    find_id_past s w.waiting x.id (other x f new'.0) ∙ f in
    record {
      sound = keeps_by w s run.sound block verdict.Waiting e;
      in_history = λ x f. step.keeps x (run.in_history x f);
      in_waiting = λ x f. elim (found_cases s w.waiting x f) [ inl same ↦ subst (IsFound new) same step.has | inr was ↦ step.keeps x (run.in_waiting x was) ];
      rest = λ x f. elim (step.from x f) [
        | inl same ↦ inr (inr (inl (subst (IsFound (s ∷ w.waiting)) (sym same) (find_id_at s w.waiting s.id (same_id_refl s.id)))))
        | inr was ↦ elim (run.rest x was) [
          | inl early ↦ inl early
          | inr (inl h) ↦ inr (inl h)
          | inr (inr (inl r)) ↦ inr (inr (inl (more x r)))
          | inr (inr (inr low)) ↦ inr (inr (inr low))
        ]
      ];
      root = root_begun w old new s step run.root (begun_waits w s e);
    }
  where
    other : (x : Slip) → IsFound w.waiting x → has_id w.waiting s.id ≡ false → same_id s.id x.id ≡ false
    other x f lacks = false_from_ne_true _ (λ same. both_ways _ (subst (λ (i : List ℕ). has_id w.waiting i ≡ false) (same_id-true s.id x.id same) lacks) (has_id-find_id w.waiting x.id x f))
step_by w old new s run step block (verdict.HistoryFull need) e ok dropped = absurd (grind (arith, ok))
step_by w old new s run step block verdict.Admitted e ok dropped = step_takes w old new s run step block e (empty (intake w s).dropped dropped)
  where
    empty : (xs : List Clash) → reverse xs ≡ [] → xs ≡ []
    empty xs h = sym (reverse-reverse xs) ∙ ap reverse h

-- one more offer that was answered Ok and dropped nothing
pub run_step : (w : World) (old new : List Slip) (s : Slip) → IsRun w old → IsStep w.first old new s → IsBlock s
    → is_ok (offered w s).answer ≡ true → dropped_by (offered w s).answer ≡ [] → IsRun (offered w s).world new
run_step w old new s run step block ok dropped = step_by w old new s run step block (judge w s) refl ok dropped
