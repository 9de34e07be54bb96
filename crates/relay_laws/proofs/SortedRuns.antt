-- A run is sorted above its tip.
use Rattle.std.proofs.Common.{arith, ◌≡◌, ◌≤◌, ◌<◌, ◌⊎◌, inl, inr, ℕ, suc, Bool, true, false, cond, List, [], ◌∷◌, ◌++◌, length, reverse, Option, Some, None, refl, sym, ◌∙◌, ap, subst, ltb}
use Rattle.std.specs.List.{AllByRecursion, filter}
use Rattle.std.proofs.lemmas.Bool.{both_ways, false_from_ne_true, or_cases}
use Rattle.std.proofs.lemmas.Option.{same_Some}
use mathlib.Core.List.{IsSuffix}
use Rattle.block_record.specs.declared.blocks.Slip.{Slip}
use Rattle.block_record.specs.Ids.{same_id, same_id_refl, same_id-true}
use Rattle.chain_model.specs.Ancestry.{find_id, has_id, ancestry, IsHistory}
use Rattle.chain_model.specs.Finality.{final_tip, ClaimsAgree}
use Rattle.chain_model.specs.Steps.{holds_tip}
use Rattle.chain_laws.proofs.public.Lines.{find_id_at, has_id-find_id, has_id-ancestry}
use Rattle.chain_laws.proofs.public.Growth.{IsFound, all_weaker, all_found, tip_claimed, claim_found, found_cases}
use Rattle.chain_laws.proofs.public.Reach.{head_is_found}
use Rattle.chain_laws.proofs.public.LineFacts.{parent_at, same_number}
use Rattle.chain_laws.proofs.public.Roots.{has_tip}
use Rattle.chain_laws.proofs.public.Later.{ancestry_later, find_later}
use Rattle.relay_model.specs.Worlds.{World, Limits}
use Rattle.relay_model.specs.declared.answers.Conflict.{Conflict as Clash}
use Rattle.std.proofs.lemmas.List.{reverse-reverse}
use Rattle.relay_model.specs.Offers.{intake, judge, world_by, answer_by, tip_num, num_of, offered}
use Rattle.relay_model.specs.Verdicts.{Verdict}
use Rattle.relay_model.specs.Verdicts as verdict
use Rattle.relay_model.specs.Orders.{position, link_time, root_of, once}
use Rattle.relay_model.specs.Soundness.{IsBlock}
use Rattle.relay_model.specs.Runs.{is_ok, dropped_by, OneEach, empty_world, run, taken, dropped}
use Rattle.relay_model.specs.Soundness.{IsDistinct}
use Rattle.relay_model.proofs.public.Intakes.{all_filter, taking_grows}
use Rattle.relay_model.proofs.public.Judged.{IsWaiting, judged_takes, judged_waits}
use Rattle.relay_model.proofs.public.Sound.{first_intake, starts, begins_taking, ends_taking, new_parts}
use Rattle.relay_model.proofs.public.Entries.{distinct_found}
use Rattle.chain_laws.proofs.public.Tips.{on_one_path}
use Rattle.relay_laws.proofs.Moves.{Moves, moves}
use Rattle.relay_laws.proofs.public.RunFacts.{last_of, last_append, IsStep, IsRun, Where, run_step}
use Rattle.relay_laws.proofs.public.RunSteps.{no_root, run_of, block_step, rest_one, once_distinct, empty_both}
use Rattle.relay_laws.proofs.Drains.{Pairs, Later, Above, pairs_filter, IsDraining, Honest, drain}
use Rattle.relay_laws.proofs.Growing.{link_grows, position_low, Newer}
use Rattle.relay_laws.proofs.public.Scratch.{IsBegun, scratch_linked, alone_last, all_at}
use Rattle.relay_laws.proofs.OrderRuns.{IsNewPart, new_path, new_time}
use Rattle.relay_laws.proofs.Sorted.{pairs_by, front_new, newer_grows, tip_below, time_low, IsAllNew, sorted_after}

pub record IsSorted (w : World) (received : List Slip) : Type 0 where
  pub places : Pairs (Later received) w.waiting
  pub order : (root : Slip) → last_of w.history ≡ Some root → Pairs (Newer received root) (filter (holds_tip w.history (final_tip w.history)) w.history)

-- each block of a list is linkable
linked_all : (w : World) (received : List Slip) (root : Slip) → IsBegun w received root → AllByRecursion (λ x. IsFound received x × ((time : ℕ) × (link_time received root x ≡ Some time))) w.history
linked_all w received root b =
    all_weaker (IsFound w.history) (λ x. IsFound received x × ((time : ℕ) × (link_time received root x ≡ Some time))) (λ x f. (b.run.in_history x f, scratch_linked w received root b x f)) w.history (all_found w.history b.run.sound.history)

places_grow : (w : World) (old new : List Slip) (s : Slip) → IsRun w old → IsStep w.first old new s → Pairs (Later old) w.waiting → Pairs (Later new) w.waiting
places_grow w old new s run step d =
    pairs_by (IsFound old) (Later old) (Later new) (λ x y fx fy h. omega (arith, h, step.at x fx, step.at y fy)) w.waiting
    (all_weaker (IsFound w.waiting) (IsFound old) (λ x f. run.in_waiting x f) w.waiting (distinct_found w.waiting run.sound.distinct)) d

order_grows : (w : World) (old new : List Slip) (s root : Slip) → IsRun w old → IsDistinct old → IsStep w.first old new s → last_of w.history ≡ Some root → (f : Slip → Bool)
    → Pairs (Newer old root) (filter f w.history) → Pairs (Newer new root) (filter f w.history)
order_grows w old new s root run d step last f p =
    let b : IsBegun w old root = record { run = run; distinct = d; last = last } in
    pairs_by (λ x. IsFound old x × ((time : ℕ) × (link_time old root x ≡ Some time))) (Newer old root) (Newer new root)
    (newer_grows w.first old new s root (λ x time fx e. link_grows w.first old new s root d step x time fx e) step) (filter f w.history) (all_filter _ f w.history (linked_all w old root b)) p

same_sorted_by : (w : World) (old new : List Slip) (s : Slip) → IsRun w old → IsDistinct old → IsStep w.first old new s → IsSorted w old → IsSorted w new
same_sorted_by w old new s run d step h = record {
  places = places_grow w old new s run step h.places;
  order = λ root last. order_grows w old new s root run d step last (holds_tip w.history (final_tip w.history)) (h.order root last);
}

-- what an admission brings
record IsAdmission (w : World) (old new : List Slip) (s : Slip) (F : List Slip) (base front : List Slip) : Type 0 where
  is : front ++ base ≡ F
  part : IsNewPart F base s
  there : IsFound F s
  above : Pairs (Above new) front

new_part : (w : World) (old new : List Slip) (s : Slip) → IsRun w old → IsBlock s → judge w s ≡ verdict.Admitted → IsNewPart (intake w s).history w.history s
new_part w old new s run block e =
    let facts = judged_takes w s e in
    let t0 = starts w s run.sound block facts in
    let t = begins_taking w s run.sound block facts in
    let m = moves (length w.waiting) (first_intake w s) t0 in
    let longer : IsSuffix (s ∷ w.history) (intake w s).history = taking_grows (length w.waiting) (first_intake w s) in
    let ends : last_of (intake w s).history ≡ last_of (s ∷ w.history) = ap last_of (sym longer.1) ∙ last_append longer.0 s w.history in
    record {
      history = t.history;
      from = λ x f new'. elim (m.from x f) [
        | inl h ↦ elim (found_cases s w.history x h) [ inl same ↦ inl (sym same) | inr was ↦ absurd (both_ways _ new' (has_id-find_id w.history x.id x was)) ]
        | inr r ↦ inr (all_at (λ y. has_id w.history y.parent_id ≡ false) w.waiting x run.sound.orphans r)
      ];
      roots = λ x l new'. root_new w.history x (sym ends ∙ l) new';
    }
  where
    root_new : (h : List Slip) (x : Slip) → last_of (s ∷ h) ≡ Some x → has_id h x.id ≡ false → x ≡ s
    root_new [] x l new' = sym (same_Some s x l)
    root_new (y ∷ ys) x l new' = absurd (both_ways _ new' (last_has y ys x l))
      where
        last_has : (a : Slip) (as' : List Slip) (z : Slip) → last_of (a ∷ as') ≡ Some z → has_id (a ∷ as') z.id ≡ true
        last_has a [] z k = let same = same_Some a z k in rw (ap (λ (v : Slip). v.id) same, same_id_refl z.id) refl
        last_has a (b ∷ bs) z k = let r = last_has b bs z k in grind (arith, r)

honest_all : (w : World) (old : List Slip) (s : Slip) → IsRun w old → IsBlock s → judge w s ≡ verdict.Admitted → (intake w s).dropped ≡ [] → AllByRecursion (Honest (intake w s).history) w.waiting
honest_all w old s run block e dropped =
    all_weaker (IsFound w.waiting) (Honest (intake w s).history) (λ y f. honest y f) w.waiting (distinct_found w.waiting run.sound.distinct)
  where
    F : List Slip
    F = (intake w s).history

    m : Moves (first_intake w s) (intake w s)
    m = moves (length w.waiting) (first_intake w s) (starts w s run.sound block (judged_takes w s e))

    part : IsNewPart F w.history s
    part = new_part w old old s run block e

    honest : (y : Slip) → IsFound w.waiting y → Honest F y
    honest y f x fx child = elim (m.stays y dropped f) [
      | inl fy ↦ by_line (head_is_found F y.id y fy)
      | inr still ↦
          let lacks = all_at (λ z. has_id F z.parent_id ≡ false) (intake w s).waiting y (ends_taking w s) still in
          absurd (both_ways _ lacks (ap (has_id F) (sym (same_id-true x.id y.parent_id child)) ∙ has_id-find_id F x.id x fx))
    ]
      where
        by_line : (line : List Slip) × (ancestry F y.id ≡ y ∷ line) → x.num < y.num
        by_line h = go h.0 h.1
          where
            go : (line : List Slip) → ancestry F y.id ≡ y ∷ line → x.num < y.num
            go [] k =
                let new' = all_at (λ z. has_id w.history z.id ≡ false) w.waiting y run.sound.apart f in
                let is : y ≡ s = part.roots y (alone_last F part.history y k) new' in
                let lacks = (new_parts w s (judged_takes w s e).new).0 in
                absurd (both_ways _ lacks (ap (has_id w.waiting) (ap (λ (v : Slip). v.id) (sym is)) ∙ has_id-find_id w.waiting y.id y f))
            go (q ∷ qs) k =
                let p = parent_at F part.history y q qs k in
                let one : q ≡ x = same_Some q x (sym p.named ∙ ap (find_id F) (sym (same_id-true x.id y.parent_id child)) ∙ fx) in
                subst (λ (v : Slip). v.num < y.num) one p.less

drained : (w : World) (old new : List Slip) (s : Slip) → IsRun w old → IsStep w.first old new s → IsBlock s → judge w s ≡ verdict.Admitted → (intake w s).dropped ≡ [] → Pairs (Later old) w.waiting
    → (l : Slip) × IsDraining new w.history (intake w s) l
drained w old new s run step block e dropped places =
    let honest = honest_all w old s run block e dropped in
    let facts = judged_takes w s e in
    let m = moves (length w.waiting) (first_intake w s) (starts w s run.sound block facts) in
    let own : IsFound (intake w s).history s = m.keeps s (find_id_at s w.history s.id (same_id_refl s.id)) in
    drain new w.history (length w.waiting) (first_intake w s) s (starts w s run.sound block facts) (record {
      rest = [];
      is = refl;
      pairs = (tt, tt);
      places = places_grow w old new s run step places;
      ahead = start_ahead w.waiting own honest run.sound.orphans;
    }) honest dropped
  where
    start_ahead : (room : List Slip) → IsFound (intake w s).history s → AllByRecursion (Honest (intake w s).history) room → AllByRecursion (λ y. has_id w.history y.parent_id ≡ false) room
        → AllByRecursion (λ y. has_id (s ∷ w.history) y.parent_id ≡ true → Above new y s) room
    start_ahead [] own a b = tt
    start_ahead (y ∷ ys) own a b =
        ((λ on. elim (or_cases (same_id s.id y.parent_id) (has_id w.history y.parent_id) on) [ inl child ↦ inl (a.0 s own child) | inr old' ↦ absurd (both_ways _ b.0 old') ]), start_ahead ys own a.1 b.1)

no_tip : (l : List Slip) → IsHistory l → (x : Slip) → IsFound l x → final_tip l ≡ None → ⊥
no_tip [] h x f k = grind (arith, f)
no_tip (z ∷ zs) h x f k = has_tip z zs h k

-- the new blocks of a repeat are off the tip
off_tip : (w : World) (old new : List Slip) (s : Slip) → IsRun w old → IsBlock s → judge w s ≡ verdict.Admitted → IsFound old s → (front : List Slip) → IsHistory (front ++ w.history) → ClaimsAgree (front ++ w.history)
    → IsNewPart (front ++ w.history) w.history s → IsFound (front ++ w.history) s → AllByRecursion (λ x. holds_tip (front ++ w.history) (final_tip (front ++ w.history)) x ≡ false) front
off_tip w old new s run block e again front history agreed part there =
    all_weaker (λ x. IsFound (front ++ w.history) x × (has_id w.history x.id ≡ false)) (λ x. holds_tip (front ++ w.history) (final_tip (front ++ w.history)) x ≡ false)
    (λ x f. false_from_ne_true _ (λ on. go (final_tip w.history) (final_tip (front ++ w.history)) refl refl x f.0 f.1 on)) front (front_new front w.history history)
  where
    F : List Slip
    F = front ++ w.history

    new_s : (has_id w.waiting s.id ≡ false) × (has_id w.history s.id ≡ false)
    new_s = new_parts w s (judged_takes w s e).new

    late : w.first ≤ s.num
    late = (judged_takes w s e).new.late

    low : Where w s → s.num ≤ tip_num w.history
    low (inl early) = absurd (omega (arith, early, late))
    low (inr (inl h)) = absurd (both_ways _ new_s.1 (has_id-find_id w.history s.id s h))
    low (inr (inr (inl r))) = absurd (both_ways _ new_s.0 (has_id-find_id w.waiting s.id s r))
    low (inr (inr (inr le))) = le

    no_history : (h : List Slip) → w.history ≡ h → final_tip h ≡ None → IsHistory h → ⊥
    no_history [] is k hist =
        let none : root_of w.first old ≡ None = run.root ∙ ap last_of is in
        let less = no_root w.first old none s again in
        omega (arith, less, late)
    no_history (y ∷ ys) is k hist = has_tip y ys hist k

    go : (o p : Option Slip) → final_tip w.history ≡ o → final_tip F ≡ p → (x : Slip) → IsFound F x → has_id w.history x.id ≡ false → holds_tip F (final_tip F) x ≡ true → ⊥
    go None p eo ep x fx nx on = no_history w.history refl eo run.sound.history
    go (Some t) None eo ep x fx nx on = no_tip F history x fx ep
    go (Some t) (Some u) eo ep x fx nx on =
        let c = tip_claimed w.history run.sound.history t eo in
        let ft : IsFound w.history t = claim_found w.history run.sound.history c.by t c.claimed in
        let on_u : has_id (ancestry F x.id) u.id ≡ true = ap (λ o. holds_tip F o x) (sym ep) ∙ on in
        let on_t : has_id (ancestry F x.id) t.id ≡ true = tip_below front w.history history agreed t u eo ep ft x.id on_u in
        let on_s : has_id (ancestry F x.id) s.id ≡ true = new_path F w.history s part there x fx nx in
        let later : IsFound F t = find_later front w.history history t.id (has_id-find_id w.history t.id t ft) ∙ ft in
        let le : s.num ≤ t.num = subst (λ (n : ℕ). s.num ≤ n) (ap num_of eo) (low (run.rest s again)) in
        elim (or_cases _ _ (on_one_path F history x.id t s later there on_t on_s)) [
          | inl t_on_s ↦
              let same : t ≡ s = same_number F history t s later there t_on_s le in
              both_ways _ new_s.1 (ap (has_id w.history) (ap (λ (v : Slip). v.id) (sym same)) ∙ has_id-find_id w.history t.id t ft)
          | inr s_on_t ↦
              let old_line : has_id (ancestry w.history t.id) s.id ≡ true = ap (λ l. has_id l s.id) (sym (ancestry_later front w.history history t.id (has_id-find_id w.history t.id t ft))) ∙ s_on_t in
              both_ways _ new_s.1 (has_id-ancestry w.history t.id s.id old_line)
        ]

takes_sorted : (w : World) (old new : List Slip) (s : Slip) → IsRun w old → IsDistinct old → IsStep w.first old new s → IsBlock s → judge w s ≡ verdict.Admitted → (intake w s).dropped ≡ []
    → IsRun (world_by w s verdict.Admitted) new → IsSorted w old → (l : Slip) × IsDraining new w.history (intake w s) l → IsSorted (world_by w s verdict.Admitted) new
takes_sorted w old new s run d step block e dropped after h all = record {
  places = pairs_filter (Later new) (λ (x : Slip). ltb (tip_num (intake w s).history) x.num) (intake w s).waiting all.1.places;
  order = λ root last. ordered (all.0 ∷ all.1.rest) all.1.is all.1.pairs root last;
}
  where
    N : ℕ
    N = position new s

    there : IsFound (intake w s).history s
    there = (moves (length w.waiting) (first_intake w s) (starts w s run.sound block (judged_takes w s e))).keeps s (find_id_at s w.history s.id (same_id_refl s.id))

    part : IsNewPart (intake w s).history w.history s
    part = new_part w old new s run block e

    last_old : (root : Slip) → last_of (intake w s).history ≡ Some root → (h' : List Slip) → w.history ≡ h' → (h' ≡ []) ⊎ (last_of w.history ≡ Some root)
    last_old root last [] is = inl refl
    last_old root last (y ∷ ys) is =
        let longer : IsSuffix (s ∷ w.history) (intake w s).history = taking_grows (length w.waiting) (first_intake w s) in
        let ends : last_of (intake w s).history ≡ last_of (s ∷ w.history) = ap last_of (sym longer.1) ∙ last_append longer.0 s w.history in
        inr (ap last_of is ∙ sym (ap (λ l. last_of (s ∷ l)) is) ∙ sym ends ∙ last)

    low_new : position new s ≡ length old → (x : Slip) → IsFound new x → position new x < suc N
    low_new at x f = elim (step.from x f) [
      | inl same ↦ omega (arith, ap (position new) same)
      | inr was ↦ let l = position_low old x was in omega (arith, l, step.at x was, at)
    ]

    front_times : position new s ≡ length old → (root : Slip) → last_of (intake w s).history ≡ Some root → (x : Slip) → IsFound (intake w s).history x → has_id w.history x.id ≡ false → (time : ℕ) → link_time new root x ≡ Some time → time ≡ N
    front_times at root last x fx nx =
        let b : IsBegun (world_by w s verdict.Admitted) new root = record { run = after; distinct = step.distinct; last = last } in
        new_time (intake w s).history w.history new s root part step.distinct there after.in_history
        (λ y f. let l = low_new at y f in omega (arith, l))
        (λ y time f k. let l = time_low new step.distinct root (suc N) (low_new at) (suc y.num) y time (omega arith) f k in omega (arith, l))
        (λ y f. scratch_linked (world_by w s verdict.Admitted) new root b y f) x fx nx

    old_times : position new s ≡ length old → (root : Slip) → last_of w.history ≡ Some root → AllByRecursion (λ y. (time : ℕ) → link_time new root y ≡ Some time → time < N) w.history
    old_times at root last =
        let b : IsBegun w old root = record { run = run; distinct = d; last = last } in
        all_weaker (IsFound w.history) (λ y. (time : ℕ) → link_time new root y ≡ Some time → time < N) (λ y f time k.
        let t = scratch_linked w old root b y f in
        let fo = run.in_history y f in
        let same : t.0 ≡ time = same_Some t.0 time (sym (link_grows w.first old new s root d step y t.0 fo t.1) ∙ k) in
        let l = time_low old d root (length old) (λ x g. position_low old x g) (suc y.num) y t.0 (omega arith) fo t.1 in
        omega (arith, l, same, at)) w.history (all_found w.history run.sound.history)

    ordered : (front : List Slip) → front ++ w.history ≡ (intake w s).history → Pairs (Above new) front → (root : Slip) → last_of (intake w s).history ≡ Some root
        → Pairs (Newer new root) (filter (holds_tip (intake w s).history (final_tip (intake w s).history)) (intake w s).history)
    ordered front is above root last =
        subst (λ (l : List Slip). Pairs (Newer new root) (filter (holds_tip l (final_tip l)) l)) is
        (sorted_after new front w.history root N history agreed (before (last_old root last w.history refl)) above (news step.fresh))
      where
        history : IsHistory (front ++ w.history)
        history = subst IsHistory (sym is) after.sound.history

        agreed : ClaimsAgree (front ++ w.history)
        agreed = subst ClaimsAgree (sym is) after.sound.agreed

        before : (w.history ≡ []) ⊎ (last_of w.history ≡ Some root) → Pairs (Newer new root) (filter (holds_tip w.history (final_tip w.history)) w.history)
        before (inl none) = subst (λ (l : List Slip). Pairs (Newer new root) (filter (holds_tip l (final_tip l)) l)) (sym none) tt
        before (inr l) = order_grows w old new s root run d step l (holds_tip w.history (final_tip w.history)) (h.order root l)

        olds : position new s ≡ length old → (w.history ≡ []) ⊎ (last_of w.history ≡ Some root) → AllByRecursion (λ y. (time : ℕ) → link_time new root y ≡ Some time → time < N) w.history
        olds at (inl none) = subst (AllByRecursion (λ y. (time : ℕ) → link_time new root y ≡ Some time → time < N)) (sym none) tt
        olds at (inr l) = old_times at root l

        news : IsFound old s ⊎ (position new s ≡ length old)
            → (IsAllNew new root N front w.history) ⊎ (AllByRecursion (λ x. holds_tip (front ++ w.history) (final_tip (front ++ w.history)) x ≡ false) front)
        news (inl again) = inr (off_tip w old new s run block e again front history agreed (subst (λ (l : List Slip). IsNewPart l w.history s) (sym is) part) (subst (λ (l : List Slip). IsFound l s) (sym is) there))
        news (inr at) = inl (
          (all_weaker (λ x. IsFound (front ++ w.history) x × (has_id w.history x.id ≡ false)) (λ x. (time : ℕ) → link_time new root x ≡ Some time → time ≡ N)
              (λ x f. front_times at root last x (subst (λ (l : List Slip). IsFound l x) is f.0) f.1) front (front_new front w.history history)),
          olds at (last_old root last w.history refl),
        )

step_sorted : (w : World) (old new : List Slip) (s : Slip) → IsRun w old → IsDistinct old → IsStep w.first old new s → IsBlock s → (v : Verdict) → judge w s ≡ v
    → is_ok (answer_by w s v) ≡ true → dropped_by (answer_by w s v) ≡ [] → IsRun (world_by w s v) new → IsSorted w old → IsSorted (world_by w s v) new
step_sorted w old new s run d step block verdict.Closed e ok none after h = absurd (grind (arith, ok))
step_sorted w old new s run d step block verdict.Duplicate e ok none after h = same_sorted_by w old new s run d step h
step_sorted w old new s run d step block (verdict.Conflict c) e ok none after h = absurd (grind (arith, ok))
step_sorted w old new s run d step block verdict.Early e ok none after h = same_sorted_by w old new s run d step h
step_sorted w old new s run d step block verdict.Stale e ok none after h = same_sorted_by w old new s run d step h
step_sorted w old new s run d step block verdict.WaitFull e ok none after h = absurd (grind (arith, ok))
step_sorted w old new s run d step block verdict.Waiting e ok none after h =
    let g = same_sorted_by w old new s run d step h in
    record { places = (newest step.fresh, g.places); order = g.order }
  where
    newest : IsFound old s ⊎ (position new s ≡ length old) → AllByRecursion (λ y. position new y < position new s) w.waiting
    newest (inr at) =
        all_weaker (IsFound w.waiting) (λ y. position new y < position new s) (λ y f.
        let fo = run.in_waiting y f in
        let l = position_low old y fo in
        omega (arith, l, step.at y fo, at)) w.waiting (distinct_found w.waiting run.sound.distinct)
    newest (inl again) = absurd (low (run.rest s again))
      where
        facts : IsWaiting w s
        facts = judged_waits w s e

        low : Where w s → ⊥
        low (inl early) = let l = facts.new.late in omega (arith, early, l)
        low (inr (inl f)) = both_ways _ (new_parts w s facts.new).1 (has_id-find_id w.history s.id s f)
        low (inr (inr (inl f))) = both_ways _ (new_parts w s facts.new).0 (has_id-find_id w.waiting s.id s f)
        low (inr (inr (inr le))) = let a = facts.above in omega (arith, le, a)
step_sorted w old new s run d step block (verdict.HistoryFull need) e ok none after h = absurd (grind (arith, ok))
step_sorted w old new s run d step block verdict.Admitted e ok none after h =
    let dropped = empty (intake w s).dropped none in
    takes_sorted w old new s run d step block e dropped after h (drained w old new s run step block e dropped h.places)
  where
    empty : (xs : List Clash) → reverse xs ≡ [] → xs ≡ []
    empty xs k = sym (reverse-reverse xs) ∙ ap reverse k

refused_sorted : (w : World) (old : List Slip) (s : Slip) → IsSorted w old → (v : Verdict) → is_ok (answer_by w s v) ≡ false → IsSorted (world_by w s v) old
refused_sorted w old s h verdict.Closed no' = h
refused_sorted w old s h verdict.Duplicate no' = h
refused_sorted w old s h (verdict.Conflict c) no' = record { places = h.places; order = h.order }
refused_sorted w old s h verdict.Early no' = h
refused_sorted w old s h verdict.Stale no' = h
refused_sorted w old s h verdict.WaitFull no' = h
refused_sorted w old s h verdict.Waiting no' = absurd (grind (arith, no'))
refused_sorted w old s h (verdict.HistoryFull need) no' = h
refused_sorted w old s h verdict.Admitted no' = absurd (grind (arith, no'))

pub sorted_of : (first number : ℕ) (limits : Limits) (offers : List Slip) → AllByRecursion IsBlock offers → dropped (empty_world first number limits) offers ≡ []
    → OneEach (once (taken (empty_world first number limits) offers)) → IsSorted (run (empty_world first number limits) offers) (once (taken (empty_world first number limits) offers))
sorted_of first number limits [] blocks none one = record { places = tt; order = λ root last. tt }
sorted_of first number limits (s ∷ earlier) blocks none one =
    let w0 = empty_world first number limits in
    let w = run w0 earlier in
    let parts = empty_both (dropped_by (offered w s).answer) (dropped w0 earlier) none in
    go (is_ok (offered w s).answer) refl parts.0 one (λ h. sorted_of first number limits earlier blocks.1 parts.1 h) (λ h. run_of first number limits earlier blocks.1 parts.1 h)
  where
    W : World
    W = run (empty_world first number limits) earlier

    T : List Slip
    T = taken (empty_world first number limits) earlier

    go : (b : Bool) → is_ok (offered W s).answer ≡ b → dropped_by (offered W s).answer ≡ [] → OneEach (once (cond b (s ∷ T) T)) → (OneEach (once T) → IsSorted W (once T)) → (OneEach (once T) → IsRun W (once T))
        → IsSorted (offered W s).world (once (cond b (s ∷ T) T))
    go true ok none' one' ih r =
        let before = rest_one T s one' in
        let step = block_step W.first T s (once_distinct (s ∷ T) one') in
        step_sorted W (once T) (once (s ∷ T)) s (r before) (once_distinct T before) step blocks.0 (judge W s) refl ok none' (run_step W (once T) (once (s ∷ T)) s (r before) step blocks.0 ok none') (ih before)
    go false no' none' one' ih r = refused_sorted W (once T) s (ih one') (judge W s) no'
