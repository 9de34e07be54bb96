-- Why the entries of an offer bring the world that it leaves.
use Rattle.std.proofs.Common.{arith, ◌≡◌, ◌≤◌, inl, inr, ℕ, zero, suc, ◌-◌, Bool, true, false, not, cond, List, [], ◌∷◌, ◌++◌, length, map, take, Option, Some, None, refl, sym, ◌∙◌, ap, subst, ltb, ◌&&◌, append_assoc}
use Rattle.std.specs.List.{AllByRecursion, filter}
use Rattle.std.proofs.lemmas.Bool.{cases_Bool, le-ltb, lt-ltb, ltb-false}
use Rattle.std.proofs.lemmas.List.{length-append}
use Rattle.std.proofs.lemmas.Option.{same_Some}
use mathlib.Core.List.{IsSuffix-trans}
use Rattle.block_record.specs.declared.blocks.Slip.{Slip}
use Rattle.block_record.specs.declared.blocks.Kind.{Kind}
use Rattle.block_record.specs.Ids.{same_id, same_id_refl, same_id-true}
use Rattle.chain_model.specs.Ancestry.{find_id, has_id, IsHistory}
use Rattle.chain_model.specs.Finality.{final_tip}
use Rattle.chain_laws.proofs.public.Lines.{IsHistory-rest}
use Rattle.chain_laws.proofs.public.Growth.{all_weaker, claim_kept, found_past, tip_claimed}
use Rattle.chain_laws.proofs.public.Reach.{has_id-suffix, has_id-append_right}
use Rattle.relay_model.specs.declared.answers.Conflict.{Conflict as Clash}
use Rattle.relay_model.specs.Worlds.{World, next_waiting, without}
use Rattle.relay_model.specs.Offers.{Intake, intake, take_one, take_judged, take_in, clash, purged, tip_num, num_of, judge, world_by, kind_after}
use Rattle.relay_model.specs.Verdicts.{Verdict}
use Rattle.relay_model.specs.Verdicts as verdict
use Rattle.relay_model.specs.Soundness.{IsBlock}
use Rattle.relay_model.specs.Chronicles.{Entry, Admitted, first_of, run_of, limits_of, size_of, kind_of, history_of, waited_of, stored_of, closed_of, still_waits, waiting_of, world_of, kind_added, added_by}
use Rattle.relay_model.specs.Soundness.{IsDistinct, IsSound}
use Rattle.relay_model.specs.Laws.{OfferAdds}
use Rattle.chain_laws.proofs.public.Roots.{has_tip}
use Rattle.chain_laws.proofs.public.Tips.{tip_most}
use Rattle.relay_model.proofs.public.Intakes.{IsTaken, next_is, IsTaking, keeps_one, grows_one, taking_grows}
use Rattle.relay_model.proofs.public.Judged.{judged_waits, judged_takes}
use Rattle.relay_model.proofs.public.Sound.{none_found, lacks_each, first_intake, starts, begins_taking, ends_taking, intake_grows}

-- each block of a list without an id twice is found
pub distinct_found : (xs : List Slip) → IsDistinct xs → AllByRecursion (λ x. find_id xs x.id ≡ Some x) xs
distinct_found [] d = tt
distinct_found (x ∷ xs) d =
    (rw (same_id_refl x.id) refl, later xs (lacks_each xs x.id d.0) (distinct_found xs d.1))
  where
    later : (ys : List Slip) → AllByRecursion (λ y. same_id x.id y.id ≡ false) ys → AllByRecursion (λ y. find_id xs y.id ≡ Some y) ys → AllByRecursion (λ y. find_id (x ∷ xs) y.id ≡ Some y) ys
    later [] a b = tt
    later (y ∷ ys) a b = (rw a.0 b.0, later ys a.1 b.1)

-- a filter does not see the block that is taken out, where it fails it
filter_without : (f : Slip → Bool) (s : Slip) (room : List Slip) → AllByRecursion (λ t. same_id t.id s.id ≡ true → f t ≡ false) room → filter f (without s room) ≡ filter f room
filter_without f s [] all = refl
filter_without f s (x ∷ xs) all =
    let rest = filter_without f s xs all.1 in
    elim (cases_Bool (same_id x.id s.id)) [
      | inl same ↦ rw (same, all.0 same) rest
      | inr other ↦ rw other (kept (f x) rest)
    ]
  where
    kept : (b : Bool) → filter f (without s xs) ≡ filter f xs → cond b (x ∷ filter f (without s xs)) (filter f (without s xs)) ≡ cond b (x ∷ filter f xs) (filter f xs)
    kept b e = rw e refl

pub one_with_id : (newest room : List Slip) (s : Slip) → IsDistinct room → IsTaken newest room s
    → AllByRecursion (λ t. same_id t.id s.id ≡ true → has_id newest t.parent_id ≡ true) room
one_with_id newest room s distinct is =
    let found = is.has (λ x. find_id room x.id ≡ Some x) (distinct_found room distinct) in
    all_weaker (λ x. find_id room x.id ≡ Some x) (λ t. same_id t.id s.id ≡ true → has_id newest t.parent_id ≡ true)
    (λ t there same.
    let one : s ≡ t = same_Some s t (sym found ∙ ap (find_id room) (sym (same_id-true t.id s.id same)) ∙ there) in
    subst (λ (x : Slip). has_id newest x.parent_id ≡ true) one is.parent)
    room (distinct_found room distinct)

filter_one : (d : Intake) → IsTaking d → (f : Slip → Bool) → ((x : Slip) → has_id d.history x.parent_id ≡ true → f x ≡ false)
    → (o : Option Slip) → next_waiting d.history d.waiting ≡ o → filter f (take_one d o).waiting ≡ filter f d.waiting
filter_one d t f fails None e = refl
filter_one d t f fails (Some s) e = go (clash d.history s)
  where
    all : AllByRecursion (λ x. same_id x.id s.id ≡ true → f x ≡ false) d.waiting
    all = all_weaker (λ x. same_id x.id s.id ≡ true → has_id d.history x.parent_id ≡ true) (λ x. same_id x.id s.id ≡ true → f x ≡ false)
        (λ x parent same. fails x (parent same)) d.waiting (one_with_id d.history d.waiting s t.distinct (next_is d.history d.waiting s e))

    go : (o : Option Clash) → filter f (take_judged d s o).waiting ≡ filter f d.waiting
    go None = filter_without f s d.waiting all
    go (Some c) = filter_without f s d.waiting all

filter_all : (n : ℕ) (d : Intake) → IsTaking d → (f : Slip → Bool) → ((x : Slip) → has_id (take_in n d).history x.parent_id ≡ true → f x ≡ false)
    → filter f (take_in n d).waiting ≡ filter f d.waiting
filter_all zero d t f fails = refl
filter_all (suc n) d t f fails =
    let next = next_waiting d.history d.waiting in
    let after = take_one d next in
    filter_all n after (keeps_one d t next refl) f fails
    ∙ filter_one d t f (λ x h. fails x (has_id-suffix _ _ x.parent_id (IsSuffix-trans (grows_one d next) (taking_grows n after)) h)) next refl

-- a filter after a weaker one
filter_twice : (f g : Slip → Bool) (xs : List Slip) → ((x : Slip) → g x ≡ false → f x ≡ false) → filter f (filter g xs) ≡ filter f xs
filter_twice f g [] h = refl
filter_twice f g (x ∷ xs) h =
    let rest = filter_twice f g xs h in
    elim (cases_Bool (g x)) [
      | inl hit ↦ rw hit (kept (f x) rest)
      | inr miss ↦ rw (miss, h x miss) rest
    ]
  where
    kept : (b : Bool) → filter f (filter g xs) ≡ filter f xs → cond b (x ∷ filter f (filter g xs)) (filter f (filter g xs)) ≡ cond b (x ∷ filter f xs) (filter f xs)
    kept b e = rw e refl

pub filter_agree : (f g : Slip → Bool) (xs : List Slip) → AllByRecursion (λ x. f x ≡ g x) xs → filter f xs ≡ filter g xs
filter_agree f g [] all = refl
filter_agree f g (x ∷ xs) all = rw (all.0, filter_agree f g xs all.1) refl

-- the tip's number does not fall
pub tip_one : (s : Slip) (older : List Slip) → IsHistory (s ∷ older) → tip_num older ≤ tip_num (s ∷ older)
tip_one s older history = go (final_tip older) (final_tip (s ∷ older)) refl refl
  where
    go : (o p : Option Slip) → final_tip older ≡ o → final_tip (s ∷ older) ≡ p → num_of o ≤ num_of p
    go None p e f = omega arith
    go (Some t) None e f = absurd (has_tip s older history f)
    go (Some t) (Some u) e f =
        let by = tip_claimed older (IsHistory-rest s older history) t e in
        tip_most (s ∷ older) u by.by t f (found_past s older history by.by by.found) (claim_kept s older history by.by by.found ∙ by.claimed)

pub tip_rises : (more older : List Slip) → IsHistory (more ++ older) → tip_num older ≤ tip_num (more ++ older)
tip_rises [] older history = omega arith
tip_rises (s ∷ more) older history =
    let rest = tip_rises more older (IsHistory-rest s (more ++ older) history) in
    let one = tip_one s (more ++ older) history in
    omega (arith, rest, one)

-- what entries of admitted blocks leave
abbrev pub adm : List Slip → List Entry → List Entry
adm xs es = map Admitted xs ++ es

adm_history : (xs : List Slip) (es : List Entry) → history_of (adm xs es) ≡ xs ++ history_of es
adm_history [] es = refl
adm_history (x ∷ xs) es = ap (λ l. x ∷ l) (adm_history xs es)

adm_waited : (xs : List Slip) (es : List Entry) → waited_of (adm xs es) ≡ waited_of es
adm_waited [] es = refl
adm_waited (x ∷ xs) es = adm_waited xs es

adm_stored : (xs : List Slip) (es : List Entry) → stored_of (adm xs es) ≡ stored_of es
adm_stored [] es = refl
adm_stored (x ∷ xs) es = adm_stored xs es

adm_first : (xs : List Slip) (es : List Entry) → first_of (adm xs es) ≡ first_of es
adm_first [] es = refl
adm_first (x ∷ xs) es = adm_first xs es

adm_run : (xs : List Slip) (es : List Entry) → run_of (adm xs es) ≡ run_of es
adm_run [] es = refl
adm_run (x ∷ xs) es = adm_run xs es

adm_limits : (xs : List Slip) (es : List Entry) → limits_of (adm xs es) ≡ limits_of es
adm_limits [] es = refl
adm_limits (x ∷ xs) es = adm_limits xs es

adm_size : (xs : List Slip) (es : List Entry) → size_of (adm xs es) ≡ size_of es
adm_size [] es = refl
adm_size (x ∷ xs) es = adm_size xs es

adm_kind : (xs : List Slip) (es : List Entry) → kind_of (adm xs es) ≡ kind_of es
adm_kind [] es = refl
adm_kind (x ∷ xs) es = adm_kind xs es

adm_closed : (xs : List Slip) (es : List Entry) → closed_of (adm xs es) ≡ closed_of es
adm_closed [] es = refl
adm_closed (x ∷ xs) es = adm_closed xs es

-- and the entry of a kind
record SameButKind (a b : List Entry) (k : Option Kind) : Type 0 where
  first : first_of a ≡ first_of b
  run : run_of a ≡ run_of b
  limits : limits_of a ≡ limits_of b
  size : size_of a ≡ size_of b
  kind : kind_of a ≡ k
  history : history_of a ≡ history_of b
  waited : waited_of a ≡ waited_of b
  stored : stored_of a ≡ stored_of b
  closed : closed_of a ≡ closed_of b

with_kind : (k : Option Kind) (h : List Slip) (es : List Entry) → kind_of es ≡ k → SameButKind (kind_added k h ++ es) es (kind_after k h)
with_kind None [] es e = record { first = refl; run = refl; limits = refl; size = refl; kind = refl; history = refl; waited = refl; stored = refl; closed = refl }
with_kind None (s ∷ older) es e = record { first = refl; run = refl; limits = refl; size = refl; kind = e; history = refl; waited = refl; stored = refl; closed = refl }
with_kind (Some k) h es e = record { first = refl; run = refl; limits = refl; size = refl; kind = e; history = refl; waited = refl; stored = refl; closed = refl }

take_front : (xs ys all : List Slip) → xs ++ ys ≡ all → take (length all - length ys) all ≡ xs
take_front xs ys all e = subst (λ (l : List Slip). take (length l - length ys) l ≡ xs) e (front (length (xs ++ ys) - length ys) (omega (arith, length-append xs ys)))
  where
    front : (n : ℕ) → n ≡ length xs → take n (xs ++ ys) ≡ xs
    front n k = rw k (go xs)
      where
        go : (zs : List Slip) → take (length zs) (zs ++ ys) ≡ zs
        go [] = refl
        go (z ∷ zs) = ap (λ l. z ∷ l) (go zs)

world_same : (a b : World) → a.first ≡ b.first → a.run ≡ b.run → a.limits ≡ b.limits → a.size ≡ b.size → a.kind ≡ b.kind → a.history ≡ b.history → a.waiting ≡ b.waiting → a.stored ≡ b.stored → a.conflicts ≡ b.conflicts → a.closed ≡ b.closed → a ≡ b
world_same a b e1 e2 e3 e4 e5 e6 e7 e8 e9 e10 =
    let y : record { first = a.first; run = a.run; limits = a.limits; size = a.size; kind = a.kind; history = a.history; waiting = a.waiting; stored = a.stored; conflicts = a.conflicts; closed = a.closed } ≡ b = rw (e1, e2, e3, e4, e5, e6, e7, e8, e9, e10) refl in
    y

has_parent_fails : (newest : List Slip) (x : Slip) → has_id newest x.parent_id ≡ true → still_waits newest x ≡ false
has_parent_fails newest x h = rw h refl

-- whether a block still waits, in a longer history
waits_before : (more older : List Slip) → IsHistory (more ++ older) → (x : Slip) → still_waits older x ≡ false → still_waits (more ++ older) x ≡ false
waits_before more older history x e =
    elim (cases_Bool (has_id older x.parent_id)) [
      | inl there ↦ has_parent_fails (more ++ older) x (has_id-append_right more older x.parent_id there)
      | inr absent ↦
          let low : ltb (tip_num older) x.num ≡ false = rw absent at e in
          let le = ltb-false _ _ low in
          let up = tip_rises more older history in
          let high : ltb (tip_num (more ++ older)) x.num ≡ false = le-ltb _ _ (omega (arith, le, up)) in
          and_false (not (has_id (more ++ older) x.parent_id)) (ltb (tip_num (more ++ older)) x.num) high
    ]
  where
    and_false : (a b : Bool) → b ≡ false → (a && b) ≡ false
    and_false true b h = h
    and_false false b h = refl

waiting_after : (newest : List Slip) (room : List Slip) → AllByRecursion (λ t. has_id newest t.parent_id ≡ false) room → filter (still_waits newest) room ≡ purged newest room
waiting_after newest room none = filter_agree (still_waits newest) _ room (all_weaker (λ t. has_id newest t.parent_id ≡ false) _ (λ x h. rw h refl) room none)

adds_takes : (es : List Entry) (s : Slip) → IsSound (world_of es) → IsBlock s → judge (world_of es) s ≡ verdict.Admitted
    → world_of (added_by (world_of es) s verdict.Admitted ++ es) ≡ record (world_by (world_of es) s verdict.Admitted) { conflicts = [] }
adds_takes es s sound block e =
    let w = world_of es in
    let d = intake w s in
    let begun = first_intake w s in
    let facts = judged_takes w s e in
    let t = begins_taking w s sound block facts in
    let grown = intake_grows w s in
    let more = grown.0 in
    let new : take (length d.history - length w.history) d.history ≡ more = take_front more w.history d.history grown.1 in
    let k = with_kind (kind_of es) (history_of es) es refl in
    let rest = kind_added (kind_of es) (history_of es) ++ es in
    let entries : (map Admitted (take (length d.history - length w.history) d.history) ++ kind_added (kind_of es) (history_of es)) ++ es ≡ adm more rest =
    append_assoc (map Admitted (take (length d.history - length w.history) d.history)) (kind_added (kind_of es) (history_of es)) es ∙ ap (λ l. adm l rest) new in
    let h : history_of (adm more rest) ≡ d.history = adm_history more rest ∙ ap (λ l. more ++ l) k.history ∙ grown.1 in
    let history : IsHistory (more ++ w.history) = subst IsHistory (sym grown.1) t.history in
    let f = still_waits d.history in
    let before : (x : Slip) → still_waits w.history x ≡ false → f x ≡ false =
    λ x miss. subst (λ (l : List Slip). still_waits l x ≡ false) grown.1 (waits_before more w.history history x miss) in
    let room : filter f (waited_of es) ≡ purged d.history d.waiting =
    sym (filter_twice f (still_waits w.history) (waited_of es) before)
    ∙ sym (filter_all (length w.waiting) begun (starts w s sound block facts) f (has_parent_fails d.history))
    ∙ waiting_after d.history d.waiting (ends_taking w s) in
    world_same _ _
    (ap first_of entries ∙ adm_first more rest ∙ k.first)
    (ap run_of entries ∙ adm_run more rest ∙ k.run)
    (ap limits_of entries ∙ adm_limits more rest ∙ k.limits)
    (ap size_of entries ∙ adm_size more rest ∙ k.size)
    (ap kind_of entries ∙ adm_kind more rest ∙ k.kind)
    (ap history_of entries ∙ h)
    (ap waiting_of entries ∙ both_waiting (history_of (adm more rest)) (waited_of (adm more rest)) d.history (waited_of es) h (adm_waited more rest ∙ k.waited) ∙ room)
    (ap stored_of entries ∙ adm_stored more rest ∙ k.stored)
    refl
    (ap closed_of entries ∙ adm_closed more rest ∙ k.closed)
  where
    both_waiting : (a xs b ys : List Slip) → a ≡ b → xs ≡ ys → filter (still_waits a) xs ≡ filter (still_waits b) ys
    both_waiting a xs b ys e1 e2 = rw (e1, e2) refl

adds_by : (es : List Entry) (s : Slip) → IsSound (world_of es) → IsBlock s → (v : Verdict) → judge (world_of es) s ≡ v
    → world_of (added_by (world_of es) s v ++ es) ≡ record (world_by (world_of es) s v) { conflicts = [] }
adds_by es s sound block verdict.Closed e = refl
adds_by es s sound block verdict.Duplicate e = refl
adds_by es s sound block (verdict.Conflict c) e = refl
adds_by es s sound block verdict.Early e = refl
adds_by es s sound block verdict.Stale e = refl
adds_by es s sound block verdict.WaitFull e = refl
adds_by es s sound block verdict.Waiting e =
    let facts = judged_waits (world_of es) s e in
    let parent : has_id (history_of es) s.parent_id ≡ false = none_found (history_of es) s.parent_id facts.orphan in
    let above : ltb (tip_num (history_of es)) s.num ≡ true = lt-ltb _ _ facts.above in
    let waits : still_waits (history_of es) s ≡ true = both (has_id (history_of es) s.parent_id) (ltb (tip_num (history_of es)) s.num) parent above in
    world_same _ _ refl refl refl refl refl refl (ap (λ b. cond b (s ∷ waiting_of es) (waiting_of es)) waits) refl refl refl
  where
    both : (a b : Bool) → a ≡ false → b ≡ true → (not a && b) ≡ true
    both a b x y = rw (x, y) refl
adds_by es s sound block (verdict.HistoryFull need) e = refl
adds_by es s sound block verdict.Admitted e = adds_takes es s sound block e

pub offer_adds : OfferAdds
offer_adds es s sound block = adds_by es s sound block (judge (world_of es) s) refl
