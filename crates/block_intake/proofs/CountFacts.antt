-- How many waiting blocks an admitted block can bring into the history: those that descend from it.
use Rattle.std.proofs.Common.{arith, ◌≡◌, ◌≤◌, ◌<◌, ◌+◌, ◌⊎◌, inl, inr, ℕ, zero, suc, Bool, true, false, not, cond, ◌||◌, ◌&&◌, List, [], ◌∷◌, ◌++◌, length, Option, Some, None, refl, sym, ◌∙◌, ap, subst}
use Rattle.std.specs.List.{AllByRecursion, filter, list_any}
use Rattle.std.proofs.lemmas.Bool.{cases_Bool, or_cases, both_ways}
use Rattle.std.proofs.lemmas.List.{length-append}
use Rattle.std.proofs.lemmas.List.Folds.{list_any-append}
use Rattle.std.proofs.lemmas.Option.{same_Some}
use Rattle.block_record.specs.declared.blocks.Slip.{Slip}
use Rattle.block_record.specs.Ids.{same_id, same_id_equiv, same_id-true}
use Rattle.chain_model.specs.Ancestry.{find_id, has_id}
use Rattle.relay_model.specs.declared.answers.Conflict.{Conflict as Clash}
use Rattle.relay_model.specs.Worlds.{World, descendants, descends, next_waiting, without}
use Rattle.relay_model.specs.Offers.{Intake, clash, intake, take_judged, take_one, take_in}
use Rattle.relay_model.specs.Soundness.{IsSound}
use Rattle.relay_model.proofs.public.Intakes.{IsTaken, all_filter, distinct_filter, find_of, next_is, without_short}
use Rattle.relay_model.proofs.public.Entries.{distinct_found}
use Rattle.block_intake.specs.Taking.{Counted}

-- a link more does no harm
any_implied : (f g : Slip → Bool) → ((x : Slip) → f x ≡ true → g x ≡ true) → (j : List ℕ) (xs : List Slip) → list_any (λ p. same_id p.id j && f p) xs ≡ true → list_any (λ p. same_id p.id j && g p) xs ≡ true
any_implied f g imp j [] h = absurd (grind (arith, h))
any_implied f g imp j (x ∷ xs) h =
    elim (or_cases (same_id x.id j && f x) (list_any (λ p. same_id p.id j && f p) xs) h) [
      | inl here ↦ rw (both (same_id x.id j) (f x) (g x) here (imp x)) refl
      | inr there ↦ rw (any_implied f g imp j xs there) (last (same_id x.id j && g x))
    ]
  where
    both : (a b c : Bool) → (a && b) ≡ true → (b ≡ true → c ≡ true) → (a && c) ≡ true
    both true b c h imp = imp h
    both false b c h imp = h

    last : (a : Bool) → (a || true) ≡ true
    last true = refl
    last false = refl

pub descends_more : (n : ℕ) (room : List Slip) (id : List ℕ) (x : Slip) → descends n room id x ≡ true → descends (suc n) room id x ≡ true
descends_more zero room id x h = absurd (grind (arith, h))
descends_more (suc n) room id x h =
    elim (or_cases (same_id x.parent_id id) (list_any (λ p. same_id p.id x.parent_id && descends n room id p) room) h) [
      | inl here ↦ rw here refl
      | inr there ↦ rw (any_implied (descends n room id) (descends (suc n) room id) (λ y d. descends_more n room id y d) x.parent_id room there) (last (same_id x.parent_id id))
    ]
  where
    last : (a : Bool) → (a || true) ≡ true
    last true = refl
    last false = refl

pub descends_upto : (k n : ℕ) (room : List Slip) (id : List ℕ) (x : Slip) → descends n room id x ≡ true → n ≤ k → descends k room id x ≡ true
descends_upto zero zero room id x h le = h
descends_upto zero (suc n) room id x h le = absurd (omega arith)
descends_upto (suc k) n room id x h le =
    elim (either n k le) [
      | inl low ↦ descends_more k room id x (descends_upto k n room id x h low)
      | inr same ↦ subst (λ m. descends m room id x ≡ true) same h
    ]
  where
    either : (a b : ℕ) → a ≤ suc b → (a ≤ b) ⊎ (a ≡ suc b)
    either a b le = grind arith

any_found : (f : Slip → Bool) (xs : List Slip) (j : List ℕ) (y : Slip) → find_id xs j ≡ Some y → f y ≡ true → list_any (λ p. same_id p.id j && f p) xs ≡ true
any_found f [] j y e h = absurd (grind (arith, e))
any_found f (x ∷ xs) j y e h =
    elim (cases_Bool (same_id x.id j)) [
      | inl here ↦ let same : x ≡ y = same_Some x y (rw here at e) in rw (here, same, h) refl
      | inr past ↦ rw (past, any_found f xs j y (rw past at e) h) refl
    ]

-- what holds of each holds of the one that is found
at_found : (P : Slip → Type 0) (xs : List Slip) (j : List ℕ) (y : Slip) → AllByRecursion P xs → find_id xs j ≡ Some y → P y × (same_id y.id j ≡ true)
at_found P [] j y all e = absurd (grind (arith, e))
at_found P (x ∷ xs) j y all e =
    elim (cases_Bool (same_id x.id j)) [
      | inl here ↦ let same : x ≡ y = same_Some x y (rw here at e) in (subst P same all.0, ap (λ (z : Slip). same_id z.id j) (sym same) ∙ here)
      | inr past ↦ at_found P xs j y all.1 (rw past at e)
    ]

filter_fewer : (f g : Slip → Bool) (xs : List Slip) → length (filter f (filter g xs)) ≤ length (filter f xs)
filter_fewer f g [] = omega arith
filter_fewer f g (x ∷ xs) =
    let rest = filter_fewer f g xs in
    let P : Bool → Bool → Type 0 = λ a b. length (filter f (cond b (x ∷ filter g xs) (filter g xs))) ≤ length (cond a (x ∷ filter f xs) (filter f xs)) in
    elim (cases_Bool (g x)) [
      | inl keep ↦ rw keep (kept (f x) rest)
      | inr drop ↦ rw drop (dropped (f x) rest)
    ]
  where
    kept : (b : Bool) → length (filter f (filter g xs)) ≤ length (filter f xs) → length (cond b (x ∷ filter f (filter g xs)) (filter f (filter g xs))) ≤ length (cond b (x ∷ filter f xs) (filter f xs))
    kept true h = omega (arith, h)
    kept false h = h

    dropped : (b : Bool) → length (filter f (filter g xs)) ≤ length (filter f xs) → length (filter f (filter g xs)) ≤ length (cond b (x ∷ filter f xs) (filter f xs))
    dropped true h = omega (arith, h)
    dropped false h = h

-- one fewer passes where one that passes is taken out
pub one_fewer : (f : Slip → Bool) (xs : List Slip) (x : Slip) → find_id xs x.id ≡ Some x → f x ≡ true → length (filter f (without x xs)) + 1 ≤ length (filter f xs)
one_fewer f [] x e h = absurd (grind (arith, e))
one_fewer f (y ∷ ys) x e h =
    elim (cases_Bool (same_id y.id x.id)) [
      | inl here ↦
          let same : y ≡ x = same_Some y x (rw here at e) in
          let less = filter_fewer f (λ t. not (same_id t.id x.id)) ys in
          rw (here, same, h) (omega (arith, less))
      | inr past ↦
          let less = one_fewer f ys x (rw past at e) h in
          rw past (kept (f y) less)
    ]
  where
    kept : (b : Bool) → length (filter f (without x ys)) + 1 ≤ length (filter f ys) → length (cond b (y ∷ filter f (without x ys)) (filter f (without x ys))) + 1 ≤ length (cond b (y ∷ filter f ys) (filter f ys))
    kept true h = omega (arith, h)
    kept false h = h

pub counts_first : (w : World) (s : Slip) → IsSound w → Counted w s (record { history = s ∷ w.history; waiting = w.waiting; dropped = [] })
counts_first w s sound = record {
  more = [];
  history = refl;
  held = tt;
  found = distinct_found w.waiting sound.distinct;
  orphans = sound.orphans;
  short = omega arith;
  distinct = sound.distinct;
  count = omega arith;
}

swap_true : (a b : List ℕ) → same_id a b ≡ true → same_id b a ≡ true
swap_true a b e = same_id_equiv.symm b a ∙ e

-- the next block descends from the admitted one
pub next_descends : (w : World) (s : Slip) (d : Intake) (k : Counted w s d) (x : Slip) → IsTaken d.history d.waiting x → descends (suc (length k.more)) w.waiting s.id x ≡ true
next_descends w s d k x is =
    let parent : has_id (k.more ++ s ∷ w.history) x.parent_id ≡ true = subst (λ l. has_id l x.parent_id ≡ true) k.history is.parent in
    let split : (has_id k.more x.parent_id || has_id (s ∷ w.history) x.parent_id) ≡ true = sym (list_any-append (λ t. same_id t.id x.parent_id) k.more (s ∷ w.history)) ∙ parent in
    elim (or_cases (has_id k.more x.parent_id) (has_id (s ∷ w.history) x.parent_id) split) [
      | inl later ↦
          let y = find_of k.more x.parent_id later in
          let at = at_found (λ z. (find_id w.waiting z.id ≡ Some z) × (descends (length k.more) w.waiting s.id z ≡ true)) k.more x.parent_id y.0 k.held y.1 in
          let here : find_id w.waiting x.parent_id ≡ Some y.0 = ap (find_id w.waiting) (sym (same_id-true y.0.id x.parent_id at.1)) ∙ at.0.0 in
          rw (any_found (descends (length k.more) w.waiting s.id) w.waiting x.parent_id y.0 here at.0.1) (last (same_id x.parent_id s.id))
      | inr old ↦ elim (or_cases (same_id s.id x.parent_id) (has_id w.history x.parent_id) old) [
        | inl own ↦ rw (swap_true s.id x.parent_id own) refl
        | inr gone ↦ absurd (both_ways _ (is.has (λ z. has_id w.history z.parent_id ≡ false) k.orphans) gone)
      ]
    ]
  where
    last : (a : Bool) → (a || true) ≡ true
    last true = refl
    last false = refl

-- what is known of the next block by the counts
pub record NextCounts (w : World) (s : Slip) (d : Intake) (more : List Slip) (x : Slip) : Type 0 where
  pub passes : descends (length w.waiting) w.waiting s.id x ≡ true
  pub fewer : length (filter (descends (length w.waiting) w.waiting s.id) (without x d.waiting)) + 1 ≤ length (filter (descends (length w.waiting) w.waiting s.id) d.waiting)
  pub shorter : length (without x d.waiting) < length d.waiting
  pub link : descends (suc (length more)) w.waiting s.id x ≡ true

pub next_counts : (w : World) (s : Slip) (d : Intake) (k : Counted w s d) (x : Slip) → IsTaken d.history d.waiting x → NextCounts w s d k.more x
next_counts w s d k x is =
    let link = next_descends w s d k x is in
    let shorter = without_short x d.waiting is.here in
    let passes = descends_upto (length w.waiting) (suc (length k.more)) w.waiting s.id x link (omega (arith, k.short, shorter)) in
    record {
      passes = passes;
      fewer = one_fewer (descends (length w.waiting) w.waiting s.id) d.waiting x (is.has (λ z. find_id d.waiting z.id ≡ Some z) (distinct_found d.waiting k.distinct)) passes;
      shorter = shorter;
      link = link;
    }

all_upto : (w : World) (s : Slip) (n : ℕ) (ys : List Slip) → AllByRecursion (λ y. (find_id w.waiting y.id ≡ Some y) × (descends n w.waiting s.id y ≡ true)) ys
    → AllByRecursion (λ y. (find_id w.waiting y.id ≡ Some y) × (descends (suc n) w.waiting s.id y ≡ true)) ys
all_upto w s n [] all = tt
all_upto w s n (y ∷ ys) all = ((all.0.0, descends_more n w.waiting s.id y all.0.1), all_upto w s n ys all.1)

pub counts_judged : (w : World) (s : Slip) (d : Intake) (k : Counted w s d) (x : Slip) → IsTaken d.history d.waiting x → (o : Option Clash) → Counted w s (take_judged d x o)
counts_judged w s d k x is None =
    let next = next_counts w s d k x is in
    let keep = λ (t : Slip). not (same_id t.id x.id) in
    record {
      more = x ∷ k.more;
      history = ap (λ l. x ∷ l) k.history;
      held = ((is.has (λ z. find_id w.waiting z.id ≡ Some z) k.found, next.link), all_upto w s (length k.more) k.more k.held);
      found = all_filter (λ z. find_id w.waiting z.id ≡ Some z) keep d.waiting k.found;
      orphans = all_filter (λ z. has_id w.history z.parent_id ≡ false) keep d.waiting k.orphans;
      short = omega (arith, k.short, next.shorter);
      distinct = distinct_filter keep d.waiting k.distinct;
      count = omega (arith, k.count, next.fewer);
    }
counts_judged w s d k x is (Some c) =
    let next = next_counts w s d k x is in
    let keep = λ (t : Slip). not (same_id t.id x.id) in
    record {
      more = k.more;
      history = k.history;
      held = k.held;
      found = all_filter (λ z. find_id w.waiting z.id ≡ Some z) keep d.waiting k.found;
      orphans = all_filter (λ z. has_id w.history z.parent_id ≡ false) keep d.waiting k.orphans;
      short = omega (arith, k.short, next.shorter);
      distinct = distinct_filter keep d.waiting k.distinct;
      count = omega (arith, k.count, next.fewer);
    }

pub counts_one : (w : World) (s : Slip) (d : Intake) → Counted w s d → (o : Option Slip) → next_waiting d.history d.waiting ≡ o → Counted w s (take_one d o)
counts_one w s d k None e = k
counts_one w s d k (Some x) e = counts_judged w s d k x (next_is d.history d.waiting x e) (clash d.history x)

pub counts_all : (w : World) (s : Slip) (n : ℕ) (d : Intake) → Counted w s d → Counted w s (take_in n d)
counts_all w s zero d k = k
counts_all w s (suc n) d k = counts_all w s n (take_one d (next_waiting d.history d.waiting)) (counts_one w s d k (next_waiting d.history d.waiting) refl)

-- an admission brings and drops no more blocks than the block itself and the waiting blocks that descend from it
pub intake_within : (w : World) (s : Slip) → IsSound w → length (intake w s).history + length (intake w s).dropped ≤ length w.history + (1 + descendants w.waiting s.id)
intake_within w s sound =
    let k = counts_all w s (length w.waiting) (record { history = s ∷ w.history; waiting = w.waiting; dropped = [] }) (counts_first w s sound) in
    omega (arith, ap length k.history, length-append k.more (s ∷ w.history), k.count)
