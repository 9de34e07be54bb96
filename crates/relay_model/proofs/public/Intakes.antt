-- What holds while waiting blocks are taken in.
use Rattle.std.proofs.Common.{arith, ◌≡◌, ◌≤◌, ◌<◌, ◌⊎◌, inl, inr, ℕ, zero, suc, Bool, true, false, not, cond, List, [], ◌∷◌, length, Option, Some, None, refl, sym, ◌∙◌, ap, subst}
use Rattle.std.specs.List.{AllByRecursion, filter}
use Rattle.std.proofs.lemmas.Bool.{cases_Bool, or_parts, both_ways, false_from_ne_true}
use Rattle.std.proofs.lemmas.Option.{same_Some}
use mathlib.Core.List.{IsSuffix, IsSuffix-trans}
use Rattle.block_record.specs.declared.blocks.Slip.{Slip}
use Rattle.block_record.specs.Ids.{same_id, same_id_refl, same_id-true}
use Rattle.chain_model.specs.Ancestry.{find_id, has_id, IsHistory}
use Rattle.chain_model.specs.Finality.{ClaimsAgree}
use Rattle.chain_laws.proofs.public.Meeting.{all_in}
use Rattle.relay_model.specs.declared.answers.Conflict.{Conflict as Clash}
use Rattle.relay_model.specs.Worlds.{lesser, least, next_waiting, without}
use Rattle.relay_model.specs.Offers.{Intake, clash, take_judged, take_one, take_in}
use Rattle.relay_model.specs.Soundness.{IsDistinct}
use Rattle.relay_model.proofs.public.Admits.{admits}

pub all_filter : (P : Slip → Type 0) (p : Slip → Bool) (xs : List Slip) → AllByRecursion P xs → AllByRecursion P (filter p xs)
all_filter P p [] all = tt
all_filter P p (x ∷ xs) all =
    let Q : Bool → Type 0 = λ t. AllByRecursion P (cond t (x ∷ filter p xs) (filter p xs)) in
    elim (p x) as Q [ true ↦ (all.0, all_filter P p xs all.1) | false ↦ all_filter P p xs all.1 ]

pub all_pass : (p : Slip → Bool) (xs : List Slip) → AllByRecursion (λ s. p s ≡ true) (filter p xs)
all_pass p [] = tt
all_pass p (x ∷ xs) =
    let Q : Bool → Type 0 = λ t. p x ≡ t → AllByRecursion (λ s. p s ≡ true) (cond t (x ∷ filter p xs) (filter p xs)) in
    let both : Q (p x) = elim (p x) as Q [ true ↦ λ hit. (hit, all_pass p xs) | false ↦ λ miss. all_pass p xs ] in
    both refl

pub all_both : (P Q R : Slip → Type 0) → ((s : Slip) → P s → Q s → R s) → (xs : List Slip) → AllByRecursion P xs → AllByRecursion Q xs → AllByRecursion R xs
all_both P Q R f [] a b = tt
all_both P Q R f (x ∷ xs) a b = (f x a.0 b.0, all_both P Q R f xs a.1 b.1)

pub filter_lacks : (p : Slip → Bool) (xs : List Slip) (j : List ℕ) → has_id xs j ≡ false → has_id (filter p xs) j ≡ false
filter_lacks p [] j h = refl
filter_lacks p (x ∷ xs) j h =
    let parts = or_parts (same_id x.id j) (has_id xs j) h in
    let rest = filter_lacks p xs j parts.1 in
    let Q : Bool → Type 0 = λ t. has_id (cond t (x ∷ filter p xs) (filter p xs)) j ≡ false in
    elim (p x) as Q [ true ↦ rw (parts.0, rest) refl | false ↦ rest ]

pub distinct_filter : (p : Slip → Bool) (xs : List Slip) → IsDistinct xs → IsDistinct (filter p xs)
distinct_filter p [] d = tt
distinct_filter p (x ∷ xs) d =
    let rest = distinct_filter p xs d.1 in
    let Q : Bool → Type 0 = λ t. IsDistinct (cond t (x ∷ filter p xs) (filter p xs)) in
    elim (p x) as Q [ true ↦ (filter_lacks p xs x.id d.0, rest) | false ↦ rest ]

pub lesser_cases : (o : Option Slip) (s t : Slip) → lesser o s ≡ Some t → (o ≡ Some t) ⊎ (s ≡ t)
lesser_cases None s t e = inr (same_Some s t e)
lesser_cases (Some u) s t e = grind (arith, e)

lesser_is_some : (o : Option Slip) (s : Slip) → lesser o s ≡ None → ⊥
lesser_is_some None s e = cc
lesser_is_some (Some u) s e = grind (arith, e)

-- the least is one of them
pub least_is : (P : Slip → Type 0) (xs : List Slip) (s : Slip) → AllByRecursion P xs → least xs ≡ Some s → P s
least_is P [] s all e = absurd (grind (arith, e))
least_is P (x ∷ xs) s all e =
    elim (lesser_cases (least xs) x s e) [ inl older ↦ least_is P xs s all.1 older | inr same ↦ subst P same all.0 ]

pub no_least : (xs : List Slip) → least xs ≡ None → xs ≡ []
no_least [] e = refl
no_least (x ∷ xs) e = absurd (lesser_is_some (least xs) x e)

none_pass : (p : Slip → Bool) (xs : List Slip) → filter p xs ≡ [] → AllByRecursion (λ s. p s ≡ false) xs
none_pass p [] e = tt
none_pass p (x ∷ xs) e =
    elim (cases_Bool (p x)) [
      | inl hit ↦ absurd (grind (arith, e, hit))
      | inr miss ↦ (miss, none_pass p xs (rw miss at e))
    ]

-- what is known of the next block that is taken
pub record IsTaken (newest room : List Slip) (s : Slip) : Type 1 where
  pub parent : has_id newest s.parent_id ≡ true
  pub here : has_id room s.id ≡ true
  pub has : (P : Slip → Type 0) → AllByRecursion P room → P s

pub next_is : (newest room : List Slip) (s : Slip) → next_waiting newest room ≡ Some s → IsTaken newest room s
next_is newest room s e =
    let p = λ (x : Slip). has_id newest x.parent_id in
    record {
      parent = least_is (λ x. p x ≡ true) (filter p room) s (all_pass p room) e;
      here = least_is (λ x. has_id room x.id ≡ true) (filter p room) s (all_filter _ p room (all_in room)) e;
      has = λ P all. least_is P (filter p room) s (all_filter P p room all) e;
    }

pub none_next : (newest room : List Slip) → next_waiting newest room ≡ None → AllByRecursion (λ s. has_id newest s.parent_id ≡ false) room
none_next newest room e = let p = λ (x : Slip). has_id newest x.parent_id in none_pass p room (no_least (filter p room) e)

filter_short : (p : Slip → Bool) (xs : List Slip) → length (filter p xs) ≤ length xs
filter_short p [] = omega arith
filter_short p (x ∷ xs) =
    let rest = filter_short p xs in
    let Q : Bool → Type 0 = λ t. length (cond t (x ∷ filter p xs) (filter p xs)) ≤ length (x ∷ xs) in
    elim (p x) as Q [ true ↦ omega (arith, rest) | false ↦ omega (arith, rest) ]

pub without_short : (s : Slip) (room : List Slip) → has_id room s.id ≡ true → length (without s room) < length room
without_short s [] h = absurd (both_ways _ refl h)
without_short s (x ∷ xs) h =
    elim (cases_Bool (same_id x.id s.id)) [
      | inl same ↦ let rest = filter_short (λ t. not (same_id t.id s.id)) xs in rw same (omega (arith, rest))
      | inr other ↦
          let below : has_id xs s.id ≡ true = rw other at h in
          let rest = without_short s xs below in
          rw other (omega (arith, rest))
    ]

-- what holds all the while
pub record IsTaking (d : Intake) : Type 0 where
  pub history : IsHistory d.history
  pub agreed : ClaimsAgree d.history
  pub distinct : IsDistinct d.waiting
  pub apart : AllByRecursion (λ s. has_id d.history s.id ≡ false) d.waiting
  pub rises : AllByRecursion (λ s. s.parent_num < s.num) d.waiting

pub find_of : (newest : List Slip) (id : List ℕ) → has_id newest id ≡ true → (p : Slip) × (find_id newest id ≡ Some p)
find_of [] id h = absurd (both_ways _ refl h)
find_of (x ∷ xs) id h =
    elim (cases_Bool (same_id x.id id)) [
      | inl here ↦ (x, rw here refl)
      | inr past ↦ let r = find_of xs id (rw past at h) in (r.0, rw past r.1)
    ]

pub other_way : (a b : List ℕ) → not (same_id a b) ≡ true → same_id b a ≡ false
other_way a b h = false_from_ne_true _ (λ same. both_ways _ refl (rw (same_id-true b a same, same_id_refl a) at h))

keeps_judged : (d : Intake) → IsTaking d → (s : Slip) → IsTaken d.history d.waiting s → (o : Option Clash) → clash d.history s ≡ o → IsTaking (take_judged d s o)
keeps_judged d t s is None e =
    let p = find_of d.history s.parent_id is.parent in
    let next = admits d.history s p.0 t.history t.agreed (is.has _ t.apart) p.1 (is.has _ t.rises) e in
    let keep = λ (x : Slip). not (same_id x.id s.id) in
    record {
      history = next.history;
      agreed = next.agreed;
      distinct = distinct_filter keep d.waiting t.distinct;
      apart = all_both (λ x. keep x ≡ true) (λ x. has_id d.history x.id ≡ false) (λ x. has_id (s ∷ d.history) x.id ≡ false) (λ x other apart. rw (other_way x.id s.id other, apart) refl) (without s d.waiting) (all_pass keep d.waiting) (all_filter _ keep d.waiting t.apart);
      rises = all_filter _ keep d.waiting t.rises;
    }
keeps_judged d t s is (Some c) e =
    let keep = λ (x : Slip). not (same_id x.id s.id) in
    record {
      history = t.history;
      agreed = t.agreed;
      distinct = distinct_filter keep d.waiting t.distinct;
      apart = all_filter _ keep d.waiting t.apart;
      rises = all_filter _ keep d.waiting t.rises;
    }

pub keeps_one : (d : Intake) → IsTaking d → (o : Option Slip) → next_waiting d.history d.waiting ≡ o → IsTaking (take_one d o)
keeps_one d t None e = t
keeps_one d t (Some s) e = keeps_judged d t s (next_is d.history d.waiting s e) (clash d.history s) refl

pub keeps_taking : (n : ℕ) (d : Intake) → IsTaking d → IsTaking (take_in n d)
keeps_taking zero d t = t
keeps_taking (suc n) d t = keeps_taking n (take_one d (next_waiting d.history d.waiting)) (keeps_one d t (next_waiting d.history d.waiting) refl)

-- where no block is next, nothing more is taken
pub stays : (n : ℕ) (d : Intake) → next_waiting d.history d.waiting ≡ None → take_in n d ≡ d
stays zero d e = refl
stays (suc n) d e = ap (take_in n) (ap (take_one d) e) ∙ stays n d e

shorter_judged : (d : Intake) (s : Slip) (o : Option Clash) → has_id d.waiting s.id ≡ true → length (take_judged d s o).waiting < length d.waiting
shorter_judged d s None h = without_short s d.waiting h
shorter_judged d s (Some c) h = without_short s d.waiting h

-- and after as many steps as blocks wait, none is next
pub all_taken : (n : ℕ) (d : Intake) → length d.waiting ≤ n → next_waiting (take_in n d).history (take_in n d).waiting ≡ None
all_taken zero d short = none d.waiting short
  where
    none : (room : List Slip) → length room ≤ zero → next_waiting d.history room ≡ None
    none [] h = refl
    none (x ∷ xs) h = absurd (omega (arith, h))
all_taken (suc n) d short = go (next_waiting d.history d.waiting) refl (λ d' short'. all_taken n d' short')
  where
    go : (o : Option Slip) → next_waiting d.history d.waiting ≡ o → ((d' : Intake) → length d'.waiting ≤ n → next_waiting (take_in n d').history (take_in n d').waiting ≡ None)
        → next_waiting (take_in n (take_one d o)).history (take_in n (take_one d o)).waiting ≡ None
    go None e ih = subst (λ (x : Intake). next_waiting x.history x.waiting ≡ None) (sym (stays n d e)) e
    go (Some s) e ih =
        let is = next_is d.history d.waiting s e in
        let less = shorter_judged d s (clash d.history s) is.here in
        ih (take_one d (Some s)) (omega (arith, less, short))

-- the history grows
pub grows_one : (d : Intake) (o : Option Slip) → IsSuffix d.history (take_one d o).history
grows_one d None = ([], refl)
grows_one d (Some s) = go (clash d.history s)
  where
    go : (o : Option Clash) → IsSuffix d.history (take_judged d s o).history
    go None = (s ∷ [], refl)
    go (Some c) = ([], refl)

pub taking_grows : (n : ℕ) (d : Intake) → IsSuffix d.history (take_in n d).history
taking_grows zero d = ([], refl)
taking_grows (suc n) d =
    let e = take_one d (next_waiting d.history d.waiting) in
    IsSuffix-trans (grows_one d (next_waiting d.history d.waiting)) (taking_grows n e)
