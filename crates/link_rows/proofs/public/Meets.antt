-- Where two paths come together.
use Rattle.std.proofs.Common.{arith, Option, Some, ◌≡◌, ◌<◌, ◌≤◌, ◌+◌, ◌-◌, ◌*◌, ◌^◌, ℕ, get_or, List, reverse, sym, ◌∙◌, ap, length, subst, nat_eq, ◌⊎◌, inl, inr}
use Rattle.std.proofs.lemmas.Option.{same_Some, slice_get_within, slice_get-get_or, slice_get_past}
use Rattle.std.proofs.lemmas.List.{length-reverse}
use Rattle.std.proofs.lemmas.Grind.{pow_more}
use Rattle.std.proofs.Math.Pow.{pow_mono}
use Rattle.std.specs.List.{slice_get, list_any}
use Rattle.link_rows.specs.Tree.{ancestors, IsTree, IsFork, IsApart, meeting}
use Rattle.link_rows.proofs.public.TreeFacts.{ancestors_first, ancestors_some, ancestors_single, ancestors_length}
use Rattle.link_rows.proofs.public.ListFacts.{find_first, any_at, any_none}
use Rattle.link_rows.proofs.public.Walks.{above, length_above}

-- two lists of one length that come together at an index stay together
pub together : (tree : List (Option ℕ)) (a b j m q : ℕ) → slice_get (ancestors tree a) j ≡ Some q → slice_get (ancestors tree b) j ≡ Some q → j ≤ m
    → slice_get (ancestors tree a) m ≡ slice_get (ancestors tree b) m
together tree a b j m q ea eb le =
    let i : j + (m - j) ≡ m = omega arith in
    let fa : slice_get (ancestors tree q) (m - j) ≡ slice_get (ancestors tree a) m = above tree a j q (m - j) ea ∙ ap (slice_get (ancestors tree a)) i in
    let fb : slice_get (ancestors tree q) (m - j) ≡ slice_get (ancestors tree b) m = above tree b j q (m - j) eb ∙ ap (slice_get (ancestors tree b)) i in
    sym fa ∙ fb

-- the walk stands at a and b, two places of one distance, and the places 2^j further are one, or none
pub record IsParted (as_ bs : List ℕ) (j a b : ℕ) : Type 0 where
  pub index : ℕ
  pub on_a : slice_get as_ index ≡ Some a
  pub on_b : slice_get bs index ≡ Some b
  pub apart : a ≡ b → ⊥
  pub joined : slice_get as_ (index + 2 ^ j) ≡ slice_get bs (index + 2 ^ j)

pub part_start : (tree : List (Option ℕ)) (a b j n : ℕ) → a < length tree → b < length tree → length (ancestors tree a) ≡ length (ancestors tree b)
    → n + 1 ≡ length (ancestors tree a) → n < 2 ^ j → (a ≡ b → ⊥) → IsParted (ancestors tree a) (ancestors tree b) j a b
part_start tree a b j n la lb same len lt ne =
    let p : length (ancestors tree a) ≤ 0 + 2 ^ j = omega arith in
    let q : length (ancestors tree b) ≤ 0 + 2 ^ j = omega arith in
    record {
      index = 0;
      on_a = ancestors_first tree a la;
      on_b = ancestors_first tree b lb;
      apart = ne;
      joined = slice_get_past (ancestors tree a) (0 + 2 ^ j) p ∙ sym (slice_get_past (ancestors tree b) (0 + 2 ^ j) q);
    }

pub part_level : (tree : List (Option ℕ)) (a0 b0 j a b : ℕ) → length (ancestors tree a0) ≡ length (ancestors tree b0) → IsParted (ancestors tree a0) (ancestors tree b0) j a b
    → length (ancestors tree a) ≡ length (ancestors tree b)
part_level tree a0 b0 j a b same h =
    length_above tree a0 h.index a h.on_a ∙ ap (λ n. n - h.index) same ∙ sym (length_above tree b0 h.index b h.on_b)

double_of : (i p p2 : ℕ) → p2 ≡ p * 2 → i + p2 ≡ (i + p) + p
double_of i p p2 e = omega arith

pub part_step : (tree : List (Option ℕ)) (a0 b0 j k k2 a b x y : ℕ) → IsParted (ancestors tree a0) (ancestors tree b0) j a b → j ≡ k + 1 → k2 ≡ k
    → IsApart (ancestors tree a) (ancestors tree b) (2 ^ k2) a b x y → IsParted (ancestors tree a0) (ancestors tree b0) k x y
part_step tree a0 b0 j k k2 a b x y h e e2 (inl s) =
    let g : slice_get (ancestors tree a0) (h.index + 2 ^ k2) ≡ slice_get (ancestors tree b0) (h.index + 2 ^ k2) =
    sym (above tree a0 h.index a (2 ^ k2) h.on_a) ∙ s.0 ∙ above tree b0 h.index b (2 ^ k2) h.on_b in
    let f : slice_get (ancestors tree a0) (h.index + 2 ^ k) ≡ slice_get (ancestors tree b0) (h.index + 2 ^ k) = subst (λ n. slice_get (ancestors tree a0) (h.index + 2 ^ n) ≡ slice_get (ancestors tree b0) (h.index + 2 ^ n)) e2 g in
    record {
      index = h.index;
      on_a = h.on_a ∙ ap Some (sym s.1);
      on_b = h.on_b ∙ ap Some (sym s.2);
      apart = λ same. h.apart (sym s.1 ∙ same ∙ s.2);
      joined = f;
    }
part_step tree a0 b0 j k k2 a b x y h e e2 (inr s) =
    let sa : slice_get (ancestors tree a) (2 ^ k) ≡ Some x = ap (λ n. slice_get (ancestors tree a) (2 ^ n)) (sym e2) ∙ s.0 in
    let sb : slice_get (ancestors tree b) (2 ^ k) ≡ Some y = ap (λ n. slice_get (ancestors tree b) (2 ^ n)) (sym e2) ∙ s.1 in
    let d : h.index + 2 ^ j ≡ (h.index + 2 ^ k) + 2 ^ k = ap (λ n. h.index + 2 ^ n) e ∙ double_of h.index (2 ^ k) (2 ^ (k + 1)) (pow_more 2 k) in
    record {
      index = h.index + 2 ^ k;
      on_a = sym (above tree a0 h.index a (2 ^ k) h.on_a) ∙ sa;
      on_b = sym (above tree b0 h.index b (2 ^ k) h.on_b) ∙ sb;
      apart = s.2;
      joined = ap (slice_get (ancestors tree a0)) (sym d) ∙ h.joined ∙ ap (slice_get (ancestors tree b0)) d;
    }

-- a place meets itself
pub same_fork : (tree : List (Option ℕ)) (a b : ℕ) → a < length tree → a ≡ b → IsFork (ancestors tree a) (ancestors tree b) a
same_fork tree a b la e =
    let here : slice_get (ancestors tree a) 0 ≡ Some a = ancestors_first tree a la in
    record {
      index = 0;
      on_a = here;
      on_b = subst (λ x. slice_get (ancestors tree x) 0 ≡ Some a) e here;
      before = λ k lt _. let f : ⊥ = omega arith in f;
    }

some_or : (xs : List ℕ) (j : ℕ) → j < length xs → slice_get xs j ≡ Some (get_or xs j 0)
some_or xs j lt = slice_get-get_or xs j 0 lt

pub part_end : (tree : List (Option ℕ)) (a0 b0 a b r : ℕ) → IsParted (ancestors tree a0) (ancestors tree b0) 0 a b
    → slice_get (ancestors tree a) (2 ^ 0) ≡ Some r → IsFork (ancestors tree a0) (ancestors tree b0) r
part_end tree a0 b0 a b r h e =
    let on_a : slice_get (ancestors tree a0) (h.index + 2 ^ 0) ≡ Some r = sym (above tree a0 h.index a (2 ^ 0) h.on_a) ∙ e in
    record {
      index = h.index + 2 ^ 0;
      on_a = on_a;
      on_b = sym h.joined ∙ on_a;
      before = λ j lt same.
          let low : j < length (ancestors tree a0) = let f : h.index + 2 ^ 0 < length (ancestors tree a0) = slice_get_within (ancestors tree a0) (h.index + 2 ^ 0) r on_a in omega arith in
          let ea : slice_get (ancestors tree a0) j ≡ Some (get_or (ancestors tree a0) j 0) = some_or (ancestors tree a0) j low in
          let le : j ≤ h.index = omega arith in
          let both : slice_get (ancestors tree a0) h.index ≡ slice_get (ancestors tree b0) h.index = together tree a0 b0 j h.index (get_or (ancestors tree a0) j 0) ea (sym same ∙ ea) le in
          h.apart (same_Some a b (sym h.on_a ∙ both ∙ h.on_b));
    }

there : (n m a b : ℕ) → 0 < n → n ≡ m → (n ≡ 1 → a ≡ 0) → (m ≡ 1 → b ≡ 0) → (a ≡ b → ⊥) → 2 ^ 0 < n
there n m a b pos same za zb ne = grind arith

-- two places of one depth that are not one have a parent
pub parent_there : (tree : List (Option ℕ)) (a b : ℕ) → IsTree tree → a < length tree → b < length tree → length (ancestors tree a) ≡ length (ancestors tree b) → (a ≡ b → ⊥)
    → 2 ^ 0 < length (ancestors tree a)
parent_there tree a b t la lb same ne =
    there (length (ancestors tree a)) (length (ancestors tree b)) a b (ancestors_some tree a la) same (ancestors_single tree a t la) (ancestors_single tree b t lb) ne

aligned_a : (n m da db j j2 : ℕ) → n - da ≡ m - db → da < n → db < m → n - j ≡ m - j2 → j < n → j2 < m → (da ≡ 0) ⊎ (db ≡ 0) → da + (j - da) ≡ j
aligned_a n m da db j j2 level wa wb len wj wj2 (inl z) = omega arith
aligned_a n m da db j j2 level wa wb len wj wj2 (inr z) = omega arith

aligned_b : (n m da db j j2 : ℕ) → n - da ≡ m - db → da < n → db < m → n - j ≡ m - j2 → j < n → j2 < m → da + (j - da) ≡ j → db + (j - da) ≡ j2
aligned_b n m da db j j2 level wa wb len wj wj2 e = omega arith

-- the last place that is on both paths
pub meeting_fork : (tree : List (Option ℕ)) (a b da db a1 b1 r : ℕ) → slice_get (ancestors tree a) da ≡ Some a1 → slice_get (ancestors tree b) db ≡ Some b1
    → length (ancestors tree a1) ≡ length (ancestors tree b1) → (da ≡ 0) ⊎ (db ≡ 0) → IsFork (ancestors tree a1) (ancestors tree b1) r → meeting tree a b ≡ Some r
meeting_fork tree a b da db a1 b1 r ea eb same zero_one h =
    let A = ancestors tree a in
    let B = ancestors tree b in
    let on_a : slice_get A (da + h.index) ≡ Some r = sym (above tree a da a1 h.index ea) ∙ h.on_a in
    let on_b : slice_get B (db + h.index) ≡ Some r = sym (above tree b db b1 h.index eb) ∙ h.on_b in
    let level : length A - da ≡ length B - db = sym (length_above tree a da a1 ea) ∙ same ∙ length_above tree b db b1 eb in
    let wa : da < length A = slice_get_within A da a1 ea in
    let wb : db < length B = slice_get_within B db b1 eb in
    find_first (λ x. list_any (nat_eq x) B) A (da + h.index) r on_a (any_at B (db + h.index) r on_b)
    (λ j x lt fa. any_none B x (λ j2 fb.
    let len : length A - j ≡ length B - j2 = sym (length_above tree a j x fa) ∙ length_above tree b j2 x fb in
    let wj : j < length A = slice_get_within A j x fa in
    let wj2 : j2 < length B = slice_get_within B j2 x fb in
    let at_a : da + (j - da) ≡ j = aligned_a (length A) (length B) da db j j2 level wa wb len wj wj2 zero_one in
    let at_b : db + (j - da) ≡ j2 = aligned_b (length A) (length B) da db j j2 level wa wb len wj wj2 at_a in
    let low : j - da < h.index = omega (arith, lt, at_a) in
    let f1 : slice_get (ancestors tree a1) (j - da) ≡ Some x = above tree a da a1 (j - da) ea ∙ ap (slice_get A) at_a ∙ fa in
    let f2 : slice_get (ancestors tree b1) (j - da) ≡ Some x = above tree b db b1 (j - da) eb ∙ ap (slice_get B) at_b ∙ fb in
    h.before (j - da) low (f1 ∙ sym f2)))

digits_of : (count d n : ℕ) → 2 ^ (d + 1) ≡ 2 ^ d * 2 → (d + 1 ≤ count → 2 ^ (d + 1) ≤ 2 ^ count) → (0 < count → 2 ^ count ≤ 2 * n) → n < 2 ^ d → count ≤ d
digits_of count d n e mono least lt = grind arith

-- how many digits a depth has
pub digits_cost : (count n t d : ℕ) → (0 < count → 2 ^ count ≤ 2 * n) → n + 1 ≤ t → t < 2 ^ d → count ≤ d
digits_cost count n t d least le lt = digits_of count d n (pow_more 2 d) (λ h. pow_mono h) least (omega arith)

pub path_length : (n : ℕ) (line : List ℕ) → n + 1 ≡ length (reverse line) → n + 1 ≡ length line
path_length n line e = e ∙ length-reverse line

pub start_at : (n count : ℕ) → n < 2 ^ count → n < 2 ^ (count - 0)
start_at n count lt = subst (λ k. n < 2 ^ k) (let f : count ≡ count - 0 = omega arith in f) lt

-- the deeper place is brought to the depth of the other
level_of : (da db n m k : ℕ) → da + 1 ≡ n → db + 1 ≡ m → db ≤ da → k ≡ n - (da - db) → k ≡ m
level_of da db n m k ea eb le e = omega arith

pub level : (tree : List (Option ℕ)) (a b da db at : ℕ) → da + 1 ≡ length (reverse (ancestors tree a)) → db + 1 ≡ length (reverse (ancestors tree b)) → db ≤ da
    → slice_get (ancestors tree a) (da - db) ≡ Some at → length (ancestors tree at) ≡ length (ancestors tree b)
level tree a b da db at ea eb le e =
    level_of da db (length (ancestors tree a)) (length (ancestors tree b)) (length (ancestors tree at)) (path_length da (ancestors tree a) ea) (path_length db (ancestors tree b) eb) le (length_above tree a (da - db) at e)

by_of : (da by n t p : ℕ) → da + 1 ≡ n → by ≤ da → n ≤ t → t < p → by < p
by_of da by n t p e le len lt = omega arith

pub by_cost : (tree : List (Option ℕ)) (a da by d : ℕ) → da + 1 ≡ length (reverse (ancestors tree a)) → by ≤ da → length tree < 2 ^ d → by < 2 ^ d
by_cost tree a da by d e le lt = by_of da by (length (ancestors tree a)) (length tree) (2 ^ d) (path_length da (ancestors tree a) e) le (ancestors_length tree a) lt

pub part_zero : (as_ bs : List ℕ) (j k a b : ℕ) → j ≡ k → IsParted as_ bs j a b → IsParted as_ bs k a b
part_zero as_ bs j k a b e h = subst (λ n. IsParted as_ bs n a b) e h
