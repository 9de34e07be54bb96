-- Walks by far links.
use Rattle.std.proofs.Common.{arith, Option, Some, ◌≡◌, ◌≢◌, ◌<◌, ◌≤◌, ◌+◌, ◌-◌, ◌*◌, ◌/◌, ◌%◌, ◌^◌, ℕ, List, refl, sym, ◌∙◌, ap, length, subst, length-drop}
use Rattle.std.proofs.lemmas.Grind.{pow_more}
use Rattle.std.proofs.Math.Pow.{pow_mono}
use Rattle.std.proofs.Math.Nat.{mul-le-mul_right}
use Rattle.std.specs.List.{slice_get}
use Rattle.link_rows.specs.Tree.{ancestors}
use Rattle.link_rows.proofs.public.TreeFacts.{ancestors_drop, ancestors_first}
use Rattle.link_rows.proofs.public.ListFacts.{slice_get_drop}

-- the walk stands at `from`, and `left` times 2^k places are still to be climbed
pub record IsClimbed (line : List ℕ) (by from left k : ℕ) : Type 0 where
  pub index : ℕ
  pub rest : index + left * 2 ^ k ≡ by
  pub place : slice_get line index ≡ Some from
  pub digits : 0 < k → 2 ^ k ≤ 2 * by

pub climb_start : (tree : List (Option ℕ)) (at by : ℕ) → at < length tree → IsClimbed (ancestors tree at) by at by 0
climb_start tree at by lt = record { index = 0; rest = omega arith; place = ancestors_first tree at lt; digits = λ h. omega arith }

room_of : (p i left by n m : ℕ) → i + left * p ≡ by → 0 < left → by < n → m ≡ n - i → p ≤ left * p → p < m
room_of p i left by n m e pos lt h le = omega arith

one_of : (p left : ℕ) → 0 < left → p ≤ left * p
one_of p left pos = grind (arith, mul-le-mul_right p pos)

-- a place that far above a place of the walk
pub above : (tree : List (Option ℕ)) (a i q n : ℕ) → slice_get (ancestors tree a) i ≡ Some q → slice_get (ancestors tree q) n ≡ slice_get (ancestors tree a) (i + n)
above tree a i q n e = ap (λ l. slice_get l n) (ancestors_drop tree a i q e) ∙ slice_get_drop i (ancestors tree a) n (i + n) refl

pub length_above : (tree : List (Option ℕ)) (a i q : ℕ) → slice_get (ancestors tree a) i ≡ Some q → length (ancestors tree q) ≡ length (ancestors tree a) - i
length_above tree a i q e = ap length (ancestors_drop tree a i q e) ∙ length-drop i (ancestors tree a)

pub climb_room : (tree : List (Option ℕ)) (at by from left k : ℕ) → IsClimbed (ancestors tree at) by from left k → 0 < left → by < length (ancestors tree at)
    → 2 ^ k < length (ancestors tree from)
climb_room tree at by from left k h pos lt =
    room_of (2 ^ k) h.index left by (length (ancestors tree at)) (length (ancestors tree from)) h.rest pos lt (length_above tree at h.index from h.place) (one_of (2 ^ k) left pos)

more_of : (p p2 i left by : ℕ) → i + left * p ≡ by → p ≤ left * p → p2 ≡ p * 2 → p2 ≤ 2 * by
more_of p p2 i left by e le e2 = omega arith

odd_of : (p p2 i left half by : ℕ) → i + left * p ≡ by → left ≡ 2 * half + 1 → p2 ≡ p * 2 → (i + p) + half * p2 ≡ by
odd_of p p2 i left half by e f e2 = rw (e2, ← e, f) (omega arith)

even_of : (p p2 i left half by : ℕ) → i + left * p ≡ by → left ≡ 2 * half → p2 ≡ p * 2 → i + half * p2 ≡ by
even_of p p2 i left half by e f e2 = rw (e2, ← e, f) (omega arith)

pub climb_odd : (tree : List (Option ℕ)) (at by from left k next : ℕ) → IsClimbed (ancestors tree at) by from left k → 0 < left → left % 2 ≡ 1
    → slice_get (ancestors tree from) (2 ^ k) ≡ Some next → IsClimbed (ancestors tree at) by next (left / 2) (k + 1)
climb_odd tree at by from left k next h pos odd read = record {
  index = h.index + 2 ^ k;
  rest = odd_of (2 ^ k) (2 ^ (k + 1)) h.index left (left / 2) by h.rest (omega arith) (pow_more 2 k);
  place = sym (above tree at h.index from (2 ^ k) h.place) ∙ read;
  digits = λ _. more_of (2 ^ k) (2 ^ (k + 1)) h.index left by h.rest (one_of (2 ^ k) left pos) (pow_more 2 k);
}

pub climb_even : (tree : List (Option ℕ)) (at by from left k : ℕ) → IsClimbed (ancestors tree at) by from left k → 0 < left → left % 2 ≢ 1
    → IsClimbed (ancestors tree at) by from (left / 2) (k + 1)
climb_even tree at by from left k h pos even = record {
  index = h.index;
  rest = even_of (2 ^ k) (2 ^ (k + 1)) h.index left (left / 2) by h.rest (omega arith) (pow_more 2 k);
  place = h.place;
  digits = λ _. more_of (2 ^ k) (2 ^ (k + 1)) h.index left by h.rest (one_of (2 ^ k) left pos) (pow_more 2 k);
}

ended : (p i left by : ℕ) → i + left * p ≡ by → left ≡ 0 → i ≡ by
ended p i left by e z = let f : i + 0 * p ≡ by = subst (λ n. i + n * p ≡ by) z e in omega arith

pub climb_end : (line : List ℕ) (by from left k : ℕ) → IsClimbed line by from left k → left ≡ 0 → slice_get line by ≡ Some from
climb_end line by from left k h e =
    let same : h.index ≡ by = ended (2 ^ k) h.index left by h.rest e in
    ap (slice_get line) (sym same) ∙ h.place

cost_of : (k d by : ℕ) → 2 ^ (d + 1) ≡ 2 ^ d * 2 → by < 2 ^ d → (0 < k → 2 ^ k ≤ 2 * by) → (d + 1 ≤ k → 2 ^ (d + 1) ≤ 2 ^ k) → k ≤ d
cost_of k d by e lt small mono = grind arith

pub climb_cost : (line : List ℕ) (by from left k d : ℕ) → IsClimbed line by from left k → by < 2 ^ d → k ≤ d
climb_cost line by from left k d h lt = cost_of k d by (pow_more 2 d) lt h.digits (λ le. pow_mono le)
