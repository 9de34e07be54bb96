-- A text cut after its first line.
use Rattle.std.proofs.Common.{◌≡◌, ◌+◌, ◌-◌, ◌<◌, ◌≤◌, ℕ, zero, suc, Bool, true, false, eqb, List, [], ◌∷◌, ◌++◌, None, Some, length, take, drop, get_or, refl, sym, ◌∙◌, ap, arith, add-one, take_all, length-drop}
use Rattle.std.proofs.lemmas.List.{append-nil}
use Rattle.memchr.specs.Find.{IsFirstByte, is_byte}
use Rattle.replay_text.specs.Replies.{lines_after, BeginsWithLine}

not_true-false : (t : Bool) → (t ≡ true → ⊥) → t ≡ false
not_true-false true h = absurd (h refl)
not_true-false false h = refl

-- a line that goes on and never ends
lines-lacking : (front text : List ℕ) → ((k : ℕ) → k < length text → eqb (get_or text k 0) 10 ≡ true → ⊥) → lines_after front false text ≡ text
lines-lacking front [] none = refl
lines-lacking front (b ∷ text) none =
    let first : eqb b 10 ≡ false = not_true-false _ (none 0 (omega arith)) in
    rw first (ap (λ l. b ∷ l) (lines-lacking front text (λ k lt is. none (suc k) (omega arith) is)))

-- a line that goes on and ends at its first LF
lines-cut : (front : List ℕ) (k : ℕ) (text : List ℕ) → k < length text → ((j : ℕ) → j < k → eqb (get_or text j 0) 10 ≡ true → ⊥) → eqb (get_or text k 0) 10 ≡ true
    → lines_after front false text ≡ take (suc k) text ++ lines_after front true (drop (suc k) text)
lines-cut front k [] lt before is = absurd (omega arith)
lines-cut front zero (b ∷ text) lt before is = rw is refl
lines-cut front (suc k) (b ∷ text) lt before is =
    let first : eqb b 10 ≡ false = not_true-false _ (before 0 (omega arith)) in
    rw first (ap (λ l. b ∷ l) (lines-cut front k text (omega arith) (λ j l e. before (suc j) (omega arith) e) is))

-- at the front of a line its bytes come first
begins : (front text : List ℕ) → 0 < length text → lines_after front true text ≡ front ++ lines_after front false text
begins front [] some = absurd (omega arith)
begins front (b ∷ text) some = refl

-- what a search for an LF finds is where the first line ends
pub cut_at : (text : List ℕ) (at : ℕ) → IsFirstByte (is_byte 10) text (Some at) → BeginsWithLine text (take (at + 1) text) (take (length text - (at + 1)) (drop (at + 1) text))
cut_at text at found front =
    rw (add-one at) (let short : length (drop (suc at) text) ≤ length text - suc at = omega (arith, length-drop (suc at) text) in
    rw (take_all (length text - suc at) (drop (suc at) text) short)
    (begins front text (omega (arith, found.0.high)) ∙ ap (λ l. front ++ l) (lines-cut front at text found.0.high (λ j lt. found.0.before j (omega arith) lt) found.1)))

-- a text without an LF is one line
pub uncut : (text : List ℕ) → 0 < length text → IsFirstByte (is_byte 10) text None → BeginsWithLine text text []
uncut text some none front = begins front text some ∙ ap (λ l. front ++ l) (lines-lacking front text (λ k lt. none k (omega arith) lt) ∙ sym (append-nil text))
