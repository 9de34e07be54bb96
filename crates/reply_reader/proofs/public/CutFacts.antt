-- Where a text is cut at the first byte of a kind.
use Rattle.std.proofs.Common.{◌≡◌, ◌+◌, ◌-◌, ◌<◌, ◌≤◌, ℕ, zero, suc, Bool, true, false, eqb, List, [], ◌∷◌, Option, None, Some, length, take, drop, get_or, refl, ap, arith, add-one, take_all, length-drop}
use Rattle.std.specs.Option.{option_map}
use Rattle.memchr.specs.Find.{IsFirstByte, is_byte}
use Rattle.reply_reader.specs.Parts.{until}

not_true-false : (t : Bool) → (t ≡ true → ⊥) → t ≡ false
not_true-false true h = absurd (h refl)
not_true-false false h = refl

abbrev grown : ℕ → Option (List ℕ × List ℕ) → Option (List ℕ × List ℕ)
grown b o = option_map (λ p. (b ∷ p.0, p.1)) o

until-lacking : (s : ℕ) (text : List ℕ) → ((k : ℕ) → k < length text → eqb (get_or text k 0) s ≡ true → ⊥) → None ≡ until s text
until-lacking s [] none = refl
until-lacking s (b ∷ text) none =
    let later = until-lacking s text (λ k lt is. none (suc k) (omega arith) is) in
    let first : eqb b s ≡ false = not_true-false _ (none 0 (omega arith)) in
    rw first (ap (grown b) later)

until-cut : (s k : ℕ) (text : List ℕ) → k < length text → ((j : ℕ) → j < k → eqb (get_or text j 0) s ≡ true → ⊥) → eqb (get_or text k 0) s ≡ true
    → Some (take k text, drop (suc k) text) ≡ until s text
until-cut s k [] lt before is = absurd (omega arith)
until-cut s zero (b ∷ text) lt before is = rw is refl
until-cut s (suc k) (b ∷ text) lt before is =
    let later = until-cut s k text (omega arith) (λ j l e. before (suc j) (omega arith) e) is in
    let first : eqb b s ≡ false = not_true-false _ (before 0 (omega arith)) in
    rw first (ap (grown b) later)

-- what a search for the byte finds is where the text is cut
pub cut_at : (s : ℕ) (text : List ℕ) (at : ℕ) → IsFirstByte (is_byte s) text (Some at)
    → Some (take at text, take (length text - (at + 1)) (drop (at + 1) text)) ≡ until s text
cut_at s text at found =
    rw (add-one at) (let short : length (drop (suc at) text) ≤ length text - suc at = omega (arith, length-drop (suc at) text) in
    rw (take_all (length text - suc at) (drop (suc at) text) short) (until-cut s at text found.0.high (λ j lt. found.0.before j (omega arith) lt) found.1))

pub uncut : (s : ℕ) (text : List ℕ) → IsFirstByte (is_byte s) text None → None ≡ until s text
uncut s text none = until-lacking s text (λ k lt. none k (omega arith) lt)
