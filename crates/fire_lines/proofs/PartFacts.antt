-- The parts of a text by its first separator.
use Rattle.std.proofs.Common.{◌≡◌, ◌+◌, ◌-◌, ◌<◌, ◌≤◌, ℕ, zero, suc, Bool, true, false, eqb, cond, List, [], ◌∷◌, None, Some, length, take, drop, get_or, refl, ap, arith, add-one, take_all, length-drop}
use Rattle.memchr.specs.Find.{IsFirstByte, is_byte}
use Rattle.fire_lines.specs.Parts.{parts, onto_first}

-- no byte of the text is the separator
abbrev pub Lacks : ℕ → List ℕ → Type 0
Lacks separator text = (k : ℕ) → k < length text → eqb (get_or text k 0) separator ≡ true → ⊥

not_true-false : (t : Bool) → (t ≡ true → ⊥) → t ≡ false
not_true-false true h = absurd (h refl)
not_true-false false h = refl

pub parts-lacking : (separator : ℕ) (text : List ℕ) → Lacks separator text → parts separator text ≡ text ∷ []
parts-lacking separator [] none = refl
parts-lacking separator (b ∷ text) none =
    let later = parts-lacking separator text (λ k lt is. none (suc k) (omega arith) is) in
    let P : Bool → Type 0 = λ t. eqb b separator ≡ t → cond t ([] ∷ parts separator text) (onto_first b (parts separator text)) ≡ (b ∷ text) ∷ [] in
    let both : (t : Bool) → P t = λ t. elim t as P [ true ↦ λ is. absurd (none 0 (omega arith) is) | false ↦ λ is. ap (onto_first b) later ] in
    both (eqb b separator) refl

pub parts-cut : (separator k : ℕ) (text : List ℕ) → k < length text → ((j : ℕ) → j < k → eqb (get_or text j 0) separator ≡ true → ⊥) → eqb (get_or text k 0) separator ≡ true
    → parts separator text ≡ take k text ∷ parts separator (drop (suc k) text)
parts-cut separator k [] lt before is = absurd (omega arith)
parts-cut separator zero (b ∷ text) lt before is = rw is refl
parts-cut separator (suc k) (b ∷ text) lt before is =
    let later = parts-cut separator k text (omega arith) (λ j l e. before (suc j) (omega arith) e) is in
    let first : eqb b separator ≡ false = not_true-false _ (before 0 (omega arith)) in
    rw (first, later) refl

-- what a search for the separator finds is where the text is cut
pub cut_at : (separator : ℕ) (text : List ℕ) (at : ℕ) → IsFirstByte (is_byte separator) text (Some at)
    → parts separator text ≡ take at text ∷ parts separator (take (length text - (at + 1)) (drop (at + 1) text))
cut_at separator text at found =
    rw (add-one at) (let short : length (drop (suc at) text) ≤ length text - suc at = omega (arith, length-drop (suc at) text) in
    rw (take_all (length text - suc at) (drop (suc at) text) short) (parts-cut separator at text found.0.high (λ j lt. found.0.before j (omega arith) lt) found.1))

pub uncut : (separator : ℕ) (text : List ℕ) → IsFirstByte (is_byte separator) text None → parts separator text ≡ text ∷ []
uncut separator text none = parts-lacking separator text (λ k lt. none k (omega arith) lt)
