-- Texts between quotes: how they are read byte by byte.
use Rattle.std.proofs.Common.{◌≡◌, ℕ, suc, List, [], ◌∷◌, ◌++◌, length, Option, Some, None, refl, sym, ap, ◌∙◌, append_assoc}
use Rattle.std.specs.Prelude.{codes}
use Rattle.std.specs.Option.{option_map}
use Rattle.reply_reader.specs.Parts.{after_front, byte_at, quoted_in, quoted}

-- bytes before those that are read
abbrev pub prepended : List ℕ → Option (List ℕ × List ℕ) → Option (List ℕ × List ℕ)
prepended front o = option_map (λ p. (front ++ p.0, p.1)) o

prepended-nil : (o : Option (List ℕ × List ℕ)) → o ≡ prepended [] o
prepended-nil None = refl
prepended-nil (Some p) = refl

-- before the first byte
pub starts : (text : List ℕ) (m : ℕ) → m ≡ length text → quoted text ≡ prepended [] (quoted_in m text)
unfolding quoted
starts text m e = prepended-nil (quoted_in (length text) text) ∙ ap (λ (k : ℕ). prepended [] (quoted_in k text)) (sym e)

append-nil : (l : List ℕ) → l ++ [] ≡ l
append-nil [] = refl
append-nil (x ∷ l) = ap (λ t. x ∷ t) (append-nil l)

-- at the quote
pub at_quote : (front left rest : List ℕ) (m n : ℕ) → m ≡ suc n → after_front (codes "\"") left ≡ Some rest → prepended front (quoted_in m left) ≡ Some (front, rest)
at_quote front left rest m n e is = rw (e, is) (ap (λ (l : List ℕ). Some (l, rest)) (append-nil front))

grown : (front : List ℕ) (b : ℕ) (o : Option (List ℕ × List ℕ)) → prepended front (option_map (λ p. (b ∷ p.0, p.1)) o) ≡ prepended (front ++ b ∷ []) o
grown front b None = refl
grown front b (Some p) = ap (λ (l : List ℕ). Some (l, p.1)) (sym (append_assoc front (b ∷ []) p.0))

-- at a byte
pub at_byte : (front left next : List ℕ) (x : ℕ × List ℕ) (m n : ℕ) → m ≡ suc n → after_front (codes "\"") left ≡ None → byte_at left ≡ Some x → next ≡ front ++ x.0 ∷ []
    → prepended front (quoted_in m left) ≡ prepended next (quoted_in n x.1)
at_byte front left next x m n e isnt is grows = rw (e, isnt, is) (grown front x.0 (quoted_in n x.1) ∙ ap (λ l. prepended l (quoted_in n x.1)) (sym grows))

-- at a byte that is none
pub at_bad : (front left : List ℕ) (m n : ℕ) → m ≡ suc n → after_front (codes "\"") left ≡ None → byte_at left ≡ None → prepended front (quoted_in m left) ≡ None
at_bad front left m n e isnt is = rw (e, isnt, is) refl

pub at_end : (front left : List ℕ) (m : ℕ) → m ≡ 0 → prepended front (quoted_in m left) ≡ None
at_end front left m e = rw e refl
