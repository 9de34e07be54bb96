-- A text in which nothing has an escape stands as it is.
use Rattle.std.proofs.Common.{◌≡◌, ℕ, false, Bool, ◌||◌, ◌==◌, nat_lt, List, [], ◌∷◌, ◌++◌, refl, ap, ◌∙◌}
use Rattle.std.specs.List.{list_any}
use Rattle.std.proofs.lemmas.Bool.{or_parts}
use Rattle.text_parts.specs.Parts.{escaped, escaped_byte, is_apart}

byte_plain : (b : ℕ) → is_apart b ≡ false → escaped_byte b ≡ b ∷ []
byte_plain b e = let both = or_parts (b == 34 || b == 92) (nat_lt b 32) e in rw both.0 (rw both.1 refl)

pub plain : (bytes : List ℕ) → list_any is_apart bytes ≡ false → escaped bytes ≡ bytes
plain [] e = refl
plain (b ∷ bytes) e =
    let both = or_parts (is_apart b) (list_any is_apart bytes) e in
    ap (λ (l : List ℕ). l ++ escaped bytes) (byte_plain b both.0) ∙ ap (λ (l : List ℕ). b ∷ l) (plain bytes both.1)
