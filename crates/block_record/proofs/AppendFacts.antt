-- A text that grows at its end.
use Rattle.std.proofs.Common.{◌≡◌, ℕ, List, ◌++◌, refl, ap, ◌∙◌, append_assoc}

-- what is appended to a text that began with another is appended to what followed that one
pub more : (old text rest piece new : List ℕ) → text ≡ old ++ rest → new ≡ text ++ piece → new ≡ old ++ (rest ++ piece)
more old text rest piece new before is = is ∙ ap (λ (l : List ℕ). l ++ piece) before ∙ append_assoc old rest piece

-- so does what is appended in four pieces
pub four_more : (old text rest a b c d new : List ℕ) → text ≡ old ++ rest → new ≡ text ++ a ++ b ++ c ++ d → new ≡ old ++ (rest ++ a ++ b ++ c ++ d)
four_more old text rest a b c d new before is =
    more old (text ++ a ++ b ++ c) (rest ++ a ++ b ++ c) d new
    (more old (text ++ a ++ b) (rest ++ a ++ b) c (text ++ a ++ b ++ c) (more old (text ++ a) (rest ++ a) b (text ++ a ++ b) (more old text rest a (text ++ a) before refl) refl) refl)
    is
