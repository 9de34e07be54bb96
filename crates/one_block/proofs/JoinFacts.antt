-- The words of a name, appended one after another.
use Rattle.std.proofs.Common.{◌≡◌, ℕ, List, [], ◌∷◌, ◌++◌, ap, ◌∙◌, append_assoc}

pub joined : (num time id parent lib reader : List ℕ)
    → [] ++ num ++ 45 ∷ [] ++ time ++ 45 ∷ id ++ 45 ∷ parent ++ 45 ∷ [] ++ lib ++ 45 ∷ reader
    ≡ num ++ 45 ∷ (time ++ 45 ∷ (id ++ 45 ∷ (parent ++ 45 ∷ (lib ++ 45 ∷ reader))))
joined num time id parent lib reader =
    let one : List ℕ = num ++ 45 ∷ [] in
    let two : List ℕ = one ++ time in
    let three : List ℕ = two ++ 45 ∷ id in
    let four : List ℕ = three ++ 45 ∷ parent in
    let last : List ℕ = 45 ∷ (lib ++ 45 ∷ reader) in
    ap (λ (l : List ℕ). l ++ 45 ∷ reader) (append_assoc four (45 ∷ []) lib)
    ∙ append_assoc four (45 ∷ lib) (45 ∷ reader)
    ∙ append_assoc three (45 ∷ parent) last
    ∙ append_assoc two (45 ∷ id) (45 ∷ (parent ++ last))
    ∙ append_assoc one time (45 ∷ (id ++ 45 ∷ (parent ++ last)))
    ∙ append_assoc num (45 ∷ []) (time ++ 45 ∷ (id ++ 45 ∷ (parent ++ last)))
