-- Lists, filtered.
use Rattle.std.proofs.Common.{◌≡◌, inl, inr, Bool, true, false, cond, ◌&&◌, List, [], ◌∷◌, refl, ap, ◌∙◌}
use Rattle.std.specs.List.{filter}
use Rattle.bundle_model.specs.Members.{Among}

-- two tests that give the same of each element
pub filter_same : {X : Type 0} (p q : X → Bool) (xs : List X) → ((x : X) → Among xs x → p x ≡ q x) → filter p xs ≡ filter q xs
filter_same p q [] same = refl
filter_same {X} p q (x ∷ xs) same =
    ap (λ (b : Bool). cond b (x ∷ filter p xs) (filter p xs)) (same x (inl refl))
    ∙ ap (λ (l : List X). cond (q x) (x ∷ l) l) (filter_same p q xs (λ y h. same y (inr h)))

-- a test that each element passes
pub filter_whole : {X : Type 0} (p : X → Bool) (xs : List X) → ((x : X) → Among xs x → p x ≡ true) → filter p xs ≡ xs
filter_whole p [] all = refl
filter_whole {X} p (x ∷ xs) all =
    ap (λ (b : Bool). cond b (x ∷ filter p xs) (filter p xs)) (all x (inl refl)) ∙ ap (λ (l : List X). x ∷ l) (filter_whole p xs (λ y h. all y (inr h)))

-- one test after another
pub filter_twice : {X : Type 0} (p q : X → Bool) (xs : List X) → filter p (filter q xs) ≡ filter (λ x. q x && p x) xs
filter_twice p q [] = refl
filter_twice {X} p q (x ∷ xs) =
    let rest = filter_twice p q xs in
    let P : Bool → Type 0 = λ b. filter p (cond b (x ∷ filter q xs) (filter q xs)) ≡ cond (b && p x) (x ∷ filter (λ y. q y && p y) xs) (filter (λ y. q y && p y) xs) in
    elim (q x) as P [
      | true ↦ ap (λ (l : List X). cond (p x) (x ∷ l) l) rest
      | false ↦ rest
    ]
