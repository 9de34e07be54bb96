-- Lists turned over, filters of a map, and what is taken out of a list.
use Rattle.std.proofs.Common.{◌≡◌, ◌<◌, ◌+◌, ℕ, Bool, true, false, cond, List, [], ◌∷◌, ◌++◌, map, reverse, length, take, get_or, refl, sym, ◌∙◌, ap}
use Rattle.std.specs.List.{AllByRecursion, filter}
use Rattle.std.proofs.lemmas.List.{append-nil, map-append, reverse-append, take_more}
use Rattle.std.proofs.lemmas.List.Elements.{filter-append}

pub turned_push : {X : Type 0} (xs : List X) (x : X) → reverse (xs ++ x ∷ []) ≡ x ∷ reverse xs
turned_push xs x = reverse-append xs (x ∷ [])

pub turned_cons : {X : Type 0} (x : X) (xs : List X) → reverse (x ∷ xs) ≡ reverse xs ++ x ∷ []
turned_cons x xs = reverse-append (x ∷ []) xs

-- one more element from the front is the newest so far
pub turned_more : {X Y : Type 0} (f : X → Y) (xs : List X) (i : ℕ) (x : X) → i < length xs → x ≡ get_or xs i x → reverse (map f (take (i + 1) xs)) ≡ f x ∷ reverse (map f (take i xs))
turned_more f xs i x lt e =
    ap (λ l. reverse (map f l)) (take_more xs i x lt) ∙ ap reverse (map-append f (take i xs) (get_or xs i x ∷ []))
    ∙ turned_push (map f (take i xs)) (f (get_or xs i x)) ∙ ap (λ y. f y ∷ reverse (map f (take i xs))) (sym e)

pub filter_turned : {X : Type 0} (p : X → Bool) (xs : List X) → filter p (reverse xs) ≡ reverse (filter p xs)
filter_turned p [] = refl
filter_turned p (x ∷ xs) =
    let P : Bool → Type 0 = λ b. reverse (filter p xs) ++ cond b (x ∷ []) [] ≡ reverse (cond b (x ∷ filter p xs) (filter p xs)) in
    ap (filter p) (turned_cons x xs) ∙ filter-append p (reverse xs) (x ∷ []) ∙ ap (λ l. l ++ filter p (x ∷ [])) (filter_turned p xs)
    ∙ (elim (p x) as P [ true ↦ sym (turned_cons x (filter p xs)) | false ↦ append-nil (reverse (filter p xs)) ])

-- a filter after a map, where the tests agree
pub map_filter : {X Y : Type 0} (f : X → Y) (p : X → Bool) (q : Y → Bool) (xs : List X) → AllByRecursion (λ x. p x ≡ q (f x)) xs → map f (filter p xs) ≡ filter q (map f xs)
map_filter f p q [] all = refl
map_filter f p q (x ∷ xs) all =
    let rest = map_filter f p q xs all.1 in
    let P : Bool → Type 0 = λ b. map f (cond b (x ∷ filter p xs) (filter p xs)) ≡ cond b (f x ∷ filter q (map f xs)) (filter q (map f xs)) in
    let at : P (p x) = elim (p x) as P [ true ↦ ap (λ l. f x ∷ l) rest | false ↦ rest ] in
    at ∙ ap (λ b. cond b (f x ∷ filter q (map f xs)) (filter q (map f xs))) all.0

-- a filter that each element passes
pub filter_all : {X : Type 0} (p : X → Bool) (xs : List X) → AllByRecursion (λ x. p x ≡ true) xs → filter p xs ≡ xs
filter_all p [] all = refl
filter_all p (x ∷ xs) all = rw (all.0, filter_all p xs all.1) refl

pub all_of : {X : Type 0} (P : X → Type 0) → ((x : X) → P x) → (xs : List X) → AllByRecursion P xs
all_of P f [] = tt
all_of P f (x ∷ xs) = (f x, all_of P f xs)

pub all_unmapped : {X Y : Type 0} (P : Y → Type 0) (f : X → Y) (xs : List X) → AllByRecursion P (map f xs) → AllByRecursion (λ x. P (f x)) xs
all_unmapped P f [] all = tt
all_unmapped P f (x ∷ xs) all = (all.0, all_unmapped P f xs all.1)
