-- Lists whose blocks pass a test from some block on.
use Rattle.std.proofs.Common.{arith, ◌≡◌, ◌⊎◌, inl, inr, Bool, true, false, not, cond, List, [], ◌∷◌, ◌++◌, refl, ap}
use Rattle.std.specs.List.{AllByRecursion, filter}
use Rattle.block_record.specs.declared.blocks.Slip.{Slip}
use Rattle.chain_model.specs.Steps.{keep_while, drop_while}

-- each block of the list passes
abbrev pub Passes : (Slip → Bool) → List Slip → Type 0
Passes f xs = AllByRecursion (λ s. f s ≡ true) xs

-- from the first block that passes on, each does
abbrev pub Closed : (Slip → Bool) → List Slip → Type 0
Closed f xs = Passes f (drop_while (λ s. not (f s)) xs)

pub keep-append-drop : (p : Slip → Bool) (xs : List Slip) → keep_while p xs ++ drop_while p xs ≡ xs
keep-append-drop p [] = refl
keep-append-drop p (x ∷ xs) = grind (arith, keep-append-drop p xs)

pub filter-passes : (f : Slip → Bool) (xs : List Slip) → Passes f xs → filter f xs ≡ xs
filter-passes f [] all = refl
filter-passes f (x ∷ xs) all = rw (all.0, filter-passes f xs all.1) refl

pub Passes-append : (f : Slip → Bool) (xs ys : List Slip) → Passes f (xs ++ ys) → Passes f xs × Passes f ys
Passes-append f [] ys all = (tt, all)
Passes-append f (x ∷ xs) ys all = let rest = Passes-append f xs ys all.1 in ((all.0, rest.0), rest.1)

filter-not-passes : (f : Slip → Bool) (xs : List Slip) → Passes f xs → filter (λ s. not (f s)) xs ≡ []
filter-not-passes f [] all = refl
filter-not-passes f (x ∷ xs) all = rw (all.0, filter-not-passes f xs all.1) refl

pub Closed-passes : (f : Slip → Bool) (xs : List Slip) → Passes f xs → Closed f xs
Closed-passes f [] all = tt
Closed-passes f (x ∷ xs) all = rw all.0 all

-- of a closed list, what passes and what does not
pub filter-closed : (f : Slip → Bool) (xs : List Slip) → Closed f xs → filter f xs ≡ drop_while (λ s. not (f s)) xs
filter-closed f [] all = refl
filter-closed f (x ∷ xs) all =
    let P : Bool → Type 0 = λ t. Passes f (cond (not t) (drop_while (λ s. not (f s)) xs) (x ∷ xs)) → cond t (x ∷ filter f xs) (filter f xs) ≡ cond (not t) (drop_while (λ s. not (f s)) xs) (x ∷ xs) in
    let both : P (f x) = elim (f x) as P [ true ↦ λ a. ap (λ l. x ∷ l) (filter-passes f xs a.1) | false ↦ λ a. filter-closed f xs a ] in
    both all

pub filter-not-closed : (f : Slip → Bool) (xs : List Slip) → Closed f xs → filter (λ s. not (f s)) xs ≡ keep_while (λ s. not (f s)) xs
filter-not-closed f [] all = refl
filter-not-closed f (x ∷ xs) all =
    let P : Bool → Type 0 = λ t. Passes f (cond (not t) (drop_while (λ s. not (f s)) xs) (x ∷ xs)) → cond (not t) (x ∷ filter (λ s. not (f s)) xs) (filter (λ s. not (f s)) xs) ≡ cond (not t) (x ∷ keep_while (λ s. not (f s)) xs) [] in
    let both : P (f x) = elim (f x) as P [ true ↦ λ a. filter-not-passes f xs a.1 | false ↦ λ a. ap (λ l. x ∷ l) (filter-not-closed f xs a) ] in
    both all

-- a closed list in two parts: all of the second part passes, or none of the first
pub record FirstPasses (f : Slip → Bool) (xs ys : List Slip) : Type 0 where
  pub first : Closed f xs
  pub all : Passes f ys

pub record FirstFails (f : Slip → Bool) (xs ys : List Slip) : Type 0 where
  pub none : drop_while (λ s. not (f s)) xs ≡ []
  pub rest : Closed f ys

pub closed_parts : (f : Slip → Bool) (xs ys : List Slip) → Closed f (xs ++ ys) → FirstPasses f xs ys ⊎ FirstFails f xs ys
closed_parts f [] ys all = inr (record { none = refl; rest = all })
closed_parts f (x ∷ xs) ys all =
    let d = λ (l : List Slip). drop_while (λ s. not (f s)) l in
    let P : Bool → Type 0 = λ t. Passes f (cond (not t) (d (xs ++ ys)) (x ∷ (xs ++ ys))) → (Passes f (cond (not t) (d xs) (x ∷ xs)) × Passes f ys) ⊎ ((cond (not t) (d xs) (x ∷ xs) ≡ []) × Closed f ys) in
    let rest : P false = λ a. elim (closed_parts f xs ys a) [ inl u ↦ inl (u.first, u.all) | inr u ↦ inr (u.none, u.rest) ] in
    let both : P (f x) = elim (f x) as P [
      | true ↦ λ a. let parts = Passes-append f xs ys a.1 in inl ((a.0, parts.0), parts.1)
      | false ↦ rest
    ] in
    elim (both all) [ inl u ↦ inl (record { first = u.0; all = u.1 }) | inr u ↦ inr (record { none = u.0; rest = u.1 }) ]

pub closed_first : (f : Slip → Bool) (xs ys : List Slip) → Closed f (xs ++ ys) → Closed f xs
closed_first f xs ys all = elim (closed_parts f xs ys all) [ inl u ↦ u.first | inr u ↦ rw u.none tt ]
