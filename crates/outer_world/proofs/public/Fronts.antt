-- Told bytes that grow again.
use Rattle.std.proofs.Common.{◌≡◌, ◌++◌, ◌-◌, ℕ, List, length, take, drop, Option, None, Some, ◌∙◌, ap, append_assoc}
use Rattle.std.proofs.lemmas.List.{take_rest, take-append-drop}
use Rattle.outer_world.specs.Told.{Grows}

pub grows_twice : (a b c : Option (List ℕ)) (xs ys : List ℕ) → Grows a b xs → Grows b c ys → Grows a c (xs ++ ys)
grows_twice a b None xs ys g h = tt
grows_twice a None (Some z) xs ys g h = absurd h
grows_twice None (Some y) (Some z) xs ys g h = absurd g
grows_twice (Some x) (Some y) (Some z) xs ys g h = h ∙ ap (λ l. l ++ ys) g ∙ append_assoc x xs ys

abbrev pub GrewTo : Option (List ℕ) → Option (List ℕ) → List ℕ → List ℕ → Type 0
GrewTo a b text rest = (front : List ℕ) × (front ++ rest ≡ text) × Grows a b front

pub grew_more : (a b c : Option (List ℕ)) (text rest : List ℕ) (n : ℕ) → GrewTo a b text rest → Grows b c (take n rest)
    → GrewTo a c text (take (length rest - n) (drop n rest))
grew_more a b c text rest n so_far more =
    let whole : (so_far.0 ++ take n rest) ++ take (length rest - n) (drop n rest) ≡ text =
    rw (take_rest rest n, append_assoc so_far.0 (take n rest) (drop n rest), take-append-drop n rest) so_far.1 in
    (so_far.0 ++ take n rest, whole, grows_twice a b c so_far.0 (take n rest) so_far.2 more)
