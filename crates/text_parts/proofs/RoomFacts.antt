-- Bytes at the end of a text that others take the place of.
use Rattle.std.proofs.Common.{◌≡◌, ℕ, ◌+◌, ◌-◌, ◌<◌, ◌≤◌, ◌^◌, Bool, true, false, List, ◌++◌, length, take, drop, replicate, Option, None, Some, refl, sym, ap, ◌∙◌, arith}
use Rattle.std.specs.Option.{is_some}
use Rattle.std.proofs.lemmas.Bool.{ltb-true, ltb-false, false≢true}
use Rattle.std.proofs.lemmas.Option.{same_Some}
use Rattle.std.proofs.Math.Dec.{ltb}
use Rattle.std.proofs.lemmas.List.{drop_at, take_all, take-append-le}

pub replaced : (a b e new : List ℕ) (from end : ℕ) → from ≤ length a → end ≡ length a → b ≡ a ++ e → new ≡ take from b ++ drop end b → new ≡ take from a ++ e
replaced a b e new from end within end_is b_is new_is =
    new_is ∙ ap (λ n. take from b ++ drop n b) end_is ∙ ap (λ l. take from l ++ drop (length a) l) b_is
    ∙ ap (λ l. l ++ drop (length a) (a ++ e)) (take-append-le from a e within) ∙ ap (λ l. take from a ++ l) (drop_at a e (length a) refl)

-- the size of an encoding, where it fits
pub size_is : (o : Option ℕ) (size n : ℕ) → (n < 2 ^ 64 → o ≡ Some n) → (2 ^ 64 ≤ n → o ≡ None) → o ≡ Some size → size ≡ n
size_is o size n fits long is =
    let P : Bool → Type 0 = λ t. ltb n (2 ^ 64) ≡ t → size ≡ n in
    elim (ltb n (2 ^ 64)) as P [
      | true ↦ (λ k. same_Some size n (sym is ∙ fits (ltb-true n (2 ^ 64) k)))
      | false ↦ (λ k. absurd (false≢true (ap is_some (sym (long (ltb-false n (2 ^ 64) k)) ∙ is))))
    ] refl

-- zeros that fill a text up
pub zeros : (a z : List ℕ) (size n end len : ℕ) → size ≡ n → end ≡ len + size → len ≡ length a → z ≡ take end a ++ replicate (end - len) 0 → z ≡ a ++ replicate n 0
zeros a z size n end len size_is end_is len_is z_is =
    let more : end - len ≡ n = omega (arith, size_is, end_is) in
    let all : length a ≤ end = omega (arith, end_is, len_is) in
    z_is ∙ ap (λ l. l ++ replicate (end - len) 0) (take_all end a all) ∙ ap (λ k. a ++ replicate k 0) more
