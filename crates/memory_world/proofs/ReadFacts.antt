-- What a read of bytes in memory gives.
use Rattle.std.proofs.Common.{min, ◌≡◌, ◌++◌, ◌+◌, ◌-◌, ◌≤◌, ◌<◌, ℕ, List, [], length, take, drop, refl, sym, ◌∙◌, ap, arith}
use Rattle.std.proofs.lemmas.List.{take-append-drop, drop-drop, drop_all, length-drop, length-take, drop-take, take-take, take-append-le}

-- what was copied to the front of a buffer stands there
copied : (bytes copy rest : List ℕ) (at n : ℕ) → copy ≡ take (at + n - at) (drop at bytes) → at + n ≤ length bytes → take n (copy ++ rest) ≡ take n (drop at bytes)
copied bytes copy rest at n is within =
    let e : at + n - at ≡ n = omega arith in
    let same : copy ≡ take n (drop at bytes) = is ∙ ap (λ k. take k (drop at bytes)) e in
    let size : length copy ≡ n = omega (arith, ap length same, length-take n (drop at bytes), length-drop at bytes) in
    take-append-le n copy rest (omega (arith, size)) ∙ (ap (take n) same ∙ take-take n n (drop at bytes) (omega arith))

-- the bytes left begin with them, and go on with those that are left then
pub left_read : (bytes left copy rest buf : List ℕ) (at n : ℕ) → drop at bytes ≡ left → copy ≡ take (at + n - at) (drop at bytes) → at ≤ length bytes → n ≡ min (length buf) (length bytes - at) → length (copy ++ rest) ≡ length buf
    → (left ≡ take n (copy ++ rest) ++ drop (at + n) bytes) × (n ≡ 0 → 0 < length (copy ++ rest) → drop (at + n) bytes ≡ [])
left_read bytes left copy rest buf at n is same within size room =
    (sym is ∙ (sym (take-append-drop n (drop at bytes)) ∙ ap2 (sym (copied bytes copy rest at n same (omega arith))) (drop-drop n at bytes)), λ none some. drop_all (at + n) bytes (omega (arith, none, some, size, room)))
  where
    ap2 : {a b c d : List ℕ} → a ≡ b → c ≡ d → a ++ c ≡ b ++ d
    ap2 p q = cc

take-plus : (at n : ℕ) (bytes : List ℕ) → take (at + n) bytes ≡ take at bytes ++ take n (drop at bytes)
take-plus at n bytes =
    let whole : take at (take (at + n) bytes) ++ drop at (take (at + n) bytes) ≡ take (at + n) bytes = take-append-drop at (take (at + n) bytes) in
    sym whole ∙ rw (drop-take at n bytes, take-take at (at + n) bytes (omega arith)) refl

-- the bytes given go on with them
pub given_read : (bytes given copy rest buf : List ℕ) (at n : ℕ) → take at bytes ≡ given → copy ≡ take (at + n - at) (drop at bytes) → at ≤ length bytes → n ≡ min (length buf) (length bytes - at)
    → take (at + n) bytes ≡ given ++ take n (copy ++ rest)
given_read bytes given copy rest buf at n is same within size =
    let e : take n (copy ++ rest) ≡ take n (drop at bytes) = copied bytes copy rest at n same (omega arith) in
    take-plus at n bytes ∙ rw (e, ← is) refl
