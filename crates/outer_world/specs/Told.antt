-- Bytes that are told of a source or a sink.
use Rattle.std.specs.Prelude.{ℕ, ◌≡◌, ◌<◌, List, ◌++◌, length, take, Option, None, Some, ⊤, Result, MatchResult, IfOk}
use Rattle.std.specs.Io.KnownBytes.{Consumes, append_known}
use mathlib.Core.List.{IsPrefix}

-- told bytes grow by these, unless they are told no more
abbrev pub Grows : Option (List ℕ) → Option (List ℕ) → List ℕ → Type 0
Grows old None bytes = ⊤
Grows None (Some ys) bytes = ⊥
Grows (Some xs) (Some ys) bytes = ys ≡ xs ++ bytes

-- told bytes grow by a front of these
abbrev pub GrowsByFront : Option (List ℕ) → Option (List ℕ) → List ℕ → Type 0
GrowsByFront old new bytes = (front : List ℕ) × IsPrefix front bytes × Grows old new front

-- a write that takes no byte of a piece with some has failed
abbrev pub TakesSome : {E : Type 0} → Result ℕ E → List ℕ → Type 0
TakesSome r piece = IfOk r (λ n. 0 < length piece → 0 < n)

-- a write adds the bytes that it took, and a failed one none
abbrev pub WriteGrows : {E : Type 0} → Option (List ℕ) → Option (List ℕ) → Result ℕ E → List ℕ → Type 0
WriteGrows old new r piece = MatchResult r (λ n. Grows old new (take n piece)) (λ _. new ≡ old)

-- told bytes gain these at their end and stay told, and what is not told stays so
abbrev pub Gains : Option (List ℕ) → Option (List ℕ) → List ℕ → Type 0
Gains old new bytes = new ≡ append_known old bytes

-- a read gives the first bytes of its buffer, and a failed one none
abbrev pub ReadGives : {E : Type 0} → Option (List ℕ) → Option (List ℕ) → Result ℕ E → List ℕ → Type 0
ReadGives old new r buf = MatchResult r (λ n. Gains old new (take n buf)) (λ _. new ≡ old)

-- these bytes were taken of a source: they were the first that it had left, and it gave them
pub record Took (left left' given given' : Option (List ℕ)) (taken : List ℕ) : Type 0 where
  pub first : Consumes left left' taken
  pub last : Gains given given' taken
