-- Words for what calls answer, whatever their errors are, and for lists that grow.
use Rattle.std.specs.Prelude.{◌≡◌, ◌≢◌, List, ◌++◌, Option, None, Some, Result, Ok, Err, MatchResult}
use mathlib.Core.List.{IsPrefix}

-- a fact, unless the call answered this error, as want of memory
abbrev pub Unless : {X E : Type 0} → E → Result X E → Type 0 → Type 0
Unless error result P = result ≢ Err error → P

-- the answer is this fault, or Ok where there is none
abbrev pub Answers : {X E : Type 0} → Result X E → Option E → Type 0
Answers result fault = MatchResult result (λ _. fault ≡ None) (λ f. fault ≡ Some f)

-- what an answer brings, seen by a function
abbrev pub result_map : {A B E : Type 0} → (A → B) → Result A E → Result B E
result_map f (Ok x) = Ok (f x)
result_map f (Err e) = Err e

-- a list grew by these
abbrev pub GrowsBy : {X : Type 0} → List X → List X → List X → Type 0
GrowsBy old new more = new ≡ old ++ more

-- a list grew by a front of these
abbrev pub GrowsByFront : {X : Type 0} → List X → List X → List X → Type 0
GrowsByFront {X} old new more = (front : List X) × IsPrefix front more × GrowsBy old new front
