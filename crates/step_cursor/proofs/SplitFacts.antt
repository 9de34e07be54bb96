-- Texts joined by a separator, and cut at it again.
use Rattle.std.proofs.Common.{◌≡◌, ℕ, suc, Bool, true, false, eqb, List, [], ◌∷◌, ◌++◌, length, Some, refl, ◌∙◌, ap, arith}
use Rattle.std.specs.Prelude.{slice_get, ◌==◌}
use Rattle.std.specs.List.{slice_split, join_with_byte, AllByRecursion, list_all}
use Rattle.std.proofs.lemmas.Bool.{and_parts}

-- each byte of a text is so
abbrev pub Each : (ℕ → Type 0) → List ℕ → Type 0
Each P text = AllByRecursion P text

-- each byte of each text is so
abbrev pub EachOf : (ℕ → Type 0) → List (List ℕ) → Type 0
EachOf P texts = AllByRecursion (Each P) texts

-- the bytes of a text that pass a test are what passes it
pub each_test : (p : ℕ → Bool) (P : ℕ → Type 0) (text : List ℕ) → ((b : ℕ) → p b ≡ true → P b) → list_all p text ≡ true → Each P text
each_test p P [] tells all = tt
each_test p P (x ∷ text) tells all =
    let both : (p x ≡ true) × (list_all p text ≡ true) = and_parts (p x) (list_all p text) all in
    (tells x both.0, each_test p P text tells both.1)

each-append : (P : ℕ → Type 0) (a b : List ℕ) → Each P a → Each P b → Each P (a ++ b)
each-append P [] b ha hb = hb
each-append P (x ∷ a) b ha hb = (ha.0, each-append P a b ha.1 hb)

-- so is each byte of the texts joined, where the separator is so
pub each-join : (P : ℕ → Type 0) (t : ℕ) (texts : List (List ℕ)) → P t → EachOf P texts → Each P (join_with_byte t texts)
each-join P t [] between each = tt
each-join P t (text ∷ []) between each = each.0
each-join P t (text ∷ next ∷ texts) between each = each-append P text (t ∷ join_with_byte t (next ∷ texts)) each.0 (between, each-join P t (next ∷ texts) between each.1)

-- a byte is another than this one
abbrev pub IsNot : ℕ → ℕ → Type 0
IsNot s b = eqb b s ≡ false

-- no byte of the text is this one
abbrev pub Lacks : ℕ → List ℕ → Type 0
Lacks s text = Each (IsNot s) text

split_lacking : (s : ℕ) (text : List ℕ) → Lacks s text → slice_split (λ b. b == s) text ≡ text ∷ []
split_lacking s [] lacks = refl
split_lacking s (x ∷ text) lacks =
    let first = lacks.0 in
    let later = split_lacking s text lacks.1 in
    rw (first, later) refl

split_first : (s : ℕ) (text rest : List ℕ) → eqb s s ≡ true → Lacks s text → slice_split (λ b. b == s) (text ++ s ∷ rest) ≡ text ∷ slice_split (λ b. b == s) rest
split_first s [] rest same lacks = rw same refl
split_first s (x ∷ text) rest same lacks =
    let first = lacks.0 in
    let later = split_first s text rest same lacks.1 in
    rw (first, later) refl

-- texts that lack the separator come back
pub split-join : (s : ℕ) (text : List ℕ) (texts : List (List ℕ)) → eqb s s ≡ true → EachOf (IsNot s) (text ∷ texts) → slice_split (λ b. b == s) (join_with_byte s (text ∷ texts)) ≡ text ∷ texts
split-join s text [] same lacks = split_lacking s text lacks.0
split-join s text (next ∷ texts) same lacks =
    split_first s text (join_with_byte s (next ∷ texts)) same lacks.0 ∙ ap (λ l. text ∷ l) (split-join s next texts same lacks.1)

-- from the k-th text on these stand
abbrev pub Stand : List (List ℕ) → ℕ → List (List ℕ) → Type 0
Stand texts k [] = Unit {0}
Stand texts k (w ∷ ws) = (slice_get texts k ≡ Some w) × Stand texts (suc k) ws

stand_later : (x : List ℕ) (texts : List (List ℕ)) (k : ℕ) (ws : List (List ℕ)) → Stand (x ∷ texts) (suc k) ws → Stand texts k ws
stand_later x texts k [] stand = tt
stand_later x texts k (w ∷ ws) stand = (stand.0, stand_later x texts (suc k) ws stand.1)

-- as many texts as stand from the first on are these
pub all_stand : (texts ws : List (List ℕ)) → length texts ≡ length ws → Stand texts 0 ws → texts ≡ ws
all_stand [] [] same stand = refl
all_stand [] (w ∷ ws) same stand = absurd (omega arith)
all_stand (x ∷ texts) [] same stand = absurd (omega arith)
all_stand (x ∷ texts) (w ∷ ws) same stand =
    let first : x ≡ w = let e : Some x ≡ Some w = stand.0 in cc in
    let later = all_stand texts ws (omega arith) (stand_later x texts 0 ws stand.1) in
    rw (first, later) refl
