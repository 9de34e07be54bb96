-- The messages that some bytes begin with, taken one after another and piece by piece.
use Rattle.std.proofs.Common.{◌≡◌, ℕ, zero, suc, ◌+◌, ◌-◌, ◌≤◌, ◌<◌, Bool, true, false, ◌&&◌, not, cond, ltb, leb, List, [], ◌∷◌, ◌++◌, length, take, drop, refl, sym, ap, ◌∙◌, arith, length-append, length-drop, IsTrue, Option, Some, None, inl, inr, IfSome}
use Rattle.std.specs.Option.{is_some}
use Rattle.std.specs.Int.{w32, from_be_bytes}
use Rattle.std.proofs.lemmas.Bool.{and_parts, and_from, leb-true, leb-false, le-leb, ltb-true, ltb-false, not-true, lt-ltb, false≢true, cases_lt}
use Rattle.std.proofs.lemmas.List.{take-append-le, drop-append-le}
use Rattle.dbin_file.specs.Messages.{message_max, message_length, has_length, has_message, first_message, Split, onto, split_after, split, is_too_long, is_partial, missing, IsWithin}

-- what a whole message is
pub record Has (bytes : List ℕ) : Type 0 where
  pub four : 4 ≤ length bytes
  pub small : message_length bytes ≤ message_max
  pub whole : 4 + message_length bytes ≤ length bytes

pub has : (bytes : List ℕ) → has_message bytes ≡ true → Has bytes
unfolding has_message
has bytes is =
    let a : ((has_length bytes && leb (message_length bytes) message_max) ≡ true) × (leb (4 + message_length bytes) (length bytes) ≡ true) = and_parts _ _ is in
    let b : (has_length bytes ≡ true) × (leb (message_length bytes) message_max ≡ true) = and_parts _ _ a.0 in
    record { four = leb-true _ _ b.0; small = leb-true _ _ b.1; whole = leb-true _ _ a.1 }

pub has_from : (bytes : List ℕ) → Has bytes → has_message bytes ≡ true
unfolding has_message
has_from bytes h = and_from _ _ (and_from _ _ (le-leb _ _ h.four) (le-leb _ _ h.small)) (le-leb _ _ h.whole)

pub too_long : (bytes : List ℕ) → is_too_long bytes ≡ true → (4 ≤ length bytes) × (message_max < message_length bytes)
unfolding is_too_long
too_long bytes is =
    let a : (has_length bytes ≡ true) × (ltb message_max (message_length bytes) ≡ true) = and_parts _ _ is in
    (leb-true _ _ a.0, ltb-true _ _ a.1)

no_message-long : (bytes : List ℕ) → is_too_long bytes ≡ true → has_message bytes ≡ false
no_message-long bytes is = by_test (has_message bytes) refl
  where
    by_test : (t : Bool) → has_message bytes ≡ t → t ≡ false
    by_test true e = absurd (omega (arith, (has bytes e).small, (too_long bytes is).1))
    by_test false e = refl

pub partial_is : (bytes : List ℕ) → is_partial bytes ≡ true → (has_message bytes ≡ false) × (is_too_long bytes ≡ false)
partial_is bytes is =
    let a : (not (has_message bytes) ≡ true) × (not (is_too_long bytes) ≡ true) = and_parts _ _ is in
    (not-true _ a.0, not-true _ a.1)

-- a part of a message ends before the message does
pub partial_short : (bytes : List ℕ) → is_partial bytes ≡ true → 4 ≤ length bytes → length bytes < 4 + message_length bytes
unfolding has_message is_too_long
partial_short bytes is four =
    let p = partial_is bytes is in
    let long : leb 4 (length bytes) ≡ true = le-leb _ _ four in
    let small : ltb message_max (message_length bytes) ≡ false = right long p.1 in
    let fits : leb (message_length bytes) message_max ≡ true = le-leb _ _ (ltb-false _ _ small) in
    leb-false _ _ (right (and_from _ _ long fits) p.0)
  where
    right : {x y : Bool} → x ≡ true → (x && y) ≡ false → y ≡ false
    right {x} {y} e f = ap (λ t. t && y) (sym e) ∙ f

-- ---- the messages at the front

split_after-none : (bytes : List ℕ) → has_message bytes ≡ false → split bytes ≡ ([], bytes)
split_after-none [] none = refl
split_after-none (b ∷ bytes) none = rw none refl

pub split-partial : (bytes : List ℕ) → is_partial bytes ≡ true → split bytes ≡ ([], bytes)
split-partial bytes is = split_after-none bytes (partial_is bytes is).0

pub split-too_long : (bytes : List ℕ) → is_too_long bytes ≡ true → split bytes ≡ ([], bytes)
split-too_long bytes is = split_after-none bytes (no_message-long bytes is)

split_after-all : (n : ℕ) (bytes : List ℕ) → length bytes ≤ n → split_after n bytes ≡ ([], [])
split_after-all n [] fits = refl
split_after-all zero (b ∷ bytes) fits = absurd (omega (arith, fits))
split_after-all (suc n) (b ∷ bytes) fits = split_after-all n bytes (omega (arith, fits))

take_all : (n : ℕ) (bytes : List ℕ) → length bytes ≤ n → take n bytes ≡ bytes
take_all zero [] fits = refl
take_all (suc n) [] fits = refl
take_all zero (b ∷ bytes) fits = absurd (omega (arith, fits))
take_all (suc n) (b ∷ bytes) fits = ap (λ l. b ∷ l) (take_all n bytes (omega (arith, fits)))

pub split-whole : (bytes : List ℕ) → has_message bytes ≡ true → IsWithin bytes → split bytes ≡ (drop 4 bytes ∷ [], [])
split-whole [] is within = absurd (omega (arith, (has [] is).four))
split-whole (b ∷ bytes) is within =
    let h = has (b ∷ bytes) is in
    let exact : length (b ∷ bytes) ≡ 4 + message_length (b ∷ bytes) = exactly (message_length (b ∷ bytes)) (length (b ∷ bytes)) h.whole h.four within in
    let all : split_after (3 + message_length (b ∷ bytes)) bytes ≡ ([], []) = split_after-all _ bytes (omega (arith, exact)) in
    let body : first_message (b ∷ bytes) ≡ drop 4 (b ∷ bytes) = take_all _ (drop 4 (b ∷ bytes)) (omega (arith, exact, length-drop 4 (b ∷ bytes))) in
    rw is (ap (onto (first_message (b ∷ bytes))) all ∙ ap (λ (m : List ℕ). onto m ([], [])) body)
  where
    exactly : (n k : ℕ) → 4 + n ≤ k → 4 ≤ k → (4 < k → k ≤ 4 + n) → k ≡ 4 + n
    exactly n k whole four within =
        elim (cases_lt 4 k) [
          | inl more ↦ omega (arith, whole, within more)
          | inr le ↦ omega (arith, whole, four, le)
        ]

-- nothing is a part of a message
partial_empty : is_partial [] ≡ true
unfolding has_message is_too_long
partial_empty = refl

pub part_empty : {A : Type 0} (o : Option A) (kept : List ℕ) → kept ≡ [] → IfSome o (λ _. IsTrue (is_partial kept))
part_empty None kept none = tt
part_empty (Some x) kept none = rw none partial_empty

pub nothing_partial : (kept : List ℕ) → kept ≡ [] → IsTrue (is_partial kept)
nothing_partial kept none = rw none partial_empty

pub part_here : {A : Type 0} (o : Option A) (kept : List ℕ) → IsTrue (is_partial kept) → IfSome o (λ _. IsTrue (is_partial kept))
part_here None kept is = tt
part_here (Some x) kept is = is

pub part_of : {A : Type 0} (o : Option A) (kept : List ℕ) → IsTrue (is_some o) → IfSome o (λ _. IsTrue (is_partial kept)) → IsTrue (is_partial kept)
part_of None kept some is = absurd (false≢true some)
part_of (Some x) kept some is = is

-- the length that was read
pub length_there : (bytes : List ℕ) (n : ℕ) → Some n ≡ cond (ltb (length bytes) 4) None (Some (message_length bytes)) → (4 ≤ length bytes) × (n ≡ message_length bytes)
length_there bytes n is = by_test (ltb (length bytes) 4) refl is
  where
    by_test : (t : Bool) → ltb (length bytes) 4 ≡ t → Some n ≡ cond t None (Some (message_length bytes)) → (4 ≤ length bytes) × (n ≡ message_length bytes)
    by_test true e is = absurd cc
    by_test false e is = (ltb-false _ _ e, cc)

-- ---- further bytes

pub message_length-append : (bytes piece : List ℕ) → 4 ≤ length bytes → message_length (bytes ++ piece) ≡ message_length bytes
message_length-append bytes piece four = ap (from_be_bytes w32) (take-append-le 4 bytes piece four)

pub has_message-append : (bytes piece : List ℕ) → has_message bytes ≡ true → has_message (bytes ++ piece) ≡ true
has_message-append bytes piece is =
    let h = has bytes is in
    let same = message_length-append bytes piece h.four in
    has_from (bytes ++ piece) (record {
      four = omega (arith, h.four, length-append bytes piece);
      small = rw same h.small;
      whole = omega (arith, same, h.whole, length-append bytes piece);
    })

pub too_long-append : (bytes piece : List ℕ) → is_too_long bytes ≡ true → is_too_long (bytes ++ piece) ≡ true
unfolding is_too_long
too_long-append bytes piece is =
    let l = too_long bytes is in
    let same = message_length-append bytes piece l.0 in
    let four : 4 ≤ length (bytes ++ piece) = omega (arith, l.0, length-append bytes piece) in
    let more : message_max < message_length (bytes ++ piece) = rw same l.1 in
    and_from _ _ (le-leb _ _ four) (lt-ltb _ _ more)

first_message-append : (bytes piece : List ℕ) → has_message bytes ≡ true → first_message (bytes ++ piece) ≡ first_message bytes
first_message-append bytes piece is =
    let h = has bytes is in
    ap (λ (n : ℕ). take n (drop 4 (bytes ++ piece))) (message_length-append bytes piece h.four)
    ∙ ap (take (message_length bytes)) (drop-append-le 4 bytes piece h.four)
    ∙ take-append-le (message_length bytes) (drop 4 bytes) piece (omega (arith, h.whole, length-drop 4 bytes))

-- messages that were found before
abbrev pub with_front : List (List ℕ) → Split → Split
with_front front s = (front ++ s.0, s.1)

split_after-append : (n : ℕ) (bytes piece : List ℕ) → n ≤ length bytes → split_after n (bytes ++ piece) ≡ with_front (split_after n bytes).0 (split ((split_after n bytes).1 ++ piece))
split_after-append zero [] piece fits = refl
split_after-append (suc n) [] piece fits = absurd (omega (arith, fits))
split_after-append (suc n) (b ∷ bytes) piece fits = split_after-append n bytes piece (omega (arith, fits))
split_after-append zero (b ∷ bytes) piece fits = by_test (λ n within. split_after-append n bytes piece within) (has_message (b ∷ bytes)) refl
  where
    by_test : ((n : ℕ) → n ≤ length bytes → split_after n (bytes ++ piece) ≡ with_front (split_after n bytes).0 (split ((split_after n bytes).1 ++ piece)))
        → (t : Bool) → has_message (b ∷ bytes) ≡ t → split_after 0 (b ∷ (bytes ++ piece)) ≡ with_front (split_after 0 (b ∷ bytes)).0 (split ((split_after 0 (b ∷ bytes)).1 ++ piece))
    by_test more true e =
        let h = has (b ∷ bytes) e in
        let n = 3 + message_length (b ∷ bytes) in
        let longer = has_message-append (b ∷ bytes) piece e in
        let same : message_length (b ∷ (bytes ++ piece)) ≡ message_length (b ∷ bytes) = message_length-append (b ∷ bytes) piece h.four in
        let first : first_message (b ∷ (bytes ++ piece)) ≡ first_message (b ∷ bytes) = first_message-append (b ∷ bytes) piece e in
        let later : split_after n (bytes ++ piece) ≡ with_front (split_after n bytes).0 (split ((split_after n bytes).1 ++ piece)) = more n (omega (arith, h.whole)) in
        let here : split_after 0 (b ∷ bytes) ≡ onto (first_message (b ∷ bytes)) (split_after n bytes) = rw e refl in
        let there : split_after 0 (b ∷ (bytes ++ piece)) ≡ onto (first_message (b ∷ bytes)) (split_after n (bytes ++ piece)) = rw longer (ap (λ (m : List ℕ). onto m (split_after (3 + message_length (b ∷ (bytes ++ piece))) (bytes ++ piece))) first ∙ ap (λ (k : ℕ). onto (first_message (b ∷ bytes)) (split_after (3 + k) (bytes ++ piece))) same) in
        there ∙ ap (onto (first_message (b ∷ bytes))) later ∙ ap (λ (s : Split). with_front s.0 (split (s.1 ++ piece))) (sym here)
    by_test more false e =
        let here : split_after 0 (b ∷ bytes) ≡ ([], b ∷ bytes) = rw e refl in
        ap (λ (s : Split). with_front s.0 (split (s.1 ++ piece))) (sym here)

-- bytes that go on with a piece
pub split-append : (bytes piece : List ℕ) → split (bytes ++ piece) ≡ with_front (split bytes).0 (split ((split bytes).1 ++ piece))
split-append bytes piece = split_after-append 0 bytes piece (omega arith)

-- what follows the messages is no longer than all of it
rest_within : (n : ℕ) (bytes : List ℕ) → length (split_after n bytes).1 ≤ length bytes
rest_within zero [] = omega arith
rest_within (suc n) [] = omega arith
rest_within (suc n) (b ∷ bytes) = omega (arith, rest_within n bytes)
rest_within zero (b ∷ bytes) = by_test (λ n. rest_within n bytes) (has_message (b ∷ bytes)) refl
  where
    by_test : ((n : ℕ) → length (split_after n bytes).1 ≤ length bytes) → (t : Bool) → has_message (b ∷ bytes) ≡ t → length (split_after 0 (b ∷ bytes)).1 ≤ length (b ∷ bytes)
    by_test more true e = rw e (omega (arith, more (3 + message_length (b ∷ bytes))))
    by_test more false e = rw e (omega arith)

pub split-within : (bytes : List ℕ) → length (split bytes).1 ≤ length bytes
split-within bytes = rest_within 0 bytes

-- a part of a message, with no more bytes than are missing
pub within_of : (bytes front : List ℕ) → is_partial bytes ≡ true → length front ≤ missing bytes → IsWithin (bytes ++ front)
within_of bytes front is fits = by_test (ltb (length bytes) 4) refl fits
  where
    by_test : (t : Bool) → ltb (length bytes) 4 ≡ t → length front ≤ cond t (4 - length bytes) (4 + message_length bytes - length bytes) → IsWithin (bytes ++ front)
    by_test true e fits = λ more. absurd (omega (arith, ltb-true _ _ e, fits, more, length-append bytes front))
    by_test false e fits =
        let four : 4 ≤ length bytes = ltb-false _ _ e in
        λ more. omega (arith, partial_short bytes is four, fits, message_length-append bytes front four, length-append bytes front)
