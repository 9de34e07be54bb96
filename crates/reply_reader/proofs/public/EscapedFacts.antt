-- Texts between quotes: escaped bytes are read as those bytes, and what is read is their escaped form.
use Rattle.std.proofs.Common.{arith, ◌≡◌, ◌<◌, ◌≤◌, ◌+◌, ◌*◌, ◌/◌, ◌%◌, ℕ, zero, suc, Bool, true, false, ◌||◌, ◌&&◌, cond, eqb, List, [], ◌∷◌, ◌++◌, length, get_or, Option, Some, None, refl, sym, ◌∙◌, ap, append_assoc, length-append}
use Rattle.std.specs.Prelude.{codes, nat_lt, bytes_eq, slice_index}
use Rattle.std.specs.Option.{option_map}
use Rattle.std.proofs.Math.Dec.{ltb}
use Rattle.std.proofs.lemmas.Bool.{eqb-true, ne_eqb, ltb-true, lt-ltb, and_parts, or_parts, agree_below_at}
use Rattle.std.proofs.lemmas.Option.{cond_some, same_Some}
use Rattle.std.proofs.lemmas.Slice.Eq.{bytes_eq-Decides}
use Rattle.hex.specs.Hex.{encode_lower, encode_with, lower_digits}
use Rattle.text_parts.specs.Parts.{escaped_byte, escaped, is_apart}
use Rattle.reply_laws.proofs.public.Readers.{never_quote}
use Rattle.reply_reader.specs.Parts.{◌>>=◌, or_by, after_front, digit_value, control_of, after_u, after_slash, byte_at, quoted_in, quoted}
use Rattle.reply_reader.proofs.public.MemberFacts.{read_by, front_takes}

-- whether a byte has a backslash before it
abbrev has_slash : ℕ → Bool
has_slash b = eqb b 34 || eqb b 92

-- ---- bytes that were escaped

digit_again : (d : ℕ) → d < 16 → digit_value (slice_index lower_digits d) ≡ d
digit_again d small = eqb-true _ _ (agree_below_at (λ k. eqb (digit_value (slice_index lower_digits k)) k) (λ k. true) 16 d refl small)

control_again : (x : ℕ) (u : List ℕ) → x < 32 → control_of (slice_index lower_digits (x / 16)) (slice_index lower_digits (x % 16)) u ≡ Some (x, u)
unfolding encode_with
control_again x u small =
    let high : digit_value (slice_index lower_digits (x / 16)) ≡ x / 16 = digit_again (x / 16) (omega arith) in
    let low : digit_value (slice_index lower_digits (x % 16)) ≡ x % 16 = digit_again (x % 16) (omega arith) in
    let whole : digit_value (slice_index lower_digits (x / 16)) * 16 + digit_value (slice_index lower_digits (x % 16)) ≡ x = (λ i. high i * 16 + low i) ∙ omega arith in
    by_value _ whole
  where
    one : ℕ → Option (ℕ × List ℕ)
    one b = Some (b, u)

    by_value : (b : ℕ) → b ≡ x
        → cond (nat_lt b 32 && bytes_eq (encode_with lower_digits (b ∷ [])) (slice_index lower_digits (x / 16) ∷ slice_index lower_digits (x % 16) ∷ [])) (one b) None ≡ one x
    by_value b is =
        let below : nat_lt b 32 ≡ true = lt-ltb b 32 (omega (arith, is, small)) in
        let digits : bytes_eq (encode_with lower_digits (b ∷ [])) (slice_index lower_digits (x / 16) ∷ slice_index lower_digits (x % 16) ∷ []) ≡ true
        = (bytes_eq-Decides _ _).1 (ap (λ (k : ℕ). slice_index lower_digits (k / 16) ∷ slice_index lower_digits (k % 16) ∷ []) is) in
        rw (below, digits) (ap one is)

byte_again : (x : ℕ) (u : List ℕ) → byte_at (escaped_byte x ++ u) ≡ Some (x, u)
unfolding encode_with
byte_again x u = go (has_slash x) (ltb x 32) refl refl
  where
    go : (t v : Bool) → has_slash x ≡ t → ltb x 32 ≡ v → byte_at (cond t (92 ∷ x ∷ []) (cond v (codes "\\u00" ++ encode_lower (x ∷ [])) (x ∷ [])) ++ u) ≡ Some (x, u)
    go true v k j = rw k refl
    go false true k j = control_again x u (ltb-true x 32 j)
    go false false k j =
        let both = or_parts (eqb x 34) (eqb x 92) k in
        rw (both.0, both.1, j) refl

no_quote : (text : List ℕ) → (get_or text 0 0 ≡ 34 → ⊥) → after_front (codes "\"") text ≡ None
no_quote [] h = refl
no_quote (b ∷ text) h = let isnt : eqb b 34 ≡ false = ne_eqb b 34 h in rw isnt refl

quoted_in_again : (n : ℕ) (bytes rest : List ℕ) → length bytes < n → quoted_in n (escaped bytes ++ 34 ∷ rest) ≡ Some (bytes, rest)
quoted_in_again zero bytes rest lt = absurd (omega (arith, lt))
quoted_in_again (suc n) [] rest lt = refl
quoted_in_again (suc n) (x ∷ bytes) rest lt =
    let text = append_assoc (escaped_byte x) (escaped bytes) (34 ∷ rest) in
    let isnt = no_quote (escaped_byte x ++ (escaped bytes ++ 34 ∷ rest)) (never_quote x (escaped bytes ++ 34 ∷ rest)) in
    let one = byte_again x (escaped bytes ++ 34 ∷ rest) in
    let later = quoted_in_again n bytes rest (omega (arith, lt)) in
    ap (quoted_in (suc n)) text ∙ rw (isnt, one, later) refl

some_bytes : (x : ℕ) → 0 < length (escaped_byte x)
some_bytes x = go (has_slash x) (ltb x 32)
  where
    go : (t v : Bool) → 0 < length (cond t (92 ∷ x ∷ []) (cond v (codes "\\u00" ++ encode_lower (x ∷ [])) (x ∷ [])))
    go true v = omega arith
    go false true = omega arith
    go false false = omega arith

length-escaped-le : (bytes : List ℕ) → length bytes ≤ length (escaped bytes)
length-escaped-le [] = omega arith
length-escaped-le (x ∷ bytes) = omega (arith, some_bytes x, length-escaped-le bytes, length-append (escaped_byte x) (escaped bytes))

pub quoted_again : (bytes rest : List ℕ) → quoted (escaped bytes ++ 34 ∷ rest) ≡ Some (bytes, rest)
unfolding quoted
quoted_again bytes rest = quoted_in_again (length (escaped bytes ++ 34 ∷ rest)) bytes rest (omega (arith, length-escaped-le bytes, length-append (escaped bytes) (34 ∷ rest)))

-- ---- bytes that were read

-- a byte was taken from the front of a text
abbrev IsByteOf : List ℕ → ℕ × List ℕ → Type 0
IsByteOf text y = text ≡ escaped_byte y.0 ++ y.1

taken : (text rest : List ℕ) (b : ℕ) (y : ℕ × List ℕ) → text ≡ escaped_byte b ++ rest → (let o : Option (ℕ × List ℕ) = Some (b, rest) in o ≡ Some y) → IsByteOf text y
taken text rest b y is e = is ∙ ap (λ (p : ℕ × List ℕ). escaped_byte p.0 ++ p.1) (same_Some (b, rest) y e)

control_takes : (high low : ℕ) (rest : List ℕ) (y : ℕ × List ℕ) → control_of high low rest ≡ Some y → IsByteOf (codes "\\u00" ++ high ∷ low ∷ rest) y
unfolding encode_with
control_takes high low rest y e = by_value (digit_value high * 16 + digit_value low) e
  where
    by_value : (b : ℕ) → cond (nat_lt b 32 && bytes_eq (encode_with lower_digits (b ∷ [])) (high ∷ low ∷ [])) (Some (b, rest)) None ≡ Some y → IsByteOf (codes "\\u00" ++ high ∷ low ∷ rest) y
    by_value b e =
        let parts = cond_some (nat_lt b 32 && bytes_eq (encode_with lower_digits (b ∷ [])) (high ∷ low ∷ [])) (b, rest) y e in
        let tests : (nat_lt b 32 ≡ true) × (bytes_eq (encode_with lower_digits (b ∷ [])) (high ∷ low ∷ []) ≡ true) = and_parts _ _ parts.0 in
        let digits : encode_with lower_digits (b ∷ []) ≡ high ∷ low ∷ [] = (bytes_eq-Decides _ _).0 tests.1 in
        let small : b < 32 = ltb-true b 32 tests.0 in
        let quote : eqb b 34 ≡ false = ne_eqb b 34 (λ (is : b ≡ 34). omega (arith, small, is)) in
        let slash : eqb b 92 ≡ false = ne_eqb b 92 (λ (is : b ≡ 92). omega (arith, small, is)) in
        let spelled : escaped_byte b ≡ codes "\\u00" ++ encode_with lower_digits (b ∷ []) = rw (quote, slash, tests.0) refl in
        taken _ rest b y (sym (ap (λ l. l ++ rest) (spelled ∙ ap (λ l. codes "\\u00" ++ l) digits))) (ap Some parts.1)

after_u_takes : (text : List ℕ) (y : ℕ × List ℕ) → after_u text ≡ Some y → IsByteOf (92 ∷ 117 ∷ text) y
after_u_takes [] y e = absurd (cc e)
after_u_takes (a ∷ []) y e = absurd (cc e)
after_u_takes (a ∷ b ∷ []) y e = absurd (cc e)
after_u_takes (a ∷ b ∷ c ∷ []) y e = absurd (cc e)
after_u_takes (a ∷ b ∷ high ∷ low ∷ rest) y e = go (eqb a 48) (eqb b 48) refl refl e
  where
    go : (t v : Bool) → eqb a 48 ≡ t → eqb b 48 ≡ v → cond (t && v) (control_of high low rest) None ≡ Some y → IsByteOf (92 ∷ 117 ∷ a ∷ b ∷ high ∷ low ∷ rest) y
    go true true k j e =
        let first = eqb-true a 48 k in
        let second = eqb-true b 48 j in
        (λ i. 92 ∷ 117 ∷ first i ∷ second i ∷ high ∷ low ∷ rest) ∙ control_takes high low rest y e
    go true false k j e = absurd (cc e)
    go false v k j e = absurd (cc e)

after_slash_takes : (text : List ℕ) (y : ℕ × List ℕ) → after_slash text ≡ Some y → IsByteOf (92 ∷ text) y
after_slash_takes [] y e = absurd (cc e)
after_slash_takes (b ∷ rest) y e = go (has_slash b) (eqb b 117) refl refl e
  where
    go : (t v : Bool) → has_slash b ≡ t → eqb b 117 ≡ v → cond t (Some (b, rest)) (cond v (after_u rest) None) ≡ Some y → IsByteOf (92 ∷ b ∷ rest) y
    go true v k j e =
        let spelled : escaped_byte b ≡ 92 ∷ b ∷ [] = rw k refl in
        taken (92 ∷ b ∷ rest) rest b y (sym (ap (λ l. l ++ rest) spelled)) e
    go false true k j e = ap (λ (c : ℕ). 92 ∷ c ∷ rest) (eqb-true b 117 j) ∙ after_u_takes rest y e
    go false false k j e = absurd (cc e)

byte_takes : (text : List ℕ) (y : ℕ × List ℕ) → byte_at text ≡ Some y → IsByteOf text y
byte_takes [] y e = absurd (cc e)
byte_takes (b ∷ rest) y e = go (eqb b 92) (is_apart b) refl refl e
  where
    go : (t v : Bool) → eqb b 92 ≡ t → is_apart b ≡ v → cond t (after_slash rest) (cond v None (Some (b, rest))) ≡ Some y → IsByteOf (b ∷ rest) y
    go true v k j e = ap (λ (c : ℕ). c ∷ rest) (eqb-true b 92 k) ∙ after_slash_takes rest y e
    go false true k j e = absurd (cc e)
    go false false k j e =
        let tests : (has_slash b ≡ false) × (nat_lt b 32 ≡ false) = or_parts (has_slash b) (nat_lt b 32) j in
        let spelled : escaped_byte b ≡ b ∷ [] = rw (tests.0, tests.1) refl in
        taken (b ∷ rest) rest b y (sym (ap (λ l. l ++ rest) spelled)) e

-- escaped bytes and a quote were taken from the front of a text
abbrev AreBytesOf : List ℕ → List ℕ × List ℕ → Type 0
AreBytesOf text y = text ≡ escaped y.0 ++ 34 ∷ y.1

quoted_in_takes : (n : ℕ) (text : List ℕ) (y : List ℕ × List ℕ) → quoted_in n text ≡ Some y → AreBytesOf text y
quoted_in_takes zero text y e = absurd (cc e)
quoted_in_takes (suc n) text y e = by_front (quoted_in_takes n) (after_front (codes "\"") text) refl e
  where
    by_later : ((rest : List ℕ) (q : List ℕ × List ℕ) → quoted_in n rest ≡ Some q → AreBytesOf rest q)
        → (b : ℕ × List ℕ) → byte_at text ≡ Some b → (o : Option (List ℕ × List ℕ)) → quoted_in n b.1 ≡ o → option_map (λ p. (b.0 ∷ p.0, p.1)) o ≡ Some y → AreBytesOf text y
    by_later more b is None later e = absurd (cc e)
    by_later more b is (Some q) later e =
        byte_takes text b is ∙ ap (λ l. escaped_byte b.0 ++ l) (more b.1 q later) ∙ sym (append_assoc (escaped_byte b.0) (escaped q.0) (34 ∷ q.1))
        ∙ ap (λ (p : List ℕ × List ℕ). escaped p.0 ++ 34 ∷ p.1) (same_Some (b.0 ∷ q.0, q.1) y e)

    by_front : ((rest : List ℕ) (q : List ℕ × List ℕ) → quoted_in n rest ≡ Some q → AreBytesOf rest q)
        → (o : Option (List ℕ)) → after_front (codes "\"") text ≡ o
        → or_by o (λ rest. Some ([], rest)) (byte_at text >>= λ b. option_map (λ p. (b.0 ∷ p.0, p.1)) (quoted_in n b.1)) ≡ Some y → AreBytesOf text y
    by_front more (Some rest) is e = front_takes (codes "\"") text rest is ∙ ap (λ (p : List ℕ × List ℕ). escaped p.0 ++ 34 ∷ p.1) (same_Some ([], rest) y e)
    by_front more None is e =
        let b = read_by (byte_at text) (λ (b : ℕ × List ℕ). option_map (λ p. (b.0 ∷ p.0, p.1)) (quoted_in n b.1)) y e in
        by_later more b.value b.found (quoted_in n b.value.1) refl b.later

pub quoted_takes : (text : List ℕ) (y : List ℕ × List ℕ) → quoted text ≡ Some y → AreBytesOf text y
unfolding quoted
quoted_takes text y e = quoted_in_takes (length text) text y e
