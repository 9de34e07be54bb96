-- What parsing a text of digits says of the text of a number.
use Rattle.std.proofs.Common.{not, arith, ◌≡◌, ◌≢◌, ◌<◌, ◌≤◌, ◌+◌, ◌-◌, ◌*◌, ◌^◌, cond, Bool, nat_le, [], ◌∷◌, zero, suc, inl, inr, ℕ, List, length, IfSome, IfNone, sym, ap, refl, ◌∙◌, true, false, ◌&&◌, nat_lt, Option, Some, None, get_or}
use Rattle.std.specs.Fmt.{decimal}
use Rattle.std.specs.Str.{all_ascii_digits}
use Rattle.std.specs.List.{list_all}
use Rattle.std.specs.Prelude.{slice_index, ◌==◌, option_and_then}
use Rattle.std.specs.Char.{digit_value, is_ascii_digit}
use Rattle.std.proofs.lemmas.Str.{digit_value_digit}
use Rattle.std.proofs.lemmas.Option.{cond_some}
use Rattle.std.proofs.lemmas.Bool.{lt-ltb, le-ltb, ltb-true, ne_eqb, and_left, and_right, and_parts, and_cases, eqb-false, ltb-false, not-true, eq-eqb, eqb-true, leb-true}
use Rattle.std.specs.Str.Parse.{AllDigits, digits_value, digits_value_after}
use Rattle.std.proofs.lemmas.Str.Parse.{IsNumeralModel, numerals_by_value, tells_digits, tells_all_ascii_digits, digit_at}
use Rattle.std.proofs.lemmas.Fmt.{decimal-digits_value, decimal_nonempty, first_decimal, decimal_digit, digits_decimal, digits_value-decimal}
use Rattle.block_record.specs.Number.{HasOtherForm, is_number_text, number_of, number_after}

own : IsNumeralModel (AllDigits 10) (digits_value 10)
own = numerals_by_value _ tells_digits

-- no number has another form
pub no_other_form : (n : ℕ) → n < 2 ^ 64 → HasOtherForm (decimal n) → ⊥
no_other_form n small (inl plus) =
    let within = digit_at (decimal n) 0 (digits_decimal own n small) (decimal_nonempty n small) in
    omega (arith, within)
no_other_form zero small (inr more) =
    let one : length (decimal 0) ≡ 1 = ap length (decimal_digit 0 (omega arith)) in
    omega (arith, one, more.1)
no_other_form (suc n) small (inr more) =
    omega (arith, first_decimal (suc n) (omega arith) small, more.0)

no_zero_first : (n : ℕ) → n < 2 ^ 64 → (slice_index (decimal n) 0 == 48 && nat_lt 1 (length (decimal n))) ≡ false
no_zero_first zero small =
    let one : length (decimal 0) ≡ 1 = ap length (decimal_digit 0 (omega arith)) in
    and_right _ _ (le-ltb 1 (length (decimal 0)) (omega (arith, one)))
no_zero_first (suc n) small = and_left _ _ (ne_eqb (slice_index (decimal (suc n)) 0) 48 (λ (e : slice_index (decimal (suc n)) 0 ≡ 48). omega (arith, first_decimal (suc n) (omega arith) small, e)))

digits : IsNumeralModel (λ ds. all_ascii_digits ds ≡ true) (digits_value 10)
digits = numerals_by_value _ tells_all_ascii_digits

digits_all : (l : List ℕ) → all_ascii_digits l ≡ list_all is_ascii_digit l
digits_all [] = refl
digits_all (x ∷ l) = ap (λ t. is_ascii_digit x && t) (digits_all l)

-- each byte of the text of a number is a digit
pub decimal_digits : (n : ℕ) → n < 2 ^ 64 → list_all is_ascii_digit (decimal n) ≡ true
decimal_digits n small = sym (digits_all (decimal n)) ∙ digits_decimal digits n small

-- the text of a number is read as it
pub number_of-decimal : (n : ℕ) → n < 2 ^ 64 → number_of (decimal n) ≡ Some n
unfolding number_of
number_of-decimal n small =
    let one : all_ascii_digits (decimal n) ≡ true = digits_decimal digits n small in
    let two : nat_lt 0 (length (decimal n)) ≡ true = lt-ltb _ _ (decimal_nonempty n small) in
    let three : (slice_index (decimal n) 0 == 48 && nat_lt 1 (length (decimal n))) ≡ false = no_zero_first n small in
    let value : digits_value 10 (decimal n) ≡ n = digits_value-decimal digits n small in
    let four : nat_lt n (2 ^ 64) ≡ true = lt-ltb _ _ small in
    rw (one, two, three, value, four) refl

-- a text that is read as a number is its text
pub decimal-number_of : (text : List ℕ) (n : ℕ) → number_of text ≡ Some n → (n < 2 ^ 64) × (text ≡ decimal n)
unfolding number_of
decimal-number_of text n e =
    let parts = cond_some (is_number_text text) (digits_value 10 text) n e in
    let tests : (((all_ascii_digits text && nat_lt 0 (length text)) && not (slice_index text 0 == 48 && nat_lt 1 (length text))) ≡ true) × (nat_lt (digits_value 10 text) (2 ^ 64) ≡ true) = and_parts _ _ parts.0 in
    let forms : ((all_ascii_digits text && nat_lt 0 (length text)) ≡ true) × (not (slice_index text 0 == 48 && nat_lt 1 (length text)) ≡ true) = and_parts _ _ tests.0 in
    let digit_tests : (all_ascii_digits text ≡ true) × (nat_lt 0 (length text) ≡ true) = and_parts _ _ forms.0 in
    let small : digits_value 10 text < 2 ^ 64 = ltb-true _ _ tests.1 in
    let some : 0 < length text = ltb-true _ _ digit_tests.1 in
    let plain : get_or text 0 0 ≡ 48 → length text ≡ 1 = λ z.
    elim (and_cases _ _ (not-true _ forms.1)) [ inl other ↦ absurd (eqb-false _ _ other z) | inr short ↦ omega (arith, ltb-false 1 (length text) short, some) ] in
    let back : decimal (digits_value 10 text) ≡ text = decimal-digits_value digits text digit_tests.0 some plain small in
    (omega (arith, small, parts.1), sym back ∙ ap decimal parts.1)

-- the answer of a call that reads a number
pub found_decimal : (text : List ℕ) (r : Option ℕ) → r ≡ number_of text → IfSome r (λ n. text ≡ decimal n)
found_decimal text (Some n) e = (decimal-number_of text n (sym e)).1
found_decimal text None e = tt

pub none_decimal : (text : List ℕ) (r : Option ℕ) → r ≡ number_of text → IfNone r ((n : ℕ) → n < 2 ^ 64 → text ≢ decimal n)
none_decimal text (Some n) e = tt
none_decimal text None e = λ n small is. let clash = e ∙ ap number_of is ∙ number_of-decimal n small in cc

-- more digits make no smaller number
le-digits_value_after : (n : ℕ) (ds : List ℕ) → n ≤ digits_value_after 10 n ds
le-digits_value_after n [] = omega arith
le-digits_value_after n (c ∷ cs) = omega (arith, le-digits_value_after (n * 10 + digit_value c) cs)

-- the value of digits after a number, where they are digits and it has 64 bits
abbrev value_after : ℕ → List ℕ → Option ℕ
value_after n text = cond (all_ascii_digits text && nat_lt (digits_value_after 10 n text) (2 ^ 64)) (Some (digits_value_after 10 n text)) None

-- one digit, and those after it
value_after-size : (n d v : ℕ) (cs : List ℕ) (fits : Bool) → nat_lt (n * 10 + d) (2 ^ 64) ≡ fits → d ≡ v → (n * 10 + d < 2 ^ 64 → number_after (n * 10 + d) cs ≡ value_after (n * 10 + d) cs)
    → option_and_then (λ m. number_after m cs) (cond fits (Some (n * 10 + d)) None) ≡ value_after (n * 10 + v) cs
value_after-size n d v cs true e same rest = rest (ltb-true _ _ e) ∙ ap (λ (k : ℕ). value_after (n * 10 + k) cs) same
value_after-size n d v cs false e same rest =
    let wide : nat_lt (digits_value_after 10 (n * 10 + v) cs) (2 ^ 64) ≡ false = le-ltb _ _ (omega (arith, ltb-false _ _ e, same, le-digits_value_after (n * 10 + v) cs)) in
    rw (and_right (all_ascii_digits cs) _ wide) refl

value_after-digit : (n c : ℕ) (cs : List ℕ) (digit : Bool) → is_ascii_digit c ≡ digit → (n * 10 + (c - 48) < 2 ^ 64 → number_after (n * 10 + (c - 48)) cs ≡ value_after (n * 10 + (c - 48)) cs)
    → option_and_then (λ m. number_after m cs) (cond (digit && nat_lt (n * 10 + (c - 48)) (2 ^ 64)) (Some (n * 10 + (c - 48))) None)
    ≡ cond (digit && all_ascii_digits cs && nat_lt (digits_value_after 10 (n * 10 + digit_value c) cs) (2 ^ 64)) (Some (digits_value_after 10 (n * 10 + digit_value c) cs)) None
value_after-digit n c cs false e rest = refl
value_after-digit n c cs true e rest =
    let m = and_parts (nat_le 48 c) (nat_le c 57) e in
    let same : c - 48 ≡ digit_value c = omega (arith, digit_value_digit c (leb-true 48 c m.0, leb-true c 57 m.1)) in
    value_after-size n (c - 48) (digit_value c) cs (nat_lt (n * 10 + (c - 48)) (2 ^ 64)) refl same rest

-- reading digit by digit gives that value
number_after-value : (n : ℕ) (text : List ℕ) → n < 2 ^ 64 → number_after n text ≡ value_after n text
number_after-value n [] small = let fits : nat_lt n (2 ^ 64) ≡ true = lt-ltb _ _ small in rw fits refl
number_after-value n (c ∷ cs) small = value_after-digit n c cs (is_ascii_digit c) refl (λ less. number_after-value (n * 10 + (c - 48)) cs less)

-- a text with a first byte, and no zero before more, is read digit by digit
pub number_of-plain : (text : List ℕ) → 0 < length text → (slice_index text 0 ≡ 48 → length text ≤ 1) → number_after 0 text ≡ number_of text
unfolding number_of
number_of-plain text some plain =
    let one : nat_lt 0 (length text) ≡ true = lt-ltb _ _ some in
    let two : (slice_index text 0 == 48 && nat_lt 1 (length text)) ≡ false = no_zero (slice_index text 0 == 48) refl in
    number_after-value 0 text (omega arith) ∙ same (all_ascii_digits text) (nat_lt 0 (length text)) (slice_index text 0 == 48 && nat_lt 1 (length text)) one two
  where
    no_zero : (first : Bool) → (slice_index text 0 == 48) ≡ first → (first && nat_lt 1 (length text)) ≡ false
    no_zero true e = le-ltb _ _ (plain (eqb-true _ _ e))
    no_zero false e = refl

    same : (a b d : Bool) → b ≡ true → d ≡ false → cond (a && nat_lt (digits_value 10 text) (2 ^ 64)) (Some (digits_value 10 text)) None
        ≡ cond (a && b && not d && nat_lt (digits_value 10 text) (2 ^ 64)) (Some (digits_value 10 text)) None
    same true b d eb ed = rw (eb, ed) refl
    same false b d eb ed = refl

-- no text without a byte, and none with a zero before more, is a number
pub number_of-empty : (text : List ℕ) → length text ≡ 0 → None ≡ number_of text
unfolding number_of
number_of-empty text none =
    let no : nat_lt 0 (length text) ≡ false = le-ltb _ _ (omega arith) in
    rw (no, and_right (all_ascii_digits text) false refl) refl

pub number_of-zero : (text : List ℕ) → (slice_index text 0 ≡ 48) × (1 < length text) → None ≡ number_of text
unfolding number_of
number_of-zero text front = by_digits (all_ascii_digits text && nat_lt 0 (length text)) (slice_index text 0 == 48) (nat_lt 1 (length text)) (eq-eqb _ _ front.0) (lt-ltb _ _ front.1)
  where
    by_digits : (a b d : Bool) → b ≡ true → d ≡ true → None ≡ cond (a && not (b && d) && nat_lt (digits_value 10 text) (2 ^ 64)) (Some (digits_value 10 text)) None
    by_digits true b d eb ed = rw (eb, ed) refl
    by_digits false b d eb ed = refl
