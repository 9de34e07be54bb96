-- Numbers that zeros fill: what is written is read, and what is read is what is written.
use Rattle.std.proofs.Common.{◌≡◌, ℕ, zero, suc, ◌-◌, ◌^◌, ◌<◌, ◌≤◌, Bool, true, false, ◌&&◌, cond, eqb, nat_lt, List, [], ◌∷◌, ◌++◌, length, replicate, Option, None, Some, inl, inr, refl, sym, ap, ◌∙◌, arith}
use Rattle.std.specs.Fmt.{decimal}
use Rattle.std.proofs.lemmas.Bool.{and_parts, cases_lt, ltb-true, ltb-false, lt-ltb, le-ltb, eqb-true, eq-eqb}
use Rattle.std.proofs.lemmas.List.{length-append, length-replicate}
use Rattle.std.proofs.lemmas.Fmt.{decimal_nonempty}
use Rattle.block_record.specs.Number.{HasOtherForm, number_of}
use Rattle.block_record.proofs.public.NumberTexts.{no_other_form, number_of-decimal, decimal-number_of}
use Rattle.one_block.specs.Numerals.{padded, without_zeros, filled_number}

-- what was left out are zeros
pub record IsFilled (text : List ℕ) : Type 0 where
  pub shorter : length (without_zeros text) ≤ length text
  pub zeros : text ≡ replicate (length text - length (without_zeros text)) 48 ++ without_zeros text

whole_filled : (text : List ℕ) → text ≡ replicate (length text - length text) 48 ++ text
whole_filled text = let none : length text - length text ≡ 0 = omega arith in rw none refl

filled_by : (b : ℕ) (rest : List ℕ) → IsFilled rest → (t : Bool) → (eqb b 48 && nat_lt 0 (length rest)) ≡ t → IsFilled (b ∷ rest)
filled_by b rest more false is = record { shorter = rw is (omega arith); zeros = rw is (whole_filled (b ∷ rest)) }
filled_by b rest more true is =
    let both = and_parts (eqb b 48) (nat_lt 0 (length rest)) is in
    let zero_first : b ≡ 48 = eqb-true b 48 both.0 in
    let shorter = more.shorter in
    let one_more : suc (length rest) - length (without_zeros rest) ≡ suc (length rest - length (without_zeros rest)) = omega (arith, shorter) in
    record {
      shorter = rw is (omega (arith, shorter));
      zeros = rw is (rw (one_more, zero_first) (ap (λ (l : List ℕ). 48 ∷ l) more.zeros));
    }

pub is_filled : (text : List ℕ) → IsFilled text
is_filled [] = record { shorter = omega arith; zeros = refl }
is_filled (b ∷ rest) = filled_by b rest (is_filled rest) (eqb b 48 && nat_lt 0 (length rest)) refl

-- zeros before more are left out
without_zeros-replicate : (k : ℕ) (text : List ℕ) → 0 < length text → without_zeros (replicate k 48 ++ text) ≡ without_zeros text
without_zeros-replicate zero text some = refl
without_zeros-replicate (suc k) text some =
    let test : (nat_lt 0 (length (replicate k 48 ++ text))) ≡ true = lt-ltb _ _ (omega (arith, some, length-append (replicate k 48) text)) in
    rw test (without_zeros-replicate k text some)

-- and a text that begins as a number does has none to leave out
without_zeros-plain : (text : List ℕ) → (HasOtherForm text → ⊥) → without_zeros text ≡ text
without_zeros-plain [] plain = refl
without_zeros-plain (b ∷ rest) plain = by_test (eqb b 48 && nat_lt 0 (length rest)) refl
  where
    by_test : (t : Bool) → (eqb b 48 && nat_lt 0 (length rest)) ≡ t → cond t (without_zeros rest) (b ∷ rest) ≡ b ∷ rest
    by_test false is = refl
    by_test true is =
        let both = and_parts (eqb b 48) (nat_lt 0 (length rest)) is in
        absurd (plain (inr (eqb-true b 48 both.0, (let some = ltb-true 0 (length rest) both.1 in omega (arith, some)))))

without_zeros-decimal : (n : ℕ) → n < 2 ^ 64 → without_zeros (decimal n) ≡ decimal n
without_zeros-decimal n small = without_zeros-plain (decimal n) (no_other_form n small)

-- ---- how long a filled number is

pub length-padded : (width n : ℕ) → length (decimal n) ≤ width → length (padded width n) ≡ width
length-padded width n short = omega (arith, length-append (replicate (width - length (decimal n)) 48) (decimal n), length-replicate {A = ℕ} (width - length (decimal n)) 48)

padded_long : (width n : ℕ) → width ≤ length (decimal n) → padded width n ≡ decimal n
padded_long width n long = let none : width - length (decimal n) ≡ 0 = omega arith in rw none refl

-- ---- both ways

again_of : (width n : ℕ) (text : List ℕ) → width ≤ length text → number_of (without_zeros text) ≡ Some n → number_of text ≡ Some n → filled_number width text ≡ Some n
again_of width n text long bare whole =
    let enough : nat_lt (length text) width ≡ false = le-ltb _ _ long in
    rw enough (by_test (eqb (length text) width))
  where
    by_test : (t : Bool) → cond t (number_of (without_zeros text)) (number_of text) ≡ Some n
    by_test true = bare
    by_test false = whole

-- a number is read of its text
pub filled_number-padded : (width n : ℕ) → n < 2 ^ 64 → filled_number width (padded width n) ≡ Some n
filled_number-padded width n small =
    elim (cases_lt (length (decimal n)) width) [
      | inl short ↦ (
          let enough : nat_lt (length (padded width n)) width ≡ false = le-ltb _ _ (omega (arith, length-padded width n (omega (arith, short)))) in
          let just : eqb (length (padded width n)) width ≡ true = eq-eqb _ _ (length-padded width n (omega (arith, short))) in
          let bare : without_zeros (padded width n) ≡ decimal n = without_zeros-replicate (width - length (decimal n)) (decimal n) (decimal_nonempty n small) ∙ without_zeros-decimal n small in
          rw (enough, just) (ap number_of bare ∙ number_of-decimal n small))
      | inr long ↦ (
          let same = padded_long width n long in
          rw same (again_of width n (decimal n) long (ap number_of (without_zeros-decimal n small) ∙ number_of-decimal n small) (number_of-decimal n small)))
    ]

-- a text that is read as a number is its text
pub padded-filled_number : (width : ℕ) (text : List ℕ) (n : ℕ) → filled_number width text ≡ Some n → (n < 2 ^ 64) × (text ≡ padded width n)
padded-filled_number width text n e = short (nat_lt (length text) width) refl e
  where
    filled : length text ≡ width → number_of (without_zeros text) ≡ Some n → (n < 2 ^ 64) × (text ≡ padded width n)
    filled just is =
        let d = decimal-number_of (without_zeros text) n is in
        let made : text ≡ replicate (width - length (decimal n)) 48 ++ decimal n = rw (← d.1, ← just) (is_filled text).zeros in
        (d.0, made)

    longer : width ≤ length text → number_of text ≡ Some n → (n < 2 ^ 64) × (text ≡ padded width n)
    longer long is =
        let d = decimal-number_of text n is in
        let e = d.1 in
        let most : width ≤ length (decimal n) = rw (← e) long in
        (d.0, e ∙ sym (padded_long width n most))

    just : width ≤ length text → (t : Bool) → eqb (length text) width ≡ t → cond t (number_of (without_zeros text)) (number_of text) ≡ Some n → (n < 2 ^ 64) × (text ≡ padded width n)
    just long true is e = filled (eqb-true _ _ is) e
    just long false is e = longer long e

    short : (t : Bool) → nat_lt (length text) width ≡ t → (let none : Option ℕ = None in cond t none (cond (eqb (length text) width) (number_of (without_zeros text)) (number_of text))) ≡ Some n → (n < 2 ^ 64) × (text ≡ padded width n)
    short true is e = absurd (cc e)
    short false is e = just (ltb-false _ _ is) (eqb (length text) width) refl e
