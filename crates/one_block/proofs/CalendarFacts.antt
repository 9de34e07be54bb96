-- Days one after another, and the number of a day.
use Rattle.std.proofs.Common.{◌≡◌, ℕ, zero, suc, ◌+◌, ◌<◌, ◌≤◌, Bool, true, false, ◌&&◌, cond, nat_lt, nat_le, inl, inr, refl, sym, ap, subst, ◌∙◌, arith, ℤ, pos, negsuc, ◌≤ℤ◌, unsigned_abs, to_z, of_z}
use Rattle.std.specs.Int.{w8, w16, w32}
use Rattle.std.proofs.lemmas.Int.{to_z_pos}
use Rattle.std.proofs.lemmas.Bool.{and_parts, ltb-true, ltb-false, leb-true, le-leb}
use Rattle.jiff_core.specs.declared.civil.date.Date.{Date}
use Rattle.jiff_core.specs.Calendar.{days_in_month, days_from_civil}
use Rattle.jiff_core.specs.Date.{epoch_day}
use Rattle.jiff_core.proofs.SignedLemmas.{signed_arith, back_small}
use Rattle.jiff_core.proofs.CalendarLemmas.{days_in_month_bounds}
use Rattle.jiff_core.proofs.DateLemmas.{IsEarlier, epoch_day-lt, epoch_day_range, cases_date, epoch_day_injective, epoch_day_same, days_from_civil-day, days_from_civil-next_month, days_from_civil-next_year, days_from_civil-max}
use Rattle.one_block.specs.declared.moments.CivilDay.{CivilDay}
use Rattle.one_block.specs.Calendar.{is_day, next_day, day_after, day_number}

-- what the test of a day says
pub record IsGood (d : CivilDay) : Type 0 where
  pub year_low : 1970 ≤ d.year
  pub year_high : d.year ≤ 9999
  pub month_low : 1 ≤ d.month
  pub month_high : d.month ≤ 12
  pub day_low : 1 ≤ d.day
  pub day_high : d.day ≤ days_in_month (pos d.year) d.month

pub is_day-good : (d : CivilDay) → is_day d ≡ true → IsGood d
is_day-good d e =
    let a = and_parts (nat_le 1970 d.year && nat_le d.year 9999 && nat_le 1 d.month && nat_le d.month 12 && nat_le 1 d.day) (nat_le d.day (days_in_month (pos d.year) d.month)) e in
    let b = and_parts (nat_le 1970 d.year && nat_le d.year 9999 && nat_le 1 d.month && nat_le d.month 12) (nat_le 1 d.day) a.0 in
    let c = and_parts (nat_le 1970 d.year && nat_le d.year 9999 && nat_le 1 d.month) (nat_le d.month 12) b.0 in
    let f = and_parts (nat_le 1970 d.year && nat_le d.year 9999) (nat_le 1 d.month) c.0 in
    let g = and_parts (nat_le 1970 d.year) (nat_le d.year 9999) f.0 in
    record {
      year_low = leb-true _ _ g.0;
      year_high = leb-true _ _ g.1;
      month_low = leb-true _ _ f.1;
      month_high = leb-true _ _ c.1;
      day_low = leb-true _ _ b.1;
      day_high = leb-true _ _ a.1;
    }

pub good-is_day : (d : CivilDay) → IsGood d → is_day d ≡ true
good-is_day d g =
    let a = le-leb _ _ g.year_low in
    let b = le-leb _ _ g.year_high in
    let c = le-leb _ _ g.month_low in
    let e = le-leb _ _ g.month_high in
    let f = le-leb _ _ g.day_low in
    let h = le-leb _ _ g.day_high in
    rw (a, b, c, e, f, h) refl

-- the same as a date of the calendar's crate
date_of : (d : CivilDay) → IsGood d → Date
date_of d g = record {
  year = pos d.year;
  month = d.month;
  day = d.day;
  year_in = let low = g.year_low in let high = g.year_high in omega (arith, signed_arith);
  month_in = (g.month_low, g.month_high);
  day_in = (g.day_low, g.day_high);
}

-- a day and how many days it comes after 1 January 1970
pub record IsNth (n : ℕ) (d : CivilDay) : Type 0 where
  pub good : IsGood d
  pub number : days_from_civil (pos d.year) d.month d.day ≡ pos n

first_number : days_from_civil (pos 1970) 1 1 ≡ pos 0
unfolding days_from_civil
first_number = omega (arith, signed_arith)

first_nth : IsNth 0 (record { year = 1970; month = 1; day = 1 })
first_nth = record {
  good = record { year_low = omega arith; year_high = omega arith; month_low = omega arith; month_high = omega arith; day_low = omega arith; day_high = omega (arith, days_in_month_bounds (pos 1970) 1) };
  number = first_number;
}

next_in_month : (n y m d : ℕ) → d < days_in_month (pos y) m → IsNth n (record { year = y; month = m; day = d }) → IsNth (suc n) (record { year = y; month = m; day = d + 1 })
next_in_month n y m d less h =
    let g = h.good in
    let low = g.day_low in
    record {
      good = record { year_low = g.year_low; year_high = g.year_high; month_low = g.month_low; month_high = g.month_high; day_low = omega arith; day_high = omega (arith, less) };
      number = let e = h.number in omega (arith, signed_arith, days_from_civil-day (pos y) m d (d + 1) low (omega arith));
    }

next_in_year : (n y m d : ℕ) → d ≡ days_in_month (pos y) m → m < 12 → IsNth n (record { year = y; month = m; day = d }) → IsNth (suc n) (record { year = y; month = m + 1; day = 1 })
next_in_year n y m d last less h =
    let g = h.good in
    let low = g.month_low in
    record {
      good = record { year_low = g.year_low; year_high = g.year_high; month_low = omega arith; month_high = omega (arith, less); day_low = omega arith; day_high = omega (arith, days_in_month_bounds (pos y) (m + 1)) };
      number = let e = h.number in omega (arith, signed_arith, days_from_civil-next_month (pos y) m d low last);
    }

next_in_century : (n y : ℕ) → n < 2_932_896 → IsNth n (record { year = y; month = 12; day = 31 }) → IsNth (suc n) (record { year = y + 1; month = 1; day = 1 })
next_in_century n y small h =
    let g = h.good in
    let low = g.year_low in
    let high = g.year_high in
    let e = h.number in
    let not_last : y ≡ 9999 → ⊥ = λ is. (let last : days_from_civil (pos 9999) 12 31 ≡ pos n = rw is at e in omega (arith, signed_arith, days_from_civil-max)) in
    record {
      good = record { year_low = omega arith; year_high = omega (arith, not_last); month_low = omega arith; month_high = omega arith; day_low = omega arith; day_high = omega (arith, days_in_month_bounds (pos (y + 1)) 1) };
      number = omega (arith, signed_arith, days_from_civil-next_year (pos y) (pos (y + 1)) (omega (arith, signed_arith)) (omega (arith, signed_arith)));
    }

next_nth : (n : ℕ) (d : CivilDay) → n < 2_932_896 → IsNth n d → IsNth (suc n) (next_day d)
next_nth n d small h = in_month (nat_lt d.day (days_in_month (pos d.year) d.month)) refl
  where
    g : IsGood d
    g = h.good

    in_year : (t : Bool) → nat_lt d.month 12 ≡ t → d.day ≡ days_in_month (pos d.year) d.month
        → (let later : CivilDay = record { year = d.year; month = d.month + 1; day = 1 } in let new : CivilDay = record { year = d.year + 1; month = 1; day = 1 } in IsNth (suc n) (cond t later new))
    in_year true is last = next_in_year n d.year d.month d.day last (ltb-true _ _ is) h
    in_year false is last =
        let less : 12 ≤ d.month = ltb-false _ _ is in
        let high = g.month_high in
        let month : d.month ≡ 12 = omega arith in
        let day : d.day ≡ 31 = rw month at last in
        let at_end : IsNth n (record { year = d.year; month = 12; day = 31 }) = subst (IsNth n) (λ i. record { year = d.year; month = month i; day = day i }) h in
        next_in_century n d.year small at_end

    in_month : (t : Bool) → nat_lt d.day (days_in_month (pos d.year) d.month) ≡ t
        → (let here : CivilDay = record { year = d.year; month = d.month; day = d.day + 1 } in let later : CivilDay = record { year = d.year; month = d.month + 1; day = 1 } in let new : CivilDay = record { year = d.year + 1; month = 1; day = 1 } in IsNth (suc n) (cond t here (cond (nat_lt d.month 12) later new)))
    in_month true is = next_in_month n d.year d.month d.day (ltb-true _ _ is) h
    in_month false is =
        let least : days_in_month (pos d.year) d.month ≤ d.day = ltb-false _ _ is in
        let most = g.day_high in
        in_year (nat_lt d.month 12) refl (omega arith)

-- the days that come one after another are numbered so
pub nth : (n : ℕ) → n ≤ 2_932_896 → IsNth n (day_after n)
unfolding day_after
nth zero small = first_nth
nth (suc n) small = next_nth n (day_after n) (omega arith) (nth n (omega arith))

-- two days with one number are one
pub nth_is : (n : ℕ) (a b : CivilDay) → IsNth n a → IsNth n b → a ≡ b
unfolding date_of
nth_is n a b ha hb =
    let same = epoch_day_injective (date_of a ha.good) (date_of b hb.good) (ha.number ∙ sym hb.number) in
    λ i. record { year = unsigned_abs (same.0 i); month = same.1 i; day = same.2 i }

-- a date has the parts of a day
pub record IsSame (date : Date) (d : CivilDay) : Type 0 where
  pub year : date.year ≡ pos d.year
  pub month : date.month ≡ d.month
  pub day : date.day ≡ d.day

-- the date with a number is the day so many days after the first
pub date_is : (n : ℕ) (date : Date) → n ≤ 2_932_896 → epoch_day date ≡ pos n → IsSame date (day_after n)
unfolding date_of
date_is n date small e =
    let h = nth n small in
    let same = epoch_day_injective date (date_of (day_after n) h.good) (e ∙ sym h.number) in
    record { year = same.0; month = same.1; day = same.2 }

-- a year is cast without loss
pub year_back : (z : ℤ) (y : ℕ) → z ≡ pos y → y ≤ 9999 → to_z w16 (of_z w16 z) ≡ pos y
year_back z y e small = rw e (back_small w16 (pos y) (omega arith))

-- and so is the number of a day
pub number_back : (z : ℤ) (n : ℕ) → z ≡ pos n → n ≤ 2_932_896 → to_z w32 (of_z w32 z) ≡ pos n
number_back z n e small = rw e (back_small w32 (pos n) (omega arith))

not_before_first : (d : CivilDay) (g : IsGood d) → pos 0 ≤ℤ days_from_civil (pos d.year) d.month d.day
unfolding date_of
not_before_first d g =
    let first : Date = date_of (record { year = 1970; month = 1; day = 1 }) first_nth.good in
    let at_first : epoch_day first ≡ pos 0 = first_number in
    elim (cases_date first (date_of d g)) [
      | inl before ↦ omega (arith, signed_arith, epoch_day-lt first (date_of d g) before, at_first)
      | inr (inl after) ↦ absurd (none after)
      | inr (inr same) ↦ let e = epoch_day_same first (date_of d g) same.0 same.1 same.2 in omega (arith, signed_arith, at_first, e)
    ]
  where
    none : IsEarlier (date_of d g) (date_of (record { year = 1970; month = 1; day = 1 }) first_nth.good) → ⊥
    none (inl year) = let low = g.year_low in omega (arith, signed_arith, year, low)
    none (inr (year, inl month)) = let low = g.month_low in omega (arith, month, low)
    none (inr (year, inr day)) = let low = g.day_low in omega (arith, day.1, low)

not_negative : (z : ℤ) (most : ℕ) → pos 0 ≤ℤ z → z ≤ℤ pos most → (z ≡ pos (unsigned_abs z)) × (unsigned_abs z ≤ most)
not_negative (pos n) most low high = (refl, omega (arith, signed_arith))
not_negative (negsuc n) most low high = absurd (omega (arith, signed_arith))

-- each day of the calendar stands at its number
pub number_nth : (d : CivilDay) → IsGood d → IsNth (day_number d) d × (day_number d ≤ 2_932_896)
unfolding day_number date_of
number_nth d g =
    let range = epoch_day_range (date_of d g) in
    let n = not_negative (days_from_civil (pos d.year) d.month d.day) 2_932_896 (not_before_first d g) range.1 in
    (record { good = g; number = n.0 }, n.1)

-- the day with a number has that number, and each day is the one with its number
pub day_number-day_after : (n : ℕ) → n ≤ 2_932_896 → day_number (day_after n) ≡ n
unfolding day_number
day_number-day_after n small = ap unsigned_abs (nth n small).number

pub day_after-day_number : (d : CivilDay) → IsGood d → day_after (day_number d) ≡ d
day_after-day_number d g =
    let h = number_nth d g in
    nth_is (day_number d) (day_after (day_number d)) d (nth (day_number d) h.1) h.0

-- the number of the date that is made of a day, as it is cast
pub number_told : (d : CivilDay) (date : Date) (z : ℤ) → IsGood d → (date.year ≡ to_z w16 d.year) × (pos date.month ≡ to_z w8 d.month) × (pos date.day ≡ to_z w8 d.day) → z ≡ epoch_day date → to_z w32 (of_z w32 z) ≡ pos (day_number d)
number_told d date z g made told =
    let most = days_in_month_bounds (pos d.year) d.month in
    let day_high = g.day_high in
    let month_high = g.month_high in
    let year_high = g.year_high in
    let year : date.year ≡ pos d.year = made.0 ∙ to_z_pos w16 d.year (omega arith) in
    let month : date.month ≡ d.month = ap unsigned_abs (made.1 ∙ to_z_pos w8 d.month (omega arith)) in
    let day : date.day ≡ d.day = ap unsigned_abs (made.2 ∙ to_z_pos w8 d.day (omega arith)) in
    let h = number_nth d g in
    let e : days_from_civil date.year date.month date.day ≡ days_from_civil (pos d.year) d.month d.day = rw (year, month, day) refl in
    number_back z (day_number d) (told ∙ e ∙ h.0.number) h.1
