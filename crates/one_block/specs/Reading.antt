-- The fields of a moment's text, read one after another.
use Rattle.std.specs.Prelude.{ℕ, ◌==◌, ◌&&◌, nat_lt, List, [], ◌∷◌, length, take, drop, Option, None, Some, if◌then◌else◌}
use Rattle.std.specs.Option.{option_map}
use Rattle.one_block.specs.declared.moments.CivilDay.{CivilDay}
use Rattle.one_block.specs.declared.moments.ClockTime.{ClockTime}
use Rattle.one_block.specs.declared.moments.Moment.{Moment}
use Rattle.one_block.specs.Moments.{is_moment, moment_tenths}
use Rattle.one_block.specs.Numerals.{filled_number}

infixl 10 ◌>>=◌
abbrev pub ◌>>=◌ : {A B : Type 0} → Option A → (A → Option B) → Option B
None >>= f = None
(Some x) >>= f = f x

-- a field at the front of some bytes: what it is, and the bytes after it; none where it is cut or bad
abbrev pub Field : Type 0 → Type 0
Field A = List ℕ → Option (A × List ℕ)

-- a number of just so many digits
abbrev pub digits_at : ℕ → Field ℕ
digits_at width text =
    if nat_lt (length text) width then None
    else option_map (λ n. (n, drop width text)) (filled_number width (take width text))

-- what follows this byte
abbrev pub byte_at : ℕ → List ℕ → Option (List ℕ)
byte_at b [] = None
byte_at b (x ∷ rest) = if x == b then Some rest else None

-- YYYYMMDD
unfoldable pub day_at : Field CivilDay
day_at text = do
  year ← digits_at 4 text
  month ← digits_at 2 year.1
  day ← digits_at 2 month.1
  Some (record { year = year.0; month = month.0; day = day.0 }, day.1)

-- HHMMSS.D
unfoldable pub clock_at : Field ClockTime
clock_at text = do
  hour ← digits_at 2 text
  minute ← digits_at 2 hour.1
  second ← digits_at 2 minute.1
  rest ← byte_at 46 second.1
  tenth ← digits_at 1 rest
  Some (record { hour = hour.0; minute = minute.0; second = second.0; tenth = tenth.0 }, tenth.1)

-- the moment that a text YYYYMMDDTHHMMSS.D is, where the calendar has it
unfoldable pub moment_named : List ℕ → Option Moment
moment_named text = do
  day ← day_at text
  rest ← byte_at 84 day.1
  clock ← clock_at rest
  let m : Moment = record { day = day.0; clock = clock.0 } in
      if length clock.1 == 0 && is_moment m then Some m else None

-- the tenths of seconds from 1970 on to the moment that a text is
abbrev pub tenths_named : List ℕ → Option ℕ
tenths_named text = option_map moment_tenths (moment_named text)
