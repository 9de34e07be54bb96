-- The days of the Gregorian calendar, one after another from 1 January 1970.
use Rattle.std.specs.Prelude.{ℕ, zero, suc, ◌+◌, Bool, ◌&&◌, nat_lt, nat_le, if◌then◌else◌, pos, unsigned_abs}
use Rattle.jiff_core.specs.Calendar.{days_in_month, days_from_civil}
use Rattle.one_block.specs.declared.moments.CivilDay.{CivilDay}

-- whether the calendar has the day, in the years 1970 to 9999
abbrev pub is_day : CivilDay → Bool
is_day d =
    nat_le 1970 d.year && nat_le d.year 9999 && nat_le 1 d.month && nat_le d.month 12 && nat_le 1 d.day
    && nat_le d.day (days_in_month (pos d.year) d.month)

-- the day after a day: in its month, else in its year, else in the next
abbrev pub next_day : CivilDay → CivilDay
next_day d =
    if nat_lt d.day (days_in_month (pos d.year) d.month) then record { year = d.year; month = d.month; day = d.day + 1 }
    else (if nat_lt d.month 12 then record { year = d.year; month = d.month + 1; day = 1 }
    else record { year = d.year + 1; month = 1; day = 1 })

-- the day so many days after 1 January 1970
unfoldable pub day_after : ℕ → CivilDay
day_after zero = record { year = 1970; month = 1; day = 1 }
day_after (suc n) = next_day (day_after n)

-- how many days a day comes after 1 January 1970, by the days of the years and the months before it
unfoldable pub day_number : CivilDay → ℕ
day_number d = unsigned_abs (days_from_civil (pos d.year) d.month d.day)
