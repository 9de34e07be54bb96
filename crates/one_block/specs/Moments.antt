-- Moments in UTC, to a tenth of a second, and their texts.
use Rattle.std.specs.Prelude.{ℕ, ◌+◌, ◌*◌, ◌/◌, ◌%◌, ◌<◌, Bool, ◌&&◌, nat_lt, List, ◌∷◌, ◌++◌}
use Rattle.one_block.specs.declared.moments.CivilDay.{CivilDay}
use Rattle.one_block.specs.declared.moments.ClockTime.{ClockTime}
use Rattle.one_block.specs.declared.moments.Moment.{Moment}
use Rattle.one_block.specs.Calendar.{is_day, day_after, day_number}
use Rattle.one_block.specs.Numerals.{padded}

-- whether a clock shows the time
abbrev pub is_clock : ClockTime → Bool
is_clock c = nat_lt c.hour 24 && nat_lt c.minute 60 && nat_lt c.second 60 && nat_lt c.tenth 10

-- the time of day so many tenths of seconds after midnight
abbrev pub clock_of : ℕ → ClockTime
clock_of t = record { hour = t / 36_000; minute = t / 600 % 60; second = t / 10 % 60; tenth = t % 10 }

-- how many tenths of seconds a time comes after midnight
abbrev pub clock_tenths : ClockTime → ℕ
clock_tenths c = ((c.hour * 60 + c.minute) * 60 + c.second) * 10 + c.tenth

-- whether the calendar has the day and a clock shows the time
abbrev pub is_moment : Moment → Bool
is_moment m = is_day m.day && is_clock m.clock

-- the moment so many tenths of seconds after 1970 began: a day has 864,000 of them
abbrev pub moment_of : ℕ → Moment
moment_of t = record { day = day_after (t / 864_000); clock = clock_of (t % 864_000) }

-- how many tenths of seconds a moment comes after 1970 began
abbrev pub moment_tenths : Moment → ℕ
moment_tenths m = day_number m.day * 864_000 + clock_tenths m.clock

-- a number of tenths of seconds before the end of the year 9999
abbrev pub IsTimely : ℕ → Type 0
IsTimely t = t < 2_534_023_008_000

-- YYYYMMDD
abbrev pub day_text : CivilDay → List ℕ
day_text d = padded 4 d.year ++ (padded 2 d.month ++ padded 2 d.day)

-- HHMMSS.D
abbrev pub clock_text : ClockTime → List ℕ
clock_text c = padded 2 c.hour ++ (padded 2 c.minute ++ (padded 2 c.second ++ 46 ∷ padded 1 c.tenth))

-- YYYYMMDDTHHMMSS.D
abbrev pub moment_text : Moment → List ℕ
moment_text m = day_text m.day ++ 84 ∷ clock_text m.clock
