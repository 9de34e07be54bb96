-- The text of a moment is read as the moment, and what is read is its text.
use Rattle.std.proofs.Common.{◌≡◌, ℕ, ◌+◌, ◌*◌, ◌/◌, ◌%◌, ◌^◌, ◌<◌, ◌≤◌, Bool, true, false, ◌&&◌, cond, eqb, nat_lt, List, [], ◌∷◌, ◌++◌, length, take, drop, Option, None, Some, refl, sym, ap, subst, ◌∙◌, pos, arith, append_assoc}
use Rattle.std.specs.Option.{option_map}
use Rattle.std.proofs.lemmas.Bool.{and_parts, ltb-true, lt-ltb, le-ltb, eqb-true, eq-eqb}
use Rattle.std.proofs.lemmas.List.{take_at, drop_at, take-append-drop, length-append, nil_from_length, append-nil}
use Rattle.std.proofs.lemmas.Fmt.{length-decimal-le}
use Rattle.jiff_core.proofs.CalendarLemmas.{days_in_month_bounds}
use Rattle.one_block.specs.declared.moments.CivilDay.{CivilDay}
use Rattle.one_block.specs.declared.moments.ClockTime.{ClockTime}
use Rattle.one_block.specs.declared.moments.Moment.{Moment}
use Rattle.one_block.specs.Calendar.{is_day, day_after, day_number}
use Rattle.one_block.specs.Moments.{is_clock, clock_of, clock_tenths, is_moment, moment_of, moment_tenths, IsTimely, day_text, clock_text, moment_text}
use Rattle.one_block.specs.Numerals.{padded, filled_number}
use Rattle.one_block.specs.Reading.{digits_at, byte_at, day_at, clock_at, moment_named, tenths_named, ◌>>=◌}
use Rattle.one_block.proofs.CalendarFacts.{IsGood, is_day-good, good-is_day, nth, number_nth, day_number-day_after, day_after-day_number}
use Rattle.one_block.proofs.public.OptionFacts.{some_is}
use Rattle.one_block.proofs.public.NumeralFacts.{length-padded, filled_number-padded, padded-filled_number}

-- ---- one field

-- a number of a few digits at the front
digits_again : (width n : ℕ) (rest : List ℕ) → 0 < width → n < 10 ^ width → n < 2 ^ 64 → digits_at width (padded width n ++ rest) ≡ Some (n, rest)
digits_again width n rest some few small =
    let len = length-padded width n (length-decimal-le width n some few small) in
    let enough : nat_lt (length (padded width n ++ rest)) width ≡ false = le-ltb _ _ (omega (arith, length-append (padded width n) rest, len)) in
    rw (enough, take_at (padded width n) rest width len, drop_at (padded width n) rest width len, filled_number-padded width n small) refl

byte_again : (b : ℕ) (rest : List ℕ) → byte_at b (b ∷ rest) ≡ Some rest
byte_again b rest = let same = eq-eqb b b refl in rw same refl

-- what a field took from the front, which has this text, and what it left
digits_take : (width : ℕ) (text : List ℕ) (x : ℕ × List ℕ) → digits_at width text ≡ Some x → text ≡ padded width x.0 ++ x.1
digits_take width text x e = enough (nat_lt (length text) width) refl e
  where
    number : (o : Option ℕ) → filled_number width (take width text) ≡ o → option_map (λ (n : ℕ). (n, drop width text)) o ≡ Some x → text ≡ padded width x.0 ++ x.1
    number None is e = absurd (cc e)
    number (Some n) is e =
        let same : (n, drop width text) ≡ x = some_is _ _ e in
        let front = (padded-filled_number width (take width text) n is).1 in
        subst (λ (y : ℕ × List ℕ). text ≡ padded width y.0 ++ y.1) same (sym (take-append-drop width text) ∙ ap (λ (l : List ℕ). l ++ drop width text) front)

    enough : (t : Bool) → nat_lt (length text) width ≡ t → (let none : Option (ℕ × List ℕ) = None in cond t none (option_map (λ (n : ℕ). (n, drop width text)) (filled_number width (take width text)))) ≡ Some x → text ≡ padded width x.0 ++ x.1
    enough true is e = absurd (cc e)
    enough false is e = number (filled_number width (take width text)) refl e

byte_take : (b : ℕ) (text rest : List ℕ) → byte_at b text ≡ Some rest → text ≡ b ∷ rest
byte_take b [] rest e = absurd (cc e)
byte_take b (x ∷ more) rest e = by_test (eqb x b) refl e
  where
    by_test : (t : Bool) → eqb x b ≡ t → (let none : Option (List ℕ) = None in cond t (Some more) none) ≡ Some rest → x ∷ more ≡ b ∷ rest
    by_test false is e = absurd (cc e)
    by_test true is e =
        let first = eqb-true x b is in
        let same : more ≡ rest = some_is more rest e in
        rw (first, same) refl

-- ---- one step after another

pub step_is : {A B : Type 0} (o : Option A) (x : A) (f : A → Option B) → o ≡ Some x → (o >>= f) ≡ f x
step_is o x f e = ap (λ o. o >>= f) e

pub step_took : {A B : Type 0} (o : Option A) (f : A → Option B) (y : B) → (o >>= f) ≡ Some y → (x : A) × ((o ≡ Some x) × (f x ≡ Some y))
step_took None f y e = absurd (cc e)
step_took (Some x) f y e = (x, (refl, e))

-- ---- days

abbrev with_day : ℕ → ℕ → ℕ × List ℕ → Option (CivilDay × List ℕ)
with_day year month day = Some (record { year = year; month = month; day = day.0 }, day.1)

abbrev with_month : ℕ → ℕ × List ℕ → Option (CivilDay × List ℕ)
with_month year month = digits_at 2 month.1 >>= with_day year month.0

abbrev with_year : ℕ × List ℕ → Option (CivilDay × List ℕ)
with_year year = digits_at 2 year.1 >>= with_month year.0

day_again : (d : CivilDay) (rest : List ℕ) → IsGood d → day_at (day_text d ++ rest) ≡ Some (d, rest)
unfolding day_at
day_again d rest g =
    let most = days_in_month_bounds (pos d.year) d.month in
    let year_high = g.year_high in
    let month_high = g.month_high in
    let day_high = g.day_high in
    let r2 : List ℕ = padded 2 d.day ++ rest in
    let r1 : List ℕ = padded 2 d.month ++ r2 in
    let apart : day_text d ++ rest ≡ padded 4 d.year ++ r1 = append_assoc (padded 4 d.year) (padded 2 d.month ++ padded 2 d.day) rest ∙ ap (λ (l : List ℕ). padded 4 d.year ++ l) (append_assoc (padded 2 d.month) (padded 2 d.day) rest) in
    ap (λ (l : List ℕ). digits_at 4 l >>= with_year) apart
    ∙ step_is (digits_at 4 (padded 4 d.year ++ r1)) (d.year, r1) with_year (digits_again 4 d.year r1 (omega arith) (omega arith) (omega arith))
    ∙ step_is (digits_at 2 r1) (d.month, r2) (with_month d.year) (digits_again 2 d.month r2 (omega arith) (omega arith) (omega arith))
    ∙ step_is (digits_at 2 r2) (d.day, rest) (with_day d.year d.month) (digits_again 2 d.day rest (omega arith) (omega arith) (omega arith))

day_take : (text : List ℕ) (x : CivilDay × List ℕ) → day_at text ≡ Some x → text ≡ day_text x.0 ++ x.1
unfolding day_at
day_take text x e =
    let year = step_took (digits_at 4 text) with_year x e in
    let month = step_took (digits_at 2 year.0.1) (with_month year.0.0) x year.1.1 in
    let day = step_took (digits_at 2 month.0.1) (with_day year.0.0 month.0.0) x month.1.1 in
    let made : CivilDay × List ℕ = (record { year = year.0.0; month = month.0.0; day = day.0.0 }, day.0.1) in
    let t1 = digits_take 4 text year.0 year.1.0 in
    let t2 = digits_take 2 year.0.1 month.0 month.1.0 in
    let t3 = digits_take 2 month.0.1 day.0 day.1.0 in
    let text_is : text ≡ day_text made.0 ++ made.1 =
    t1 ∙ ap (λ (l : List ℕ). padded 4 year.0.0 ++ l) (t2 ∙ ap (λ (l : List ℕ). padded 2 month.0.0 ++ l) t3 ∙ sym (append_assoc (padded 2 month.0.0) (padded 2 day.0.0) day.0.1))
    ∙ sym (append_assoc (padded 4 year.0.0) (padded 2 month.0.0 ++ padded 2 day.0.0) day.0.1) in
    subst (λ (y : CivilDay × List ℕ). text ≡ day_text y.0 ++ y.1) (some_is made x day.1.1) text_is

-- ---- times of day

-- what the test of a clock says
record IsShown (c : ClockTime) : Type 0 where
  hour : c.hour < 24
  minute : c.minute < 60
  second : c.second < 60
  tenth : c.tenth < 10

is_clock-shown : (c : ClockTime) → is_clock c ≡ true → IsShown c
is_clock-shown c e =
    let a = and_parts (nat_lt c.hour 24 && nat_lt c.minute 60 && nat_lt c.second 60) (nat_lt c.tenth 10) e in
    let b = and_parts (nat_lt c.hour 24 && nat_lt c.minute 60) (nat_lt c.second 60) a.0 in
    let d = and_parts (nat_lt c.hour 24) (nat_lt c.minute 60) b.0 in
    record { hour = ltb-true _ _ d.0; minute = ltb-true _ _ d.1; second = ltb-true _ _ b.1; tenth = ltb-true _ _ a.1 }

abbrev with_tenth : ℕ → ℕ → ℕ → ℕ × List ℕ → Option (ClockTime × List ℕ)
with_tenth hour minute second tenth = Some (record { hour = hour; minute = minute; second = second; tenth = tenth.0 }, tenth.1)

abbrev with_dot : ℕ → ℕ → ℕ → List ℕ → Option (ClockTime × List ℕ)
with_dot hour minute second rest = digits_at 1 rest >>= with_tenth hour minute second

abbrev with_second : ℕ → ℕ → ℕ × List ℕ → Option (ClockTime × List ℕ)
with_second hour minute second = byte_at 46 second.1 >>= with_dot hour minute second.0

abbrev with_minute : ℕ → ℕ × List ℕ → Option (ClockTime × List ℕ)
with_minute hour minute = digits_at 2 minute.1 >>= with_second hour minute.0

abbrev with_hour : ℕ × List ℕ → Option (ClockTime × List ℕ)
with_hour hour = digits_at 2 hour.1 >>= with_minute hour.0

-- the parts of a time's text, before more
clock_apart : (hour minute second tenth rest : List ℕ) → (hour ++ (minute ++ (second ++ 46 ∷ tenth))) ++ rest ≡ hour ++ (minute ++ (second ++ 46 ∷ (tenth ++ rest)))
clock_apart hour minute second tenth rest =
    append_assoc hour (minute ++ (second ++ 46 ∷ tenth)) rest
    ∙ ap (λ (l : List ℕ). hour ++ l) (append_assoc minute (second ++ 46 ∷ tenth) rest ∙ ap (λ (l : List ℕ). minute ++ l) (append_assoc second (46 ∷ tenth) rest))

clock_again : (c : ClockTime) (rest : List ℕ) → IsShown c → clock_at (clock_text c ++ rest) ≡ Some (c, rest)
unfolding clock_at
clock_again c rest shown =
    let h = shown.hour in
    let m = shown.minute in
    let s = shown.second in
    let t = shown.tenth in
    let r3 : List ℕ = padded 1 c.tenth ++ rest in
    let r2 : List ℕ = padded 2 c.second ++ 46 ∷ r3 in
    let r1 : List ℕ = padded 2 c.minute ++ r2 in
    ap (λ (l : List ℕ). digits_at 2 l >>= with_hour) (clock_apart (padded 2 c.hour) (padded 2 c.minute) (padded 2 c.second) (padded 1 c.tenth) rest)
    ∙ step_is (digits_at 2 (padded 2 c.hour ++ r1)) (c.hour, r1) with_hour (digits_again 2 c.hour r1 (omega arith) (omega arith) (omega arith))
    ∙ step_is (digits_at 2 r1) (c.minute, r2) (with_minute c.hour) (digits_again 2 c.minute r2 (omega arith) (omega arith) (omega arith))
    ∙ step_is (digits_at 2 r2) (c.second, 46 ∷ r3) (with_second c.hour c.minute) (digits_again 2 c.second (46 ∷ r3) (omega arith) (omega arith) (omega arith))
    ∙ step_is (byte_at 46 (46 ∷ r3)) r3 (with_dot c.hour c.minute c.second) (byte_again 46 r3)
    ∙ step_is (digits_at 1 r3) (c.tenth, rest) (with_tenth c.hour c.minute c.second) (digits_again 1 c.tenth rest (omega arith) (omega arith) (omega arith))

clock_take : (text : List ℕ) (x : ClockTime × List ℕ) → clock_at text ≡ Some x → text ≡ clock_text x.0 ++ x.1
unfolding clock_at
clock_take text x e =
    let hour = step_took (digits_at 2 text) with_hour x e in
    let minute = step_took (digits_at 2 hour.0.1) (with_minute hour.0.0) x hour.1.1 in
    let second = step_took (digits_at 2 minute.0.1) (with_second hour.0.0 minute.0.0) x minute.1.1 in
    let dot = step_took (byte_at 46 second.0.1) (with_dot hour.0.0 minute.0.0 second.0.0) x second.1.1 in
    let tenth = step_took (digits_at 1 dot.0) (with_tenth hour.0.0 minute.0.0 second.0.0) x dot.1.1 in
    let made : ClockTime × List ℕ = (record { hour = hour.0.0; minute = minute.0.0; second = second.0.0; tenth = tenth.0.0 }, tenth.0.1) in
    let t1 = digits_take 2 text hour.0 hour.1.0 in
    let t2 = digits_take 2 hour.0.1 minute.0 minute.1.0 in
    let t3 = digits_take 2 minute.0.1 second.0 second.1.0 in
    let t4 = byte_take 46 second.0.1 dot.0 dot.1.0 in
    let t5 = digits_take 1 dot.0 tenth.0 tenth.1.0 in
    let parts : text ≡ padded 2 hour.0.0 ++ (padded 2 minute.0.0 ++ (padded 2 second.0.0 ++ 46 ∷ (padded 1 tenth.0.0 ++ tenth.0.1))) =
    t1 ∙ ap (λ (l : List ℕ). padded 2 hour.0.0 ++ l) (t2 ∙ ap (λ (l : List ℕ). padded 2 minute.0.0 ++ l) (t3 ∙ ap (λ (l : List ℕ). padded 2 second.0.0 ++ l) (t4 ∙ ap (λ (l : List ℕ). 46 ∷ l) t5))) in
    let text_is : text ≡ clock_text made.0 ++ made.1 = parts ∙ sym (clock_apart (padded 2 hour.0.0) (padded 2 minute.0.0) (padded 2 second.0.0) (padded 1 tenth.0.0) tenth.0.1) in
    subst (λ (y : ClockTime × List ℕ). text ≡ clock_text y.0 ++ y.1) (some_is made x tenth.1.1) text_is

-- ---- moments

-- a moment at the end of its text, where the calendar has it
abbrev at_end : Moment → List ℕ → Option Moment
at_end m rest = cond (eqb (length rest) 0 && is_moment m) (Some m) None

abbrev with_clock : CivilDay → ClockTime × List ℕ → Option Moment
with_clock day clock = let m : Moment = record { day = day; clock = clock.0 } in at_end m clock.1

abbrev with_mark : CivilDay → List ℕ → Option Moment
with_mark day rest = clock_at rest >>= with_clock day

abbrev with_date : CivilDay × List ℕ → Option Moment
with_date day = byte_at 84 day.1 >>= with_mark day.0

-- the text of a moment is read as the moment
pub moment_named-moment_text : (m : Moment) → is_moment m ≡ true → moment_named (moment_text m) ≡ Some m
unfolding moment_named
moment_named-moment_text m good =
    let both = and_parts (is_day m.day) (is_clock m.clock) good in
    let none : List ℕ = [] in
    let rest : List ℕ = clock_text m.clock in
    let clock : clock_at (clock_text m.clock) ≡ Some (m.clock, none) = ap clock_at (sym (append-nil (clock_text m.clock))) ∙ clock_again m.clock none (is_clock-shown m.clock both.1) in
    let last : with_clock m.day (m.clock, none) ≡ Some m = rw good refl in
    step_is (day_at (moment_text m)) (m.day, 84 ∷ rest) with_date (day_again m.day (84 ∷ rest) (is_day-good m.day both.0))
    ∙ step_is (byte_at 84 (84 ∷ rest)) rest (with_mark m.day) (byte_again 84 rest)
    ∙ step_is (clock_at rest) (m.clock, none) (with_clock m.day) clock
    ∙ last

-- a text that is read as a moment is its text
pub moment_text-moment_named : (text : List ℕ) (m : Moment) → moment_named text ≡ Some m → (is_moment m ≡ true) × (text ≡ moment_text m)
unfolding moment_named
moment_text-moment_named text m e =
    let day = step_took (day_at text) with_date m e in
    let mark = step_took (byte_at 84 day.0.1) (with_mark day.0.0) m day.1.1 in
    let clock = step_took (clock_at mark.0) (with_clock day.0.0) m mark.1.1 in
    let t1 = day_take text day.0 day.1.0 in
    let t2 = byte_take 84 day.0.1 mark.0 mark.1.0 in
    let t3 = clock_take mark.0 clock.0 clock.1.0 in
    let made : Moment = record { day = day.0.0; clock = clock.0.0 } in
    let end = ended made clock.0.1 clock.1.1 in
    let text_is : text ≡ moment_text made =
    t1 ∙ ap (λ (l : List ℕ). day_text day.0.0 ++ l) (t2 ∙ ap (λ (l : List ℕ). 84 ∷ l) (t3 ∙ ap (λ (l : List ℕ). clock_text clock.0.0 ++ l) end.0 ∙ append-nil (clock_text clock.0.0))) in
    subst (λ (x : Moment). (is_moment x ≡ true) × (text ≡ moment_text x)) end.2 (end.1, text_is)
  where
    ended : (x : Moment) (rest : List ℕ) → at_end x rest ≡ Some m → (rest ≡ []) × (is_moment x ≡ true) × (x ≡ m)
    ended x rest e = by_test (eqb (length rest) 0 && is_moment x) refl e
      where
        by_test : (t : Bool) → (eqb (length rest) 0 && is_moment x) ≡ t → (let none : Option Moment = None in cond t (Some x) none) ≡ Some m → (rest ≡ []) × (is_moment x ≡ true) × (x ≡ m)
        by_test false is e = absurd (cc e)
        by_test true is e =
            let both = and_parts (eqb (length rest) 0) (is_moment x) is in
            (nil_from_length rest (eqb-true (length rest) 0 both.0), both.1, some_is x m e)

-- ---- moments by tenths of seconds

clock_of_good : (t : ℕ) → t < 864_000 → is_clock (clock_of t) ≡ true
clock_of_good t small =
    let hour : nat_lt (t / 36_000) 24 ≡ true = lt-ltb _ _ (omega arith) in
    let minute : nat_lt (t / 600 % 60) 60 ≡ true = lt-ltb _ _ (omega arith) in
    let second : nat_lt (t / 10 % 60) 60 ≡ true = lt-ltb _ _ (omega arith) in
    let tenth : nat_lt (t % 10) 10 ≡ true = lt-ltb _ _ (omega arith) in
    rw (hour, minute, second, tenth) refl

clock_tenths-clock_of : (t : ℕ) → clock_tenths (clock_of t) ≡ t
clock_tenths-clock_of t = omega arith

clock_tenths-lt : (c : ClockTime) → IsShown c → clock_tenths c < 864_000
clock_tenths-lt c shown =
    let h = shown.hour in
    let m = shown.minute in
    let s = shown.second in
    let t = shown.tenth in
    omega arith

clock_of-clock_tenths : (h m s t : ℕ) → h < 24 → m < 60 → s < 60 → t < 10
    → (let c : ClockTime = record { hour = h; minute = m; second = s; tenth = t } in clock_of (clock_tenths c) ≡ c)
clock_of-clock_tenths h m s t small_h small_m small_s small_t =
    let n : ℕ = ((h * 60 + m) * 60 + s) * 10 + t in
    let hour : n / 36_000 ≡ h = omega arith in
    let minute : n / 600 % 60 ≡ m = omega arith in
    let second : n / 10 % 60 ≡ s = omega arith in
    let tenth : n % 10 ≡ t = omega arith in
    λ i. record { hour = hour i; minute = minute i; second = second i; tenth = tenth i }

day_of_tenths : (t : ℕ) → IsTimely t → t / 864_000 ≤ 2_932_896
day_of_tenths t small = omega arith

is_moment-moment_of : (t : ℕ) → IsTimely t → is_moment (moment_of t) ≡ true
is_moment-moment_of t small =
    let day : is_day (day_after (t / 864_000)) ≡ true = good-is_day (day_after (t / 864_000)) (nth (t / 864_000) (day_of_tenths t small)).good in
    let clock : is_clock (clock_of (t % 864_000)) ≡ true = clock_of_good (t % 864_000) (omega arith) in
    rw (day, clock) refl

moment_tenths-moment_of : (t : ℕ) → IsTimely t → moment_tenths (moment_of t) ≡ t
moment_tenths-moment_of t small =
    let day = day_number-day_after (t / 864_000) (day_of_tenths t small) in
    let clock = clock_tenths-clock_of (t % 864_000) in
    rw (day, clock) (omega arith)

moment_tenths-timely : (m : Moment) → is_moment m ≡ true → IsTimely (moment_tenths m)
moment_tenths-timely m good =
    let both = and_parts (is_day m.day) (is_clock m.clock) good in
    let day = (number_nth m.day (is_day-good m.day both.0)).1 in
    let clock = clock_tenths-lt m.clock (is_clock-shown m.clock both.1) in
    sum_of (day_number m.day) (clock_tenths m.clock) day clock
  where
    sum_of : (n c : ℕ) → n ≤ 2_932_896 → c < 864_000 → n * 864_000 + c < 2_534_023_008_000
    sum_of n c day clock = omega arith

moment_of-moment_tenths : (m : Moment) → is_moment m ≡ true → moment_of (moment_tenths m) ≡ m
moment_of-moment_tenths m good =
    let both = and_parts (is_day m.day) (is_clock m.clock) good in
    let shown = is_clock-shown m.clock both.1 in
    let clock = clock_tenths-lt m.clock shown in
    let days = parts_of (day_number m.day) (clock_tenths m.clock) clock in
    let day : day_after (moment_tenths m / 864_000) ≡ m.day = ap day_after days.0 ∙ day_after-day_number m.day (is_day-good m.day both.0) in
    let time : clock_of (moment_tenths m % 864_000) ≡ m.clock = ap clock_of days.1 ∙ clock_of-clock_tenths m.clock.hour m.clock.minute m.clock.second m.clock.tenth shown.hour shown.minute shown.second shown.tenth in
    λ i. record { day = day i; clock = time i }
  where
    parts_of : (n c : ℕ) → c < 864_000 → ((n * 864_000 + c) / 864_000 ≡ n) × ((n * 864_000 + c) % 864_000 ≡ c)
    parts_of n c clock = (omega arith, omega arith)

-- the text of a moment is read as its tenths of seconds, and a text that is read is the moment's
pub tenths_named-moment_text : (t : ℕ) → IsTimely t → tenths_named (moment_text (moment_of t)) ≡ Some t
tenths_named-moment_text t small =
    ap (option_map moment_tenths) (moment_named-moment_text (moment_of t) (is_moment-moment_of t small)) ∙ ap Some (moment_tenths-moment_of t small)

pub moment_text-tenths_named : (text : List ℕ) (t : ℕ) → tenths_named text ≡ Some t → IsTimely t × (text ≡ moment_text (moment_of t))
moment_text-tenths_named text t e = by_moment (moment_named text) refl e
  where
    by_moment : (o : Option Moment) → moment_named text ≡ o → option_map moment_tenths o ≡ Some t → IsTimely t × (text ≡ moment_text (moment_of t))
    by_moment None is e = absurd (cc e)
    by_moment (Some m) is e =
        let read = moment_text-moment_named text m is in
        let same : moment_tenths m ≡ t = some_is (moment_tenths m) t e in
        let back : moment_text m ≡ moment_text (moment_of (moment_tenths m)) = ap moment_text (sym (moment_of-moment_tenths m read.0)) in
        subst (λ (n : ℕ). IsTimely n × (text ≡ moment_text (moment_of n))) same (moment_tenths-timely m read.0, read.1 ∙ back)

-- the numbers that a moment's text has
pub record SmallParts (m : Moment) : Type 0 where
  pub year : m.day.year < 2 ^ 64
  pub month : m.day.month < 2 ^ 64
  pub day : m.day.day < 2 ^ 64
  pub hour : m.clock.hour < 2 ^ 64
  pub minute : m.clock.minute < 2 ^ 64
  pub second : m.clock.second < 2 ^ 64
  pub tenth : m.clock.tenth < 2 ^ 64

pub small_parts : (t : ℕ) → IsTimely t → SmallParts (moment_of t)
small_parts t timely =
    let g = (nth (t / 864_000) (day_of_tenths t timely)).good in
    let d : CivilDay = day_after (t / 864_000) in
    let most = days_in_month_bounds (pos d.year) d.month in
    let year_high = g.year_high in
    let month_high = g.month_high in
    let day_high = g.day_high in
    record {
      year = omega arith;
      month = omega arith;
      day = omega arith;
      hour = omega arith;
      minute = omega arith;
      second = omega arith;
      tenth = omega arith;
    }
