-- Bytes that no word of a name has.
use Rattle.std.proofs.Common.{◌≡◌, ℕ, ◌-◌, ◌^◌, ◌<◌, Bool, true, false, ◌&&◌, eqb, nat_lt, nat_le, List, ◌∷◌, ◌++◌, length, replicate, refl, sym, ap, ◌∙◌}
use Rattle.std.specs.Prelude.{All}
use Rattle.std.specs.Fmt.{decimal}
use Rattle.std.specs.Char.{is_ascii_digit}
use Rattle.std.specs.List.{list_all}
use Rattle.std.proofs.lemmas.Bool.{and_parts, eqb-true, false≢true}
use Rattle.std.proofs.lemmas.List.Elements.{All-append, All-cons, All-replicate}
use Rattle.std.proofs.lemmas.List.Sums.{AllPass-from_list_all}
use Rattle.block_record.specs.Texts.{is_id_text, is_id_byte, is_reader_text, is_reader_byte}
use Rattle.block_record.proofs.public.NumberTexts.{decimal_digits}
use Rattle.one_block.specs.declared.moments.Moment.{Moment}
use Rattle.one_block.specs.Moments.{moment_of, day_text, clock_text, moment_text, IsTimely}
use Rattle.one_block.specs.Numerals.{padded}
use Rattle.one_block.specs.Names.{is_id_end}
use Rattle.one_block.proofs.MomentFacts.{small_parts}

-- no byte of the word is this one
abbrev pub Lacks : ℕ → List ℕ → Type 0
Lacks c word = All (λ b. eqb b c ≡ false) word

-- a byte that stands in no number, time, id or name of a reader
pub record IsOutside (c : ℕ) : Type 0 where
  pub digit : is_ascii_digit c ≡ false
  pub id : is_id_byte c ≡ false
  pub reader : is_reader_byte c ≡ false
  pub dot : eqb 46 c ≡ false

pub dash_outside : IsOutside 45
dash_outside = record { digit = refl; id = refl; reader = refl; dot = refl }

pub slash_outside : IsOutside 47
slash_outside = record { digit = refl; id = refl; reader = refl; dot = refl }

-- a byte that passes a test which the other doesn't pass
is_other : (test : ℕ → Bool) (c b : ℕ) → test c ≡ false → test b ≡ true → eqb b c ≡ false
is_other test c b fails passes = by_test (eqb b c) refl
  where
    by_test : (t : Bool) → eqb b c ≡ t → t ≡ false
    by_test false is = refl
    by_test true is = absurd (false≢true (sym fails ∙ ap test (sym (eqb-true b c is)) ∙ passes))

lacks_by : (test : ℕ → Bool) (c : ℕ) (word : List ℕ) → test c ≡ false → list_all test word ≡ true → Lacks c word
lacks_by test c word fails passes k d less = is_other test c _ fails (AllPass-from_list_all test word passes k d less)

pub lacks_append : (c : ℕ) (a b : List ℕ) → Lacks c a → Lacks c b → Lacks c (a ++ b)
lacks_append c a b la lb = All-append (λ x. eqb x c ≡ false) a b la lb

pub lacks_cons : (c b : ℕ) (rest : List ℕ) → eqb b c ≡ false → Lacks c rest → Lacks c (b ∷ rest)
lacks_cons c b rest other lacks = All-cons (λ x. eqb x c ≡ false) b rest other lacks

pub lacks_decimal : (c n : ℕ) → IsOutside c → n < 2 ^ 64 → Lacks c (decimal n)
lacks_decimal c n out small = lacks_by is_ascii_digit c (decimal n) out.digit (decimal_digits n small)

pub lacks_padded : (c width n : ℕ) → IsOutside c → n < 2 ^ 64 → Lacks c (padded width n)
lacks_padded c width n out small =
    lacks_append c (replicate (width - length (decimal n)) 48) (decimal n)
    (All-replicate (λ x. eqb x c ≡ false) (width - length (decimal n)) 48 (is_other is_ascii_digit c 48 out.digit refl)) (lacks_decimal c n out small)

pub lacks_moment : (c t : ℕ) → IsOutside c → IsTimely t → Lacks c (moment_text (moment_of t))
lacks_moment c t out timely =
    let m : Moment = moment_of t in
    let s = small_parts t timely in
    let day = lacks_append c (padded 4 m.day.year) (padded 2 m.day.month ++ padded 2 m.day.day) (lacks_padded c 4 m.day.year out s.year)
    (lacks_append c (padded 2 m.day.month) (padded 2 m.day.day) (lacks_padded c 2 m.day.month out s.month) (lacks_padded c 2 m.day.day out s.day)) in
    let tenth = lacks_cons c 46 (padded 1 m.clock.tenth) out.dot (lacks_padded c 1 m.clock.tenth out s.tenth) in
    let second = lacks_append c (padded 2 m.clock.second) (46 ∷ padded 1 m.clock.tenth) (lacks_padded c 2 m.clock.second out s.second) tenth in
    let minute = lacks_append c (padded 2 m.clock.minute) (padded 2 m.clock.second ++ 46 ∷ padded 1 m.clock.tenth) (lacks_padded c 2 m.clock.minute out s.minute) second in
    let clock = lacks_append c (padded 2 m.clock.hour) (padded 2 m.clock.minute ++ (padded 2 m.clock.second ++ 46 ∷ padded 1 m.clock.tenth)) (lacks_padded c 2 m.clock.hour out s.hour) minute in
    lacks_append c (day_text m.day) (84 ∷ clock_text m.clock) day (lacks_cons c 84 (clock_text m.clock) (is_other is_id_byte c 84 out.id refl) clock)

pub lacks_id : (c : ℕ) (id : List ℕ) → IsOutside c → is_id_text id ≡ true → Lacks c id
lacks_id c id out is = lacks_by is_id_byte c id out.id (and_parts (nat_lt 0 (length id) && nat_le (length id) 128) (list_all is_id_byte id) is).1

pub lacks_end : (c : ℕ) (text : List ℕ) → IsOutside c → is_id_end text ≡ true → Lacks c text
lacks_end c text out is = lacks_id c text out (and_parts (is_id_text text) (nat_le (length text) 16) is).0

pub lacks_reader : (c : ℕ) (text : List ℕ) → IsOutside c → is_reader_text text ≡ true → Lacks c text
lacks_reader c text out is = lacks_by is_reader_byte c text out.reader (and_parts (nat_lt 0 (length text) && nat_le (length text) 64) (list_all is_reader_byte text) is).1
