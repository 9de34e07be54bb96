-- The name with some parts is read as the parts, and a text that is read is the name with its parts.
use Rattle.std.proofs.Common.{◌≡◌, ℕ, zero, suc, ◌-◌, Bool, true, false, ◌&&◌, cond, eqb, nat_lt, nat_le, List, [], ◌∷◌, ◌++◌, length, drop, Option, None, Some, refl, sym, ap, subst, ◌∙◌, arith, option_and_then}
use Rattle.std.specs.Prelude.{slice_get}
use Rattle.std.specs.Fmt.{decimal}
use Rattle.std.specs.List.{slice_split, join_with_byte, list_all}
use Rattle.std.proofs.lemmas.Bool.{and_parts, eqb-true, le-leb, lt-ltb, ltb-true}
use Rattle.std.proofs.lemmas.List.{length-drop}
use Rattle.std.proofs.lemmas.List.Splits.{join_with_byte-slice_split, slice_split_none, slice_split_at}
use Rattle.block_record.specs.declared.blocks.Slip.{Slip}
use Rattle.block_record.specs.Number.{number_of}
use Rattle.block_record.specs.Texts.{is_id_text, is_id_byte, is_reader_text}
use Rattle.block_record.proofs.public.NumberTexts.{number_of-decimal, decimal-number_of}
use Rattle.one_block.specs.declared.names.NameParts.{NameParts}
use Rattle.one_block.specs.Moments.{moment_of, moment_text}
use Rattle.one_block.specs.Numerals.{padded, filled_number}
use Rattle.one_block.specs.Names.{id_end, name_words, name_text, parts_of, is_id_end, passing, word_at, parts_named, name_parts, IsName, IsNamed}
use Rattle.one_block.specs.Reading.{tenths_named, ◌>>=◌}
use Rattle.one_block.specs.Laws.{NamesAreRead}
use Rattle.one_block.proofs.public.NumeralFacts.{filled_number-padded, padded-filled_number}
use Rattle.one_block.proofs.MomentFacts.{tenths_named-moment_text, moment_text-tenths_named, step_is, step_took}
use Rattle.one_block.proofs.WordFacts.{Lacks, dash_outside, lacks_padded, lacks_moment, lacks_end, lacks_decimal, lacks_reader}
use Rattle.one_block.proofs.public.OptionFacts.{some_is}

-- ---- six words

-- six words joined are cut again
cut_again : (a b c d e f : List ℕ) → Lacks 45 a → Lacks 45 b → Lacks 45 c → Lacks 45 d → Lacks 45 e → Lacks 45 f
    → slice_split (λ x. eqb x 45) (join_with_byte 45 (a ∷ b ∷ c ∷ d ∷ e ∷ f ∷ [])) ≡ a ∷ b ∷ c ∷ d ∷ e ∷ f ∷ []
cut_again a b c d e f na nb nc nd ne nf =
    let dash : ℕ → Bool = λ x. eqb x 45 in
    let r5 : List ℕ = f in
    let r4 : List ℕ = e ++ 45 ∷ r5 in
    let r3 : List ℕ = d ++ 45 ∷ r4 in
    let r2 : List ℕ = c ++ 45 ∷ r3 in
    let r1 : List ℕ = b ++ 45 ∷ r2 in
    slice_split_at dash a 45 r1 na refl ∙ ap (λ (l : List (List ℕ)). a ∷ l)
    (slice_split_at dash b 45 r2 nb refl ∙ ap (λ (l : List (List ℕ)). b ∷ l)
    (slice_split_at dash c 45 r3 nc refl ∙ ap (λ (l : List (List ℕ)). c ∷ l)
    (slice_split_at dash d 45 r4 nd refl ∙ ap (λ (l : List (List ℕ)). d ∷ l)
    (slice_split_at dash e 45 r5 ne refl ∙ ap (λ (l : List (List ℕ)). e ∷ l) (slice_split_none dash f nf)))))

-- the words that stand in a list of six are all of it
record AreWords (ws : List (List ℕ)) (a b c d e f : List ℕ) : Type 0 where
  count : length ws ≡ 6
  first : slice_get ws 0 ≡ Some a
  second : slice_get ws 1 ≡ Some b
  third : slice_get ws 2 ≡ Some c
  fourth : slice_get ws 3 ≡ Some d
  fifth : slice_get ws 4 ≡ Some e
  sixth : slice_get ws 5 ≡ Some f

all_words : (ws : List (List ℕ)) (a b c d e f : List ℕ) → AreWords ws a b c d e f → ws ≡ a ∷ b ∷ c ∷ d ∷ e ∷ f ∷ []
all_words [] a b c d e f h = absurd (let n = h.count in omega arith)
all_words (q ∷ []) a b c d e f h = absurd (let n = h.count in omega arith)
all_words (q ∷ r ∷ []) a b c d e f h = absurd (let n = h.count in omega arith)
all_words (q ∷ r ∷ s ∷ []) a b c d e f h = absurd (let n = h.count in omega arith)
all_words (q ∷ r ∷ s ∷ t ∷ []) a b c d e f h = absurd (let n = h.count in omega arith)
all_words (q ∷ r ∷ s ∷ t ∷ u ∷ []) a b c d e f h = absurd (let n = h.count in omega arith)
all_words (q ∷ r ∷ s ∷ t ∷ u ∷ v ∷ w ∷ ws) a b c d e f h = absurd (let n = h.count in omega arith)
all_words (q ∷ r ∷ s ∷ t ∷ u ∷ v ∷ []) a b c d e f h =
    let e1 : q ≡ a = some_is q a h.first in
    let e2 : r ≡ b = some_is r b h.second in
    let e3 : s ≡ c = some_is s c h.third in
    let e4 : t ≡ d = some_is t d h.fourth in
    let e5 : u ≡ e = some_is u e h.fifth in
    let e6 : v ≡ f = some_is v f h.sixth in
    rw (e1, e2, e3, e4, e5, e6) refl

-- a word that was read is there
word_read : {A : Type 0} (read : List ℕ → Option A) (part : Option (List ℕ)) (x : A) → option_and_then read part ≡ Some x → (w : List ℕ) × ((part ≡ Some w) × (read w ≡ Some x))
word_read read None x e = absurd (cc e)
word_read read (Some w) x e = (w, (refl, e))

passed : (test : List ℕ → Bool) (w x : List ℕ) → passing test w ≡ Some x → (test x ≡ true) × (w ≡ x)
passed test w x e = by_test (test w) refl e
  where
    by_test : (t : Bool) → test w ≡ t → (let none : Option (List ℕ) = None in cond t (Some w) none) ≡ Some x → (test x ≡ true) × (w ≡ x)
    by_test false is e = absurd (cc e)
    by_test true is e = let same : w ≡ x = some_is w x e in (ap test (sym same) ∙ is, same)

passes : (test : List ℕ → Bool) (w : List ℕ) → test w ≡ true → passing test w ≡ Some w
passes test w e = rw e refl

-- ---- the parts one after another

abbrev whole : List (List ℕ) → NameParts → Option NameParts
whole ws p = cond (eqb (length ws) 6) (Some p) None

abbrev with_reader : List (List ℕ) → ℕ → ℕ → List ℕ → List ℕ → ℕ → List ℕ → Option NameParts
with_reader ws num tenths id_end parent_end lib_num reader = whole ws (record { num = num; tenths = tenths; id_end = id_end; parent_end = parent_end; lib_num = lib_num; reader = reader })

abbrev with_lib : List (List ℕ) → ℕ → ℕ → List ℕ → List ℕ → ℕ → Option NameParts
with_lib ws num tenths id_end parent_end lib_num = word_at (passing is_reader_text) ws 5 >>= with_reader ws num tenths id_end parent_end lib_num

abbrev with_parent : List (List ℕ) → ℕ → ℕ → List ℕ → List ℕ → Option NameParts
with_parent ws num tenths id_end parent_end = word_at number_of ws 4 >>= with_lib ws num tenths id_end parent_end

abbrev with_id : List (List ℕ) → ℕ → ℕ → List ℕ → Option NameParts
with_id ws num tenths id_end = word_at (passing is_id_end) ws 3 >>= with_parent ws num tenths id_end

abbrev with_time : List (List ℕ) → ℕ → ℕ → Option NameParts
with_time ws num tenths = word_at (passing is_id_end) ws 2 >>= with_id ws num tenths

abbrev with_num : List (List ℕ) → ℕ → Option NameParts
with_num ws num = word_at tenths_named ws 1 >>= with_time ws num

-- the words of some parts are read as the parts
parts_named-name_words : (p : NameParts) → IsName p → parts_named (name_words p) ≡ Some p
parts_named-name_words p is =
    let ws : List (List ℕ) = name_words p in
    step_is (word_at (filled_number 10) ws 0) p.num (with_num ws) (filled_number-padded 10 p.num is.num)
    ∙ step_is (word_at tenths_named ws 1) p.tenths (with_time ws p.num) (tenths_named-moment_text p.tenths is.tenths)
    ∙ step_is (word_at (passing is_id_end) ws 2) p.id_end (with_id ws p.num p.tenths) (passes is_id_end p.id_end is.id_end)
    ∙ step_is (word_at (passing is_id_end) ws 3) p.parent_end (with_parent ws p.num p.tenths p.id_end) (passes is_id_end p.parent_end is.parent_end)
    ∙ step_is (word_at number_of ws 4) p.lib_num (with_lib ws p.num p.tenths p.id_end p.parent_end) (number_of-decimal p.lib_num is.lib_num)
    ∙ step_is (word_at (passing is_reader_text) ws 5) p.reader (with_reader ws p.num p.tenths p.id_end p.parent_end p.lib_num) (passes is_reader_text p.reader is.reader)

pub name_again : (p : NameParts) → IsName p → name_parts (name_text p) ≡ Some p
name_again p is =
    ap parts_named (cut_again (padded 10 p.num) (moment_text (moment_of p.tenths)) p.id_end p.parent_end (decimal p.lib_num) p.reader
    (lacks_padded 45 10 p.num dash_outside is.num) (lacks_moment 45 p.tenths dash_outside is.tenths) (lacks_end 45 p.id_end dash_outside is.id_end) (lacks_end 45 p.parent_end dash_outside is.parent_end)
    (lacks_decimal 45 p.lib_num dash_outside is.lib_num) (lacks_reader 45 p.reader dash_outside is.reader))
    ∙ parts_named-name_words p is

whole_is : (ws : List (List ℕ)) (x p : NameParts) → whole ws x ≡ Some p → (length ws ≡ 6) × (x ≡ p)
whole_is ws x p e = by_test (eqb (length ws) 6) refl e
  where
    by_test : (t : Bool) → eqb (length ws) 6 ≡ t → (let none : Option NameParts = None in cond t (Some x) none) ≡ Some p → (length ws ≡ 6) × (x ≡ p)
    by_test false is e = absurd (cc e)
    by_test true is e = (eqb-true (length ws) 6 is, some_is x p e)

-- words that are read are the words of what is read
name_words-parts_named : (ws : List (List ℕ)) (p : NameParts) → parts_named ws ≡ Some p → IsName p × (ws ≡ name_words p)
name_words-parts_named ws p e =
    let num = step_took (word_at (filled_number 10) ws 0) (with_num ws) p e in
    let tenths = step_took (word_at tenths_named ws 1) (with_time ws num.0) p num.1.1 in
    let own = step_took (word_at (passing is_id_end) ws 2) (with_id ws num.0 tenths.0) p tenths.1.1 in
    let parent = step_took (word_at (passing is_id_end) ws 3) (with_parent ws num.0 tenths.0 own.0) p own.1.1 in
    let lib = step_took (word_at number_of ws 4) (with_lib ws num.0 tenths.0 own.0 parent.0) p parent.1.1 in
    let reader = step_took (word_at (passing is_reader_text) ws 5) (with_reader ws num.0 tenths.0 own.0 parent.0 lib.0) p lib.1.1 in
    let made : NameParts = record { num = num.0; tenths = tenths.0; id_end = own.0; parent_end = parent.0; lib_num = lib.0; reader = reader.0 } in
    let end = whole_is ws made p reader.1.1 in
    let w0 = word_read (filled_number 10) (slice_get ws 0) num.0 num.1.0 in
    let w1 = word_read tenths_named (slice_get ws 1) tenths.0 tenths.1.0 in
    let w2 = word_read (passing is_id_end) (slice_get ws 2) own.0 own.1.0 in
    let w3 = word_read (passing is_id_end) (slice_get ws 3) parent.0 parent.1.0 in
    let w4 = word_read number_of (slice_get ws 4) lib.0 lib.1.0 in
    let w5 = word_read (passing is_reader_text) (slice_get ws 5) reader.0 reader.1.0 in
    let f0 = padded-filled_number 10 w0.0 num.0 w0.1.1 in
    let f1 = moment_text-tenths_named w1.0 tenths.0 w1.1.1 in
    let f2 = passed is_id_end w2.0 own.0 w2.1.1 in
    let f3 = passed is_id_end w3.0 parent.0 w3.1.1 in
    let f4 = decimal-number_of w4.0 lib.0 w4.1.1 in
    let f5 = passed is_reader_text w5.0 reader.0 w5.1.1 in
    let is_name : IsName made = record { num = f0.0; tenths = f1.0; id_end = f2.0; parent_end = f3.0; lib_num = f4.0; reader = f5.0 } in
    let words : ws ≡ name_words made = all_words ws (padded 10 num.0) (moment_text (moment_of tenths.0)) own.0 parent.0 (decimal lib.0) reader.0 (record {
      count = end.0;
      first = w0.1.0 ∙ ap Some f0.1;
      second = w1.1.0 ∙ ap Some f1.1;
      third = w2.1.0 ∙ ap Some f2.1;
      fourth = w3.1.0 ∙ ap Some f3.1;
      fifth = w4.1.0 ∙ ap Some f4.1;
      sixth = w5.1.0 ∙ ap Some f5.1;
    }) in
    subst (λ (x : NameParts). IsName x × (ws ≡ name_words x)) end.1 (is_name, words)

pub name_spelled : (text : List ℕ) (p : NameParts) → name_parts text ≡ Some p → IsName p × (text ≡ name_text p)
name_spelled text p e =
    let read = name_words-parts_named (slice_split (λ b. eqb b 45) text) p e in
    (read.0, sym (join_with_byte-slice_split 45 text) ∙ ap (join_with_byte 45) read.1)

-- ---- the names of blocks' files

list_all-drop : (p : ℕ → Bool) (k : ℕ) (xs : List ℕ) → list_all p xs ≡ true → list_all p (drop k xs) ≡ true
list_all-drop p zero xs e = e
list_all-drop p (suc k) [] e = e
list_all-drop p (suc k) (x ∷ xs) e = list_all-drop p k xs (and_parts (p x) (list_all p xs) e).1

end_good : (id : List ℕ) → is_id_text id ≡ true → is_id_end (id_end id) ≡ true
end_good id e =
    let both = and_parts (nat_lt 0 (length id) && nat_le (length id) 128) (list_all is_id_byte id) e in
    let some = ltb-true 0 (length id) (and_parts (nat_lt 0 (length id)) (nat_le (length id) 128) both.0).0 in
    let left = length-drop (length id - 16) id in
    let one : nat_lt 0 (length (id_end id)) ≡ true = lt-ltb _ _ (omega (arith, left, some)) in
    let two : nat_le (length (id_end id)) 128 ≡ true = le-leb _ _ (omega (arith, left)) in
    let three : list_all is_id_byte (id_end id) ≡ true = list_all-drop is_id_byte (length id - 16) id both.1 in
    let four : nat_le (length (id_end id)) 16 ≡ true = le-leb _ _ (omega (arith, left)) in
    rw (one, two, three, four) refl

pub parts_good : (s : Slip) (reader : List ℕ) → IsNamed s reader → IsName (parts_of s reader)
parts_good s reader is =
    let time = is.time in
    record {
      num = is.num;
      tenths = omega arith;
      id_end = end_good s.id is.id;
      parent_end = end_good s.parent_id is.parent_id;
      lib_num = is.lib_num;
      reader = is.reader;
    }

pub names_are_read : NamesAreRead
names_are_read = record {
  again = name_again;
  spelled = name_spelled;
  block = λ s reader is. name_again (parts_of s reader) (parts_good s reader is);
}
