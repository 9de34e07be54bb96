-- The text of a cursor is read as the cursor.
use Rattle.std.proofs.Common.{◌≡◌, ◌+◌, ◌<◌, ◌^◌, ℕ, zero, suc, Bool, true, false, ◌&&◌, cond, List, [], ◌∷◌, ◌++◌, length, Option, None, Some, Result, Ok, refl, sym, ◌∙◌, ap, subst, arith, add-one}
use Rattle.std.specs.Prelude.{codes, slice_get, slice_index, nat_le, ◌==◌}
use Rattle.base64.specs.GeneralPurpose.{IsBytes}
use Rattle.std.proofs.lemmas.Bool.Decides.{nat_tests}
use Rattle.std.specs.Option.{ok_or}
use Rattle.std.specs.Fmt.{decimal}
use Rattle.std.specs.Str.{bytes_eq}
use Rattle.std.specs.Char.{is_ascii_digit}
use Rattle.std.specs.List.{join_with_byte}
use Rattle.std.proofs.lemmas.Bool.{and_parts, and_right, eq-eqb, ne_eqb, false≢true, leb-true}
use Rattle.block_record.specs.declared.blocks.BlockRef.{BlockRef}
use Rattle.block_record.specs.Texts.{is_id_text, is_id_byte}
use Rattle.block_record.proofs.public.NumberTexts.{decimal_digits, number_of-decimal}
use Rattle.chain_model.specs.declared.places.Step.{Step}
use Rattle.chain_model.specs.declared.places.Step.TheVariants as step
use Rattle.step_cursor.specs.declared.cursor.Cursor.{Cursor}
use Rattle.step_cursor.specs.declared.cursor.Tail.{Tail}
use Rattle.step_cursor.specs.declared.form.Form.{Form}
use Rattle.step_cursor.specs.declared.form.Form.TheVariants.{AtEnd, AtLib, Apart}
use Rattle.step_cursor.specs.CursorText.{step_number, is_at, form_for, form_word, pair_words, place_words, cursor_words, tail_parts, plain_text, IsRef, IsRefIfAny, IsTailIfAny, IsPrintable}
use Rattle.step_cursor.specs.CursorParts.{parts, words, form_named, step_named, id_of, is_missing}
use Rattle.block_record.specs.Words.{result_map}
use Rattle.step_cursor.specs.Reading.{part_at, ref_at, pair_at, second_at, tail_of, end_by, lib_by, cursor_by, word_count, same_form, whole_of, cursor_of, ◌>>=◌}
use Rattle.step_cursor.proofs.SplitFacts.{Each, EachOf, each_test, each-join, IsNot, split-join, Stand}
use Rattle.step_cursor.proofs.WordFacts.{step_texts}
use Rattle.step_cursor.proofs.FaultFacts.{no_id}
use Rattle.chain_model.proofs.public.RefFacts.{ref_is}

-- ---- of what bytes the words are

-- what is so of each byte of a word: of the bytes of ids, digits among them, and of the dash
record IsOfWords (P : ℕ → Type 0) : Type 0 where
  digit : (b : ℕ) → is_ascii_digit b ≡ true → P b
  id : (b : ℕ) → is_id_byte b ≡ true → P b
  dash : P 45

module _ (P : ℕ → Type 0) (so : IsOfWords P) where
  each_number : (n : ℕ) → n < 2 ^ 64 → Each P (decimal n)
  each_number n small = each_test is_ascii_digit P (decimal n) so.digit (decimal_digits n small)

  each_id : (id : List ℕ) → is_id_text id ≡ true → Each P id
  each_id id is = each_test is_id_byte P id so.id (and_parts _ _ is).1

  each_form : (form : Form) → Each P (form_word form)
  each_form AtEnd = (so.id 99 refl, (so.id 49 refl, tt))
  each_form AtLib = (so.id 99 refl, (so.id 50 refl, tt))
  each_form Apart = (so.id 99 refl, (so.id 51 refl, tt))

  each_step : (kind : Step) → Each P (decimal (step_number kind))
  each_step step.New = each_number 1 (omega arith)
  each_step step.Undo = each_number 2 (omega arith)
  each_step step.Final = each_number 16 (omega arith)
  each_step step.NewFinal = each_number 17 (omega arith)

  each_of-append : (a b : List (List ℕ)) → EachOf P a → EachOf P b → EachOf P (a ++ b)
  each_of-append [] b ha hb = hb
  each_of-append (x ∷ a) b ha hb = (ha.0, each_of-append a b ha.1 hb)

  each_pair : (r : Option BlockRef) → IsRefIfAny r → EachOf P (pair_words r)
  each_pair None whole = ((so.id 48 refl, tt), ((so.dash, tt), tt))
  each_pair (Some r) whole = (each_number r.num whole.num, (each_id r.id whole.id, tt))

  each_place : (form : Form) (end lib : Option BlockRef) → IsRefIfAny end → IsRefIfAny lib → EachOf P (place_words form end lib)
  each_place AtEnd end lib he hl = each_pair lib hl
  each_place AtLib end lib he hl = each_pair end he
  each_place Apart end lib he hl = each_of-append (pair_words end) (pair_words lib) (each_pair end he) (each_pair lib hl)

  each_tail : (tail : Option Tail) → IsTailIfAny tail → EachOf P (tail_parts tail)
  each_tail None whole = tt
  each_tail (Some t) whole = (each_number t.run whole.0, (each_number t.seen whole.1, tt))

  each_word : (c : Cursor) → IsPrintable c → EachOf P (cursor_words c)
  each_word c p =
      let form : Form = form_for c.block c.place.end c.place.lib in
      (each_form form, (each_step c.step, (each_number c.block.num p.block.num, (each_id c.block.id p.block.id, each_place form c.place.end c.place.lib p.end p.lib))))

-- a byte that is in no word
apart_test : (p : ℕ → Bool) (s : ℕ) → p s ≡ false → (b : ℕ) → p b ≡ true → IsNot s b
apart_test p s isnt b is = ne_eqb b s (λ (e : b ≡ s). false≢true (sym isnt ∙ ap p (sym e) ∙ is))

no_colon : IsOfWords (IsNot 58)
no_colon = record { digit = apart_test is_ascii_digit 58 refl; id = apart_test is_id_byte 58 refl; dash = refl }

no_slash : IsOfWords (IsNot 47)
no_slash = record { digit = apart_test is_ascii_digit 47 refl; id = apart_test is_id_byte 47 refl; dash = refl }

digit_small : (b : ℕ) → is_ascii_digit b ≡ true → b < 256
digit_small b is = let parts = and_parts (nat_le 48 b) (nat_le b 57) is in omega (arith, leb-true b 57 parts.1)

id_small : (b : ℕ) → is_id_byte b ≡ true → b < 256
id_small b is = grind (arith, nat_tests)

small_bytes : IsOfWords (λ b. b < 256)
small_bytes = record { digit = digit_small; id = id_small; dash = omega arith }

get_or-each : (text : List ℕ) (i : ℕ) → Each (λ b. b < 256) text → slice_index text i < 256
get_or-each [] i each = omega arith
get_or-each (x ∷ text) zero each = each.0
get_or-each (x ∷ text) (suc i) each = get_or-each text i each.1

-- a plain text is bytes
pub plain_bytes : (c : Cursor) → IsPrintable c → IsBytes (plain_text c)
plain_bytes c p i = get_or-each (plain_text c) i (each-join (λ b. b < 256) 47 (join_with_byte 58 (cursor_words c) ∷ tail_parts c.tail) (omega arith)
    (each-join (λ b. b < 256) 58 (cursor_words c) (omega arith) (each_word _ small_bytes c p), each_tail _ small_bytes c.tail p.tail))

-- ---- the parts and the words of a plain text

front_text : Cursor → List ℕ
front_text c = join_with_byte 58 (cursor_words c)

parts_printed : (c : Cursor) → IsPrintable c → parts (plain_text c) ≡ front_text c ∷ tail_parts c.tail
unfolding front_text
parts_printed c p = split-join 47 (join_with_byte 58 (cursor_words c)) (tail_parts c.tail) refl (each-join (IsNot 47) 58 (cursor_words c) refl (each_word _ no_slash c p), each_tail _ no_slash c.tail p.tail)

words_printed : (c : Cursor) → IsPrintable c → words (front_text c ∷ tail_parts c.tail) ≡ cursor_words c
unfolding front_text
words_printed c p =
    let form : Form = form_for c.block c.place.end c.place.lib in
    split-join 58 (form_word form) (decimal (step_number c.step) ∷ decimal c.block.num ∷ c.block.id ∷ place_words form c.place.end c.place.lib) refl (each_word _ no_colon c p)

-- ---- what they are read as

then_ok : {A B : Type 0} (x : Result A ℕ) (a : A) (f : A → Result B ℕ) (y : Result B ℕ) → x ≡ Ok a → f a ≡ y → (x >>= f) ≡ y
then_ok x a f y e h = ap (λ z. z >>= f) e ∙ h

form_reads : (form : Form) → form_named (form_word form) ≡ Some form
form_reads AtEnd = refl
form_reads AtLib = refl
form_reads Apart = refl

step_reads : (kind : Step) → step_named (decimal (step_number kind)) ≡ Some kind
step_reads step.New = ap step_named (step_texts step.New)
step_reads step.Undo = ap step_named (step_texts step.Undo)
step_reads step.Final = ap step_named (step_texts step.Final)
step_reads step.NewFinal = ap step_named (step_texts step.NewFinal)

id_reads : (id : List ℕ) → is_id_text id ≡ true → id_of id ≡ Some id
id_reads id is = rw is refl

ref_reads : (ws : List (List ℕ)) (k place : ℕ) (r : BlockRef) → slice_get ws k ≡ Some (decimal r.num) → slice_get ws (k + 1) ≡ Some r.id → IsRef r → ref_at ws k place ≡ Ok r
ref_reads ws k place r at_num at_id whole =
    let num = number_of-decimal r.num whole.num in
    let id = id_reads r.id whole.id in
    rw (at_num, at_id) (rw num (rw id refl))

pair_reads : (ws : List (List ℕ)) (k place : ℕ) (r : Option BlockRef) → Stand ws k (pair_words r) → IsRefIfAny r → pair_at ws k place ≡ Ok r
pair_reads ws k place None stand whole =
    let num : slice_get ws k ≡ Some (codes "0") = stand.0 in
    let id : slice_get ws (k + 1) ≡ Some (codes "-") = rw add-one stand.1.0 in
    rw (num, id) refl
pair_reads ws k place (Some r) stand whole =
    let num : slice_get ws k ≡ Some (decimal r.num) = stand.0 in
    let id : slice_get ws (k + 1) ≡ Some r.id = rw add-one stand.1.0 in
    let there : is_missing ws k ≡ false = rw (num, id) (and_right (bytes_eq (decimal r.num) (codes "0")) (bytes_eq r.id (codes "-")) (no_id r.id whole.id)) in
    ap (λ t. cond t (Ok None) (result_map Some (ref_at ws k place))) there ∙ ap (result_map Some) (ref_reads ws k place r num id whole)

tail_reads : (front : List ℕ) (tail : Option Tail) → IsTailIfAny tail → tail_of (front ∷ tail_parts tail) ≡ Ok tail
tail_reads front None whole = refl
tail_reads front (Some t) whole =
    let run = number_of-decimal t.run whole.0 in
    let seen = number_of-decimal t.seen whole.1 in
    rw run (rw seen refl)

at_is : (r : Option BlockRef) (block : BlockRef) → is_at r block ≡ true → r ≡ Some block
at_is None block e = absurd (cc e)
at_is (Some p) block e = ap Some (ref_is p block e)

-- the end and the lib that a form leaves out are the block
record FormFits (form : Form) (block : BlockRef) (end lib : Option BlockRef) (first second : Option BlockRef) : Type 0 where
  end_is : end_by form block first ≡ end
  lib_is : lib_by form block first second ≡ lib

-- the pairs that a form writes
firsts : Form → Option BlockRef → Option BlockRef → Option BlockRef
firsts AtEnd end lib = lib
firsts AtLib end lib = end
firsts Apart end lib = end

seconds : Form → Option BlockRef → Option BlockRef
seconds AtEnd lib = None
seconds AtLib lib = None
seconds Apart lib = lib

form_fits : (form : Form) (block : BlockRef) (end lib : Option BlockRef) → form_for block end lib ≡ form → FormFits form block end lib (firsts form end lib) (seconds form lib)
unfolding firsts seconds
form_fits form block end lib e = by_end (is_at end block) refl e
  where
    by_lib : (t : Bool) → is_at lib block ≡ t → cond t AtLib Apart ≡ form → FormFits form block end lib (firsts form end lib) (seconds form lib)
    by_lib true is e = subst (λ f. FormFits f block end lib (firsts f end lib) (seconds f lib)) e (record { end_is = refl; lib_is = sym (at_is lib block is) })
    by_lib false is e = subst (λ f. FormFits f block end lib (firsts f end lib) (seconds f lib)) e (record { end_is = refl; lib_is = refl })

    by_end : (t : Bool) → is_at end block ≡ t → cond t AtEnd (cond (is_at lib block) AtLib Apart) ≡ form → FormFits form block end lib (firsts form end lib) (seconds form lib)
    by_end true is e = subst (λ f. FormFits f block end lib (firsts f end lib) (seconds f lib)) e (record { end_is = sym (at_is end block is); lib_is = refl })
    by_end false is e = by_lib (is_at lib block) refl e

same_itself : (form : Form) → same_form form form ≡ true
same_itself AtEnd = refl
same_itself AtLib = refl
same_itself Apart = refl

-- the words of a form with its block and place
words_with : Form → Step → BlockRef → Option BlockRef → Option BlockRef → List (List ℕ)
words_with form kind block end lib = form_word form ∷ decimal (step_number kind) ∷ decimal block.num ∷ block.id ∷ place_words form end lib

count_with : (form : Form) (kind : Step) (block : BlockRef) (end lib : Option BlockRef) → length (words_with form kind block end lib) ≡ word_count form
unfolding words_with
count_with AtEnd kind block end None = refl
count_with AtEnd kind block end (Some l) = refl
count_with AtLib kind block None lib = refl
count_with AtLib kind block (Some e) lib = refl
count_with Apart kind block None None = refl
count_with Apart kind block None (Some l) = refl
count_with Apart kind block (Some e) None = refl
count_with Apart kind block (Some e) (Some l) = refl

first_stands : (form : Form) (kind : Step) (block : BlockRef) (end lib : Option BlockRef) → Stand (words_with form kind block end lib) 4 (pair_words (firsts form end lib))
unfolding words_with firsts
first_stands AtEnd kind block end None = (refl, (refl, tt))
first_stands AtEnd kind block end (Some l) = (refl, (refl, tt))
first_stands AtLib kind block None lib = (refl, (refl, tt))
first_stands AtLib kind block (Some e) lib = (refl, (refl, tt))
first_stands Apart kind block None lib = (refl, (refl, tt))
first_stands Apart kind block (Some e) lib = (refl, (refl, tt))

second_reads : (form : Form) (kind : Step) (block : BlockRef) (end lib : Option BlockRef) → IsRefIfAny lib → second_at form (words_with form kind block end lib) ≡ Ok (seconds form lib)
unfolding words_with seconds
second_reads AtEnd kind block end lib whole = refl
second_reads AtLib kind block end lib whole = refl
second_reads Apart kind block None None whole = pair_reads (words_with Apart kind block None None) 6 7 None (refl, (refl, tt)) whole
second_reads Apart kind block None (Some l) whole = pair_reads (words_with Apart kind block None (Some l)) 6 7 (Some l) (refl, (refl, tt)) whole
second_reads Apart kind block (Some e) None whole = pair_reads (words_with Apart kind block (Some e) None) 6 7 None (refl, (refl, tt)) whole
second_reads Apart kind block (Some e) (Some l) whole = pair_reads (words_with Apart kind block (Some e) (Some l)) 6 7 (Some l) (refl, (refl, tt)) whole

first_whole : (form : Form) (end lib : Option BlockRef) → IsRefIfAny end → IsRefIfAny lib → IsRefIfAny (firsts form end lib)
unfolding firsts
first_whole AtEnd end lib he hl = hl
first_whole AtLib end lib he hl = he
first_whole Apart end lib he hl = he

whole_reads : (form : Form) (count : ℕ) (c : Cursor) → count ≡ word_count form → form_for c.block c.place.end c.place.lib ≡ form → whole_of form count c ≡ Ok c
whole_reads form count c count_is form_is =
    let same : same_form (form_for c.block c.place.end c.place.lib) form ≡ true = ap (λ f. same_form f form) form_is ∙ same_itself form in
    let counted : (count == word_count form) ≡ true = ap (λ n. n == word_count form) count_is ∙ eq-eqb (word_count form) (word_count form) refl in
    rw (counted, same) refl

reads_with : (form : Form) (c : Cursor) (front : List ℕ) → IsPrintable c → form_for c.block c.place.end c.place.lib ≡ form → cursor_of (words_with form c.step c.block c.place.end c.place.lib) (front ∷ tail_parts c.tail) ≡ Ok c
unfolding words_with
reads_with form c front p e =
    let end : Option BlockRef = c.place.end in
    let lib : Option BlockRef = c.place.lib in
    let ws : List (List ℕ) = words_with form c.step c.block end lib in
    let first : Option BlockRef = firsts form end lib in
    let second : Option BlockRef = seconds form lib in
    let fits = form_fits form c.block end lib e in
    let made : cursor_by form c.step c.block first second c.tail ≡ c = rw (fits.end_is, fits.lib_is) refl in
    then_ok (part_at 1 form_named (slice_get ws 0)) form _ _ (form_read form)
    (then_ok (part_at 2 step_named (slice_get ws 1)) c.step _ _ (step_read form)
    (then_ok (ref_at ws 2 3) c.block _ _ (block_read form)
    (then_ok (pair_at ws 4 5) first _ _ (pair_reads ws 4 5 first (first_stands form c.step c.block end lib) (first_whole form end lib p.end p.lib))
    (then_ok (second_at form ws) second _ _ (second_reads form c.step c.block end lib p.lib)
    (then_ok (tail_of (front ∷ tail_parts c.tail)) c.tail _ _ (tail_reads front c.tail p.tail)
    (ap (whole_of form (length ws)) made ∙ whole_reads form (length ws) c (count_with form c.step c.block end lib) e))))))
  where
    form_read : (f : Form) → part_at 1 form_named (slice_get (words_with f c.step c.block c.place.end c.place.lib) 0) ≡ Ok f
    form_read f = ap (λ o. ok_or o 1) (form_reads f)

    step_read : (f : Form) → part_at 2 step_named (slice_get (words_with f c.step c.block c.place.end c.place.lib) 1) ≡ Ok c.step
    step_read f = ap (λ o. ok_or o 2) (step_reads c.step)

    block_read : (f : Form) → ref_at (words_with f c.step c.block c.place.end c.place.lib) 2 3 ≡ Ok c.block
    block_read f = ref_reads (words_with f c.step c.block c.place.end c.place.lib) 2 3 c.block refl refl p.block

-- the plain text of a cursor is read as it
pub plain_reads : (c : Cursor) → IsPrintable c → cursor_of (words (parts (plain_text c))) (parts (plain_text c)) ≡ Ok c
unfolding words_with
plain_reads c p =
    let form : Form = form_for c.block c.place.end c.place.lib in
    let ps : List (List ℕ) = front_text c ∷ tail_parts c.tail in
    let cut : parts (plain_text c) ≡ ps = parts_printed c p in
    ap (λ l. cursor_of (words l) l) cut ∙ ap (λ ws. cursor_of ws ps) (words_printed c p) ∙ reads_with form c (front_text c) p refl
