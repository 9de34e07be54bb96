-- Each reply is one line, so its name comes before it once.
use Rattle.std.proofs.Common.{◌≡◌, ◌<◌, ◌^◌, ℕ, zero, suc, Bool, true, false, ◌||◌, cond, eqb, List, [], ◌∷◌, ◌++◌, get_or, replicate, Option, Some, None, refl, sym, ◌∙◌, ap, append_assoc}
use Rattle.std.specs.Prelude.{codes, nat_lt}
use Rattle.std.specs.List.{AllByRecursion, concat, list_all}
use Rattle.std.specs.Fmt.{decimal}
use Rattle.std.proofs.Math.Dec.{ltb}
use Rattle.std.proofs.lemmas.Bool.{and_parts, ne_eqb, false≢true}
use Rattle.base64.specs.GeneralPurpose.{encode_of}
use Rattle.base64.specs.Engines.{standard, url_safe_no_pad}
use Rattle.base64.specs.Rfc4648.{encode_symbols}
use Rattle.hex.specs.Hex.{encode_lower, encode_with, lower_digits}
use Rattle.block_record.specs.declared.blocks.Block.{Block}
use Rattle.block_record.specs.declared.blocks.BlockRef.{BlockRef}
use Rattle.block_record.specs.Texts.{is_id_byte, IsId}
use Rattle.chain_model.specs.declared.places.Step.{Step}
use Rattle.chain_model.specs.declared.places.Step.TheVariants as step
use Rattle.chain_model.specs.declared.places.Place.{Place}
use Rattle.step_cursor.specs.declared.cursor.Tail.{Tail}
use Rattle.step_cursor.specs.declared.cursor.MisfitField.{MisfitField}
use Rattle.step_cursor.specs.declared.cursor.MisfitField.TheVariants as misfit
use Rattle.step_cursor.specs.CursorText.{cursor_text, IsRefIfAny}
use Rattle.step_text.specs.StepText.{word_of}
use Rattle.text_parts.specs.Parts.{escaped, escaped_byte}
use Rattle.reply_text.specs.declared.errors.RequestField.{RequestField}
use Rattle.reply_text.specs.declared.errors.RequestField.TheVariants as field
use Rattle.reply_text.specs.declared.errors.ErrorLine.{ErrorLine}
use Rattle.reply_text.specs.declared.errors.ErrorLine.TheVariants as fault
use Rattle.reply_text.specs.Lines.{cursor_after, end_line, error_line, head_line, misfit_word, open_line, ref_text, request_word, step_front, step_line}
use Rattle.reply_text.specs.Replies.{Reply, Open, StepOf, Head, End, Error, reply_line, reply_text}
use Rattle.reply_text.specs.Values.{IsBlockValue, IsErrorValue, IsOpenValue, IsValue}
use Rattle.reply_laws.proofs.public.Readers.{NoneIs, none-append, none-decimal, none-test, right, whole_right}
use Rattle.replay_text.specs.Laws.{RepliesAreLines}
use Rattle.replay_text.specs.Replies.{lines_after}

-- ---- texts without an LF

-- a byte above the LF
abbrev is_above : ℕ → Bool
is_above b = nat_lt 10 b

plain : (text : List ℕ) → list_all is_above text ≡ true → NoneIs 10 text
plain text all = none-test is_above 10 text refl all

number : (n : ℕ) → n < 2 ^ 64 → NoneIs 10 (decimal n)
number n small = none-decimal 10 n refl small

an_id : (id : List ℕ) → IsId id → NoneIs 10 id
an_id id is = none-test is_id_byte 10 id refl (and_parts _ _ is).1

parts : (ps : List (List ℕ)) → AllByRecursion (NoneIs 10) ps → NoneIs 10 (concat ps)
parts [] all = tt
parts (p ∷ ps) all = none-append 10 p (concat ps) all.0 (parts ps all.1)

symbol : (t : List ℕ) (i : ℕ) → NoneIs 10 t → eqb (get_or t i 0) 10 ≡ false
symbol [] i none = refl
symbol (x ∷ t) zero none = none.0
symbol (x ∷ t) (suc i) none = symbol t i none.1

symbols : (t m : List ℕ) → NoneIs 10 t → NoneIs 10 (encode_symbols t m)
unfolding encode_symbols
symbols t [] none = tt
symbols t (a ∷ []) none = (symbol t _ none, (symbol t _ none, tt))
symbols t (a ∷ b ∷ []) none = (symbol t _ none, (symbol t _ none, (symbol t _ none, tt)))
symbols t (a ∷ b ∷ c ∷ rest) none = (symbol t _ none, (symbol t _ none, (symbol t _ none, (symbol t _ none, symbols t rest none))))

padding : (n : ℕ) → NoneIs 10 (replicate n 61)
padding zero = tt
padding (suc n) = (refl, padding n)

payload : (m : List ℕ) → NoneIs 10 (encode_of standard m)
payload m = none-append 10 (encode_symbols standard.encode_table m) _ (symbols standard.encode_table m (plain standard.encode_table refl)) (padding _)

cursor : (m : List ℕ) → NoneIs 10 (encode_of url_safe_no_pad m)
cursor m = none-append 10 (encode_symbols url_safe_no_pad.encode_table m) _ (symbols url_safe_no_pad.encode_table m (plain url_safe_no_pad.encode_table refl)) tt

digits : (m : List ℕ) → NoneIs 10 (encode_lower m)
unfolding encode_with
digits [] = tt
digits (b ∷ m) = (symbol lower_digits _ (plain lower_digits refl), (symbol lower_digits _ (plain lower_digits refl), digits m))

-- whether a byte has a backslash before it
abbrev is_quoted : ℕ → Bool
is_quoted b = eqb b 34 || eqb b 92

one_escaped : (x : ℕ) → NoneIs 10 (escaped_byte x)
one_escaped x = go (is_quoted x) (ltb x 32) refl refl
  where
    go : (t v : Bool) → is_quoted x ≡ t → ltb x 32 ≡ v → NoneIs 10 (cond t (92 ∷ x ∷ []) (cond v (codes "\\u00" ++ encode_lower (x ∷ [])) (x ∷ [])))
    go true v k j = (refl, (ne_eqb x 10 (λ (e : x ≡ 10). false≢true (ap is_quoted (sym e) ∙ k)), tt))
    go false true k j = none-append 10 (codes "\\u00") (encode_lower (x ∷ [])) (plain (codes "\\u00") refl) (digits (x ∷ []))
    go false false k j = (ne_eqb x 10 (λ (e : x ≡ 10). false≢true (sym j ∙ ap (λ b. ltb b 32) e)), tt)

text : (m : List ℕ) → NoneIs 10 (escaped m)
text [] = tt
text (x ∷ m) = none-append 10 (escaped_byte x) (escaped m) (one_escaped x) (text m)

-- ---- lines

-- a line whose bytes but the last are no LF
record IsLine (line : List ℕ) : Type 0 where
  body : List ℕ
  none : NoneIs 10 body
  whole : line ≡ body ++ 10 ∷ []

of_parts : (ps : List (List ℕ)) (line : List ℕ) → AllByRecursion (NoneIs 10) ps → line ≡ right ps (10 ∷ []) → IsLine line
of_parts ps line all e = record { body = concat ps; none = parts ps all; whole = e ∙ sym (whole_right ps (10 ∷ [])) }

a_ref : (r : Option BlockRef) → IsRefIfAny r → NoneIs 10 (ref_text r)
a_ref None is = plain (codes "null") refl
a_ref (Some r) is =
    parts (codes "{\"num\":" ∷ decimal r.num ∷ codes ",\"id\":\"" ∷ r.id ∷ codes "\"}" ∷ [])
    (plain (codes "{\"num\":") refl, (number r.num is.num, (plain (codes ",\"id\":\"") refl, (an_id r.id is.id, (plain (codes "\"}") refl, tt)))))

open_is : (type : List ℕ) (run : ℕ) (place : Place) → IsOpenValue type run place → IsLine (open_line type run place)
open_is type run place is =
    of_parts
    (codes "{\"open\":\"" ∷ escaped type ∷ codes "\",\"run\":" ∷ decimal run ∷ codes ",\"end\":" ∷ ref_text place.end ∷ codes ",\"lib\":" ∷ ref_text place.lib ∷ codes "}" ∷ [])
    (open_line type run place)
    (plain (codes "{\"open\":\"") refl, (text type, (plain (codes "\",\"run\":") refl, (number run is.run_small, (plain (codes ",\"end\":") refl, (a_ref place.end is.end, (plain (codes ",\"lib\":") refl, (a_ref place.lib is.lib, (plain (codes "}") refl, tt))))))))) refl

a_word : (s : Step) → NoneIs 10 (word_of s)
a_word step.New = plain (word_of step.New) refl
a_word step.Undo = plain (word_of step.Undo) refl
a_word step.Final = plain (word_of step.Final) refl
a_word step.NewFinal = plain (word_of step.NewFinal) refl

front_none : (s : Step) (b : Block) → IsBlockValue b → NoneIs 10 (step_front s b)
front_none s b is =
    parts
    (codes "{\"step\":\"" ∷ word_of s ∷ codes "\",\"num\":" ∷ decimal b.num ∷ codes ",\"id\":\"" ∷ b.id
    ∷ codes "\",\"parent_num\":" ∷ decimal b.parent_num ∷ codes ",\"parent_id\":\"" ∷ b.parent_id
    ∷ codes "\",\"lib_num\":" ∷ decimal b.lib_num ∷ codes ",\"time\":" ∷ decimal b.time
    ∷ codes ",\"payload\":\"" ∷ encode_of standard b.payload ∷ codes "\",\"digest\":\"" ∷ encode_lower b.digest ∷ codes "\",\"cursor\":\"" ∷ []) (
      plain (codes "{\"step\":\"") refl,
      (
        a_word s,
        (
          plain (codes "\",\"num\":") refl,
          (
            number b.num is.num,
            (
              plain (codes ",\"id\":\"") refl,
              (
                an_id b.id is.id,
                (
                  plain (codes "\",\"parent_num\":") refl,
                  (
                    number b.parent_num is.parent_num,
                    (
                      plain (codes ",\"parent_id\":\"") refl,
                      (
                        an_id b.parent_id is.parent_id,
                        (
                          plain (codes "\",\"lib_num\":") refl,
                          (
                            number b.lib_num is.lib_num,
                            (
                              plain (codes ",\"time\":") refl,
                              (
                                number b.time is.time,
                                (plain (codes ",\"payload\":\"") refl, (payload b.payload, (plain (codes "\",\"digest\":\"") refl, (digits b.digest, (plain (codes "\",\"cursor\":\"") refl, tt))))),
                              ),
                            ),
                          ),
                        ),
                      ),
                    ),
                  ),
                ),
              ),
            ),
          ),
        ),
      ),
    )

step_is : (s : Step) (b : Block) (place : Place) (tail : Tail) → IsBlockValue b → IsLine (step_line s b place tail)
step_is s b place tail is =
    of_parts (step_front s b ∷ cursor_text (cursor_after s b place tail) ∷ codes "\"}" ∷ []) (step_line s b place tail)
    (front_none s b is, (cursor _, (plain (codes "\"}") refl, tt))) refl

head_is : (head : Option BlockRef) (seen : ℕ) → IsRefIfAny head → seen < 2 ^ 64 → IsLine (head_line head seen)
head_is head seen is small =
    of_parts (codes "{\"head\":" ∷ ref_text head ∷ codes ",\"seen\":" ∷ decimal seen ∷ codes "}" ∷ []) (head_line head seen)
    (plain (codes "{\"head\":") refl, (a_ref head is, (plain (codes ",\"seen\":") refl, (number seen small, (plain (codes "}") refl, tt))))) refl

end_is : (done : Bool) → IsLine (end_line done)
end_is true = record { body = codes "{\"end\":\"done\"}"; none = plain (codes "{\"end\":\"done\"}") refl; whole = refl }
end_is false = record { body = codes "{\"end\":\"closing\"}"; none = plain (codes "{\"end\":\"closing\"}") refl; whole = refl }

a_field : (f : RequestField) → NoneIs 10 (request_word f)
a_field field.Shape = plain (request_word field.Shape) refl
a_field field.Extra = plain (request_word field.Extra) refl
a_field field.Start = plain (request_word field.Start) refl
a_field field.Stop = plain (request_word field.Stop) refl
a_field field.FinalOnly = plain (request_word field.FinalOnly) refl
a_field field.Cursor = plain (request_word field.Cursor) refl

a_misfit : (f : MisfitField) → NoneIs 10 (misfit_word f)
a_misfit misfit.Block = plain (misfit_word misfit.Block) refl
a_misfit misfit.End = plain (misfit_word misfit.End) refl
a_misfit misfit.Lib = plain (misfit_word misfit.Lib) refl
a_misfit misfit.Step = plain (misfit_word misfit.Step) refl
a_misfit misfit.Seen = plain (misfit_word misfit.Seen) refl

-- a line of three parts
three : (front value back line : List ℕ) → list_all is_above front ≡ true → NoneIs 10 value → list_all is_above back ≡ true → line ≡ right (front ∷ value ∷ back ∷ []) (10 ∷ []) → IsLine line
three front value back line f v b e = of_parts (front ∷ value ∷ back ∷ []) line (plain front f, (v, (plain back b, tt))) e

-- a line without a value
fixed : (body line : List ℕ) → list_all is_above body ≡ true → line ≡ body ++ 10 ∷ [] → IsLine line
fixed body line b e = record { body = body; none = plain body b; whole = e }

error_is : (e : ErrorLine) → IsErrorValue e → IsLine (error_line e)
error_is (fault.BadRequest f) is = three (codes "{\"error\":\"bad_request\",\"field\":\"") (request_word f) (codes "\"}") _ refl (a_field f) refl refl
error_is fault.TooLong is = fixed (codes "{\"error\":\"too_long\"}") _ refl refl
error_is (fault.Malformed at) is = three (codes "{\"error\":\"malformed\",\"at\":") (decimal at) (codes "}") _ refl (number at is) refl refl
error_is (fault.Unknown id) is = three (codes "{\"error\":\"unknown\",\"id\":\"") id (codes "\"}") _ refl (an_id id is) refl refl
error_is (fault.Misfit f) is = three (codes "{\"error\":\"misfit\",\"field\":\"") (misfit_word f) (codes "\"}") _ refl (a_misfit f) refl refl
error_is (fault.StopBelow end) is = three (codes "{\"error\":\"stop_below\",\"end\":") (decimal end) (codes "}") _ refl (number end is) refl refl
error_is fault.ShelfFault is = fixed (codes "{\"error\":\"shelf\"}") _ refl refl
error_is (fault.ShelfBad name at) is =
    of_parts (codes "{\"error\":\"shelf_bad\",\"name\":\"" ∷ escaped name ∷ codes "\",\"at\":" ∷ decimal at ∷ codes "}" ∷ []) _
    (plain (codes "{\"error\":\"shelf_bad\",\"name\":\"") refl, (text name, (plain (codes "\",\"at\":") refl, (number at is, (plain (codes "}") refl, tt))))) refl
error_is (fault.Missing name) is = three (codes "{\"error\":\"missing\",\"name\":\"") (escaped name) (codes "\"}") _ refl (text name) refl refl
error_is (fault.StoredOther num id) is =
    of_parts (codes "{\"error\":\"stored_other\",\"num\":" ∷ decimal num ∷ codes ",\"id\":\"" ∷ id ∷ codes "\"}" ∷ []) _
    (plain (codes "{\"error\":\"stored_other\",\"num\":") refl, (number num is.0, (plain (codes ",\"id\":\"") refl, (an_id id is.1, (plain (codes "\"}") refl, tt))))) refl
error_is fault.Spent is = fixed (codes "{\"error\":\"spent\"}") _ refl refl
error_is fault.Mem is = fixed (codes "{\"error\":\"memory\"}") _ refl refl

reply_is : (r : Reply) → IsValue r → IsLine (reply_line r)
reply_is (Open type run place) is = open_is type run place is
reply_is (StepOf s b place tail) is = step_is s b place tail is.0
reply_is (Head head seen) is = head_is head seen is.0 is.1
reply_is (End done) is = end_is done
reply_is (Error e) is = error_is e is

-- ---- the name before each

goes_on : (front body more : List ℕ) → NoneIs 10 body → lines_after front false (body ++ 10 ∷ more) ≡ body ++ 10 ∷ lines_after front true more
goes_on front [] more none = refl
goes_on front (b ∷ body) more none = rw none.0 (ap (λ l. b ∷ l) (goes_on front body more none.1))

begins : (front body more : List ℕ) → NoneIs 10 body → lines_after front true (body ++ 10 ∷ more) ≡ front ++ (body ++ 10 ∷ lines_after front true more)
begins front [] more none = refl
begins front (b ∷ body) more none = ap (λ l. front ++ l) (goes_on front (b ∷ body) more none)

-- a line, and then more
one_more : (front line more : List ℕ) → IsLine line → lines_after front true (line ++ more) ≡ (front ++ line) ++ lines_after front true more
one_more front line more is =
    let later = lines_after front true more in
    ap (λ l. lines_after front true (l ++ more)) is.whole
    ∙ ap (lines_after front true) (append_assoc is.body (10 ∷ []) more)
    ∙ begins front is.body more is.none
    ∙ ap (λ l. front ++ l) (sym (append_assoc is.body (10 ∷ []) later))
    ∙ ap (λ l. front ++ (l ++ later)) (sym is.whole)
    ∙ sym (append_assoc front line later)

pub replies_are_lines : RepliesAreLines
replies_are_lines c [] all = refl
replies_are_lines c (r ∷ replies) all =
    one_more (c ++ codes " ") (reply_line r) (reply_text replies) (reply_is r all.0)
    ∙ ap (λ l. ((c ++ codes " ") ++ reply_line r) ++ l) (replies_are_lines c replies all.1)
