-- The cursor that a text is.
use Rattle.std.proofs.Common.{◌≡◌, ℕ, List, Option, Some, None, Result, Ok, Err, refl, sym, ap, ◌∙◌}
use Rattle.std.specs.Result.{result_ok}
use Rattle.base64.specs.declared.decode.DecodeError.{DecodeError}
use Rattle.base64.specs.GeneralPurpose.{decode_of, IsBytes}
use Rattle.base64.specs.Engines.{url_safe_no_pad}
use Rattle.step_cursor.specs.declared.cursor.Cursor.{Cursor}
use Rattle.step_cursor.specs.declared.cursor.CursorFault.{CursorFault}
use Rattle.step_cursor.specs.declared.cursor.CursorFault.TheVariants.{Malformed}
use Rattle.step_cursor.specs.CursorText.{cursor_text, plain_text, IsPrintable}
use Rattle.step_cursor.specs.CursorParts.{parts, words}
use Rattle.step_cursor.specs.Reading.{cursor_of, answer, UnlessMem}
use Rattle.step_cursor.proofs.public.TextFacts.{answered, decoded_plain}
use Rattle.reply_reader.specs.Parts.{◌>>=◌, plain_cursor, cursor_in}

some_is : {A : Type 0} (x y : A) → (let o : Option A = Some x in o) ≡ Some y → x ≡ y
some_is x y e = cc

-- a text that is read as a cursor is its text
pub cursor_takes : (text : List ℕ) (c : Cursor) → IsBytes text → cursor_in text ≡ Some c → (text ≡ cursor_text c) × IsPrintable c
unfolding cursor_in
cursor_takes text c bytes e = by_decoding (decode_of url_safe_no_pad text) refl e
  where
    by_answer : (plain : List ℕ) (r : Result Cursor ℕ) → cursor_of (words (parts plain)) (parts plain) ≡ r → decode_of url_safe_no_pad text ≡ Ok plain → result_ok r ≡ Some c → (text ≡ cursor_text c) × IsPrintable c
    by_answer plain (Err k) is decoded e = absurd (cc e)
    by_answer plain (Ok d) is decoded e =
        let same : d ≡ c = some_is d c e in
        let all = answered text plain (Ok c) bytes decoded (λ apart. ap Ok (sym same) ∙ sym (ap answer is)) in
        (all.spelled, all.printable)

    by_decoding : (r : Result (List ℕ) DecodeError) → decode_of url_safe_no_pad text ≡ r → (result_ok r >>= plain_cursor) ≡ Some c → (text ≡ cursor_text c) × IsPrintable c
    by_decoding (Err x) is e = absurd (cc e)
    by_decoding (Ok plain) is e = by_answer plain (cursor_of (words (parts plain)) (parts plain)) refl is e

-- the text of a cursor is read as it
pub cursor_again : (text : List ℕ) (c : Cursor) → IsBytes text → IsPrintable c → text ≡ cursor_text c → cursor_in text ≡ Some c
unfolding cursor_in
cursor_again text c bytes p same =
    let decoded : decode_of url_safe_no_pad text ≡ Ok (plain_text c) = ap (decode_of url_safe_no_pad) same ∙ decoded_plain c p in
    ap (λ r. result_ok r >>= plain_cursor) decoded ∙ by_answer (cursor_of (words (parts (plain_text c))) (parts (plain_text c))) refl decoded
  where
    by_answer : (r : Result Cursor ℕ) → cursor_of (words (parts (plain_text c))) (parts (plain_text c)) ≡ r → decode_of url_safe_no_pad text ≡ Ok (plain_text c) → result_ok r ≡ Some c
    by_answer (Err k) is decoded =
        let all = answered text (plain_text c) (Err (Malformed k)) bytes decoded (λ apart. sym (ap answer is)) in
        absurd (let clash = all.reads c p same (λ e. cc e) in cc clash)
    by_answer (Ok d) is decoded =
        let all = answered text (plain_text c) (Ok d) bytes decoded (λ apart. sym (ap answer is)) in
        let one = all.reads c p same (λ e. cc e) in
        cc one

-- a text that is refused is that of no cursor
pub no_cursor : (text : List ℕ) (r : Result Cursor CursorFault) (place : ℕ) → IsBytes text → ((c : Cursor) → IsPrintable c → text ≡ cursor_text c → UnlessMem r (r ≡ Ok c)) → r ≡ Err (Malformed place) → cursor_in text ≡ None
no_cursor text r place bytes reads is = by_value (cursor_in text) refl
  where
    by_value : (o : Option Cursor) → cursor_in text ≡ o → o ≡ None
    by_value None e = refl
    by_value (Some c) e =
        let t = cursor_takes text c bytes e in
        absurd (let clash = sym is ∙ reads c t.1 t.0 (λ m. let both = sym is ∙ m in cc both) in cc clash)
