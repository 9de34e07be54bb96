-- What texts in base64url are read as.
use Rattle.std.proofs.Common.{◌≡◌, ℕ, List, None, Some, Result, Ok, Err, refl, sym, ◌∙◌, ap, subst}
use Rattle.std.specs.Prelude.{[], slice_get, unwrap_or, ◌==◌, IfOk}
use Rattle.std.specs.List.{slice_split}
use Rattle.std.specs.Result.{result_err, IsErr, IsErrAnd}
use Rattle.base64.specs.declared.decode.DecodeError.{DecodeError}
use Rattle.base64.specs.GeneralPurpose.{decode_of, encode_of, IsBytes}
use Rattle.base64.specs.Engines.{url_safe_no_pad}
use Rattle.base64.proofs.EngineFacts.{decode_of-encode_of, decode_of_strict}
use Rattle.step_cursor.specs.declared.cursor.Cursor.{Cursor}
use Rattle.step_cursor.specs.CursorText.{plain_text, cursor_text, IsPrintable}
use Rattle.step_cursor.specs.CursorParts.{parts, words, fault_of, cursor_fault}
use Rattle.step_cursor.specs.declared.cursor.CursorFault.{CursorFault}
use Rattle.step_cursor.specs.declared.cursor.CursorFault.TheVariants.{Malformed, Mem}
use Rattle.step_cursor.specs.Reading.{cursor_of, answer, place_named, UnlessMem, IsNoText}
use Rattle.step_cursor.specs.Laws.{IsSpelled, PrintedIsRead}
use Rattle.step_cursor.proofs.ReadFacts.{plain_read}
use Rattle.step_cursor.proofs.FaultFacts.{fault_read}
use Rattle.step_cursor.proofs.PrintFacts.{plain_reads, plain_bytes}

-- a text decodes to the plain text of a cursor where it is the cursor's
pub decoded_plain : (c : Cursor) → IsPrintable c → decode_of url_safe_no_pad (cursor_text c) ≡ Ok (plain_text c)
decoded_plain c p = decode_of-encode_of url_safe_no_pad (plain_text c) refl (plain_bytes c p)

-- the text that decodes so is the one that spells it
pub spelled_text : (text plain : List ℕ) → IsBytes text → decode_of url_safe_no_pad text ≡ Ok plain → text ≡ encode_of url_safe_no_pad plain
spelled_text text plain bytes decoded = decode_of_strict url_safe_no_pad text plain (refl, refl) bytes decoded

-- a text that decodes so has the fault of what it decodes to
pub fault_decoded : (text plain : List ℕ) → decode_of url_safe_no_pad text ≡ Ok plain → cursor_fault text ≡ result_err (cursor_of (words (parts plain)) (parts plain))
fault_decoded text plain decoded = ap fault_of decoded ∙ fault_read plain

good : (c : Cursor) → IsPrintable c → cursor_fault (cursor_text c) ≡ None
good c p = fault_decoded (cursor_text c) (plain_text c) (decoded_plain c p) ∙ ap result_err (plain_reads c p)

one_value : (a b : Cursor) → IsPrintable a → IsPrintable b → cursor_text a ≡ cursor_text b → a ≡ b
one_value a b pa pb same =
    let left : Result (List ℕ) DecodeError = Ok (plain_text a) in
    let plain : left ≡ Ok (plain_text b) = sym (decoded_plain a pa) ∙ ap (decode_of url_safe_no_pad) same ∙ decoded_plain b pb in
    let one : plain_text a ≡ plain_text b = cc plain in
    let read : Result Cursor ℕ = Ok a in
    let both : read ≡ Ok b = sym (plain_reads a pa) ∙ ap (λ t. cursor_of (words (parts t)) (parts t)) one ∙ plain_reads b pb in
    cc both

read_without_fault : (r : Result Cursor ℕ) → result_err r ≡ None → (c : Cursor) × (r ≡ Ok c)
read_without_fault (Ok c) e = (c, refl)
read_without_fault (Err k) e = absurd (cc e)

spelled : (text : List ℕ) → IsBytes text → cursor_fault text ≡ None → IsSpelled text
spelled text bytes e = by_decoding (decode_of url_safe_no_pad text) refl e
  where
    by_decoding : (r : Result (List ℕ) DecodeError) → decode_of url_safe_no_pad text ≡ r → fault_of r ≡ None → IsSpelled text
    by_decoding (Err x) is e = absurd (cc e)
    by_decoding (Ok plain) is e =
        let found = read_without_fault (cursor_of (words (parts plain)) (parts plain)) (sym (fault_read plain) ∙ e) in
        let read = plain_read plain found.0 found.1 in
        record { cursor = found.0; printable = read.1; text_is = spelled_text text plain bytes is ∙ ap (encode_of url_safe_no_pad) read.0 }

pub printed_is_read : PrintedIsRead
printed_is_read = record { good = good; spelled = spelled; one_value = one_value }

-- parts and words that were cut from a plain text are its own
pub cut_so : (plain front : List ℕ) (ws ps : List (List ℕ)) → ps ≡ parts plain → front ≡ unwrap_or (slice_get ps 0) [] → ws ≡ slice_split (λ b. b == 58) front → cursor_of ws ps ≡ cursor_of (words (parts plain)) (parts plain)
cut_so plain front ws ps ps_is front_is ws_is =
    ap (λ w. cursor_of w ps) (ws_is ∙ ap (slice_split (λ b. b == 58)) front_is) ∙ ap (λ l. cursor_of (words l) l) ps_is

-- an answer to a text, as the reader promises it
pub record IsAnswerTo (text : List ℕ) (r : Result Cursor CursorFault) : Type 0 where
  pub spelled : IfOk r (λ c. text ≡ cursor_text c)
  pub printable : IfOk r (λ c. IsPrintable c)
  pub reads : (c : Cursor) → IsPrintable c → text ≡ cursor_text c → UnlessMem r (r ≡ Ok c)
  pub fault : UnlessMem r (place_named r ≡ cursor_fault text)

named_answer : (r : Result Cursor ℕ) → place_named (answer r) ≡ result_err r
named_answer (Ok c) = refl
named_answer (Err k) = refl

answer_spelled : (text plain : List ℕ) (r : Result Cursor ℕ) → cursor_of (words (parts plain)) (parts plain) ≡ r → IsBytes text → decode_of url_safe_no_pad text ≡ Ok plain → IfOk (answer r) (λ c. text ≡ cursor_text c)
answer_spelled text plain (Ok c) is bytes decoded = spelled_text text plain bytes decoded ∙ ap (encode_of url_safe_no_pad) (plain_read plain c is).0
answer_spelled text plain (Err k) is bytes decoded = tt

answer_printable : (plain : List ℕ) (r : Result Cursor ℕ) → cursor_of (words (parts plain)) (parts plain) ≡ r → IfOk (answer r) (λ c. IsPrintable c)
answer_printable plain (Ok c) is = (plain_read plain c is).1
answer_printable plain (Err k) is = tt

answer_reads : (text plain : List ℕ) (c : Cursor) → IsPrintable c → text ≡ cursor_text c → decode_of url_safe_no_pad text ≡ Ok plain → cursor_of (words (parts plain)) (parts plain) ≡ Ok c
answer_reads text plain c p same decoded =
    let left : Result (List ℕ) DecodeError = Ok plain in
    let both : left ≡ Ok (plain_text c) = sym decoded ∙ ap (decode_of url_safe_no_pad) same ∙ decoded_plain c p in
    let one : plain ≡ plain_text c = cc both in
    ap (λ t. cursor_of (words (parts t)) (parts t)) one ∙ plain_reads c p

-- what a text that decodes is answered
pub answered : (text plain : List ℕ) (r : Result Cursor CursorFault) → IsBytes text → decode_of url_safe_no_pad text ≡ Ok plain
    → UnlessMem r (r ≡ answer (cursor_of (words (parts plain)) (parts plain))) → IsAnswerTo text r
answered text plain (Err Mem) bytes decoded is = record { spelled = tt; printable = tt; reads = λ c p same apart. absurd (apart refl); fault = λ apart. absurd (apart refl) }
answered text plain (Ok a) bytes decoded is = by_answer (is (λ e. cc e))
  where
    by_answer : Ok a ≡ answer (cursor_of (words (parts plain)) (parts plain)) → IsAnswerTo text (Ok a)
    by_answer e = subst (IsAnswerTo text) (sym e) (record {
      spelled = answer_spelled text plain _ refl bytes decoded;
      printable = answer_printable plain _ refl;
      reads = λ c p same apart. ap answer (answer_reads text plain c p same decoded);
      fault = λ apart. named_answer _ ∙ sym (fault_decoded text plain decoded);
    })
answered text plain (Err (Malformed at)) bytes decoded is = by_answer (is (λ e. cc e))
  where
    by_answer : Err (Malformed at) ≡ answer (cursor_of (words (parts plain)) (parts plain)) → IsAnswerTo text (Err (Malformed at))
    by_answer e = subst (IsAnswerTo text) (sym e) (record {
      spelled = answer_spelled text plain _ refl bytes decoded;
      printable = answer_printable plain _ refl;
      reads = λ c p same apart. ap answer (answer_reads text plain c p same decoded);
      fault = λ apart. named_answer _ ∙ sym (fault_decoded text plain decoded);
    })

-- the same, where the plain text was read under another name
pub answered_at : (text plain read : List ℕ) (r : Result Cursor CursorFault) → IsBytes text → decode_of url_safe_no_pad text ≡ Ok plain → read ≡ plain
    → UnlessMem r (r ≡ answer (cursor_of (words (parts read)) (parts read))) → IsAnswerTo text r
answered_at text plain read r bytes decoded same is = answered text read r bytes (decoded ∙ ap Ok (sym same)) is

-- what a text that doesn't decode is answered
pub not_decoded : (text : List ℕ) (fault : CursorFault) → IsNoText fault (decode_of url_safe_no_pad text) → IsAnswerTo text (Err fault)
not_decoded text Mem is = record { spelled = tt; printable = tt; reads = λ c p same apart. absurd (apart refl); fault = λ apart. absurd (apart refl) }
not_decoded text (Malformed at) is = record {
  spelled = tt;
  printable = tt;
  reads = λ c p same apart. absurd (no_err _ (plain_text c) (ap (decode_of url_safe_no_pad) same ∙ decoded_plain c p) is.1);
  fault = λ apart. ap Some is.0 ∙ sym (at_zero _ is.1);
}
  where
    no_err : (r : Result (List ℕ) DecodeError) (plain : List ℕ) → r ≡ Ok plain → IsErr r → ⊥
    no_err (Ok x) plain e bad = absurd (cc bad)
    no_err (Err x) plain e bad = absurd (cc e)

    at_zero : (r : Result (List ℕ) DecodeError) → IsErr r → fault_of r ≡ Some 0
    at_zero (Ok x) bad = absurd (cc bad)
    at_zero (Err x) bad = refl

-- an error that was handed on
pub handed_on : (r : Result Cursor CursorFault) (e : CursorFault) → IsErrAnd r (λ x. x ≡ e) → r ≡ Err e
handed_on (Ok c) e is = absurd is
handed_on (Err x) e is = ap Err is
