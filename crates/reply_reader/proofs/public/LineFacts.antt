-- The lines of a session: each is read, and what is read is one.
use Rattle.std.proofs.Common.{◌≡◌, ◌⊎◌, inl, inr, ℕ, Bool, true, false, cond, List, [], ◌∷◌, ◌++◌, Option, None, Some, refl, sym, ◌∙◌, ap, subst}
use Rattle.std.specs.Prelude.{codes}
use Rattle.std.specs.Option.{option_map}
use Rattle.std.proofs.lemmas.List.{append_cancel_right}
use Rattle.std.proofs.lemmas.Option.{cond_some, same_Some}
use Rattle.base64.specs.GeneralPurpose.{IsBytes}
use Rattle.block_record.specs.declared.blocks.BlockRef.{BlockRef}
use Rattle.block_record.specs.Number.{number_of}
use Rattle.block_record.specs.Records.{Fields}
use Rattle.block_record.specs.Texts.{IsTypeName, is_type_text}
use Rattle.chain_model.specs.declared.places.Step.{Step}
use Rattle.fire_lines.specs.Fields.{id_of}
use Rattle.step_cursor.specs.declared.cursor.Cursor.{Cursor}
use Rattle.step_cursor.specs.CursorText.{IsRef, IsRefIfAny, IsPrintable}
use Rattle.text_parts.specs.Parts.{escaped}
use Rattle.reply_text.specs.declared.errors.ErrorLine.{ErrorLine}
use Rattle.reply_reader.specs.Parts.{◌>>=◌, or_by, after_front, member, quoted}
use Rattle.reply_reader.specs.Reading.{Said, OpenOf, StepOf, HeadOf, EndOf, ErrorOf, some_ref_at, ref_at, ref_member, ends, type_at, read_open, read_step, read_head, read_end, error_in, error_said, read_line}
use Rattle.reply_reader.specs.Texts.{IsErrorLine}
use Rattle.reply_reader.proofs.public.MemberFacts.{read_by, bytes_right, front_again, front_takes, IsTaken, IsSmall, number_then, number_again, number_takes, word_then, id_again, id_takes}
use Rattle.reply_reader.proofs.public.EscapedFacts.{quoted_again, quoted_takes}
use Rattle.reply_reader.proofs.public.StepFacts.{ends_takes, choose, AreFields, IsBlock, step_text, old_step_text, step_text_again, old_step_text_again, step_text_takes}
use Rattle.reply_reader.proofs.public.ErrorFacts.{error_text, error_text-line, error_again, error_takes}

-- ---- blocks by number and id, or `null`

abbrev pub ref_then : Option BlockRef → List ℕ → List ℕ
ref_then None rest = codes "null" ++ rest
ref_then (Some r) rest = number_then (codes "{\"num\":") 44 r.num (word_then (codes "\"id\":\"") r.id (codes "}" ++ rest))

-- what is read of one, once the members before were read
abbrev with_end : ℕ → List ℕ × List ℕ → List ℕ → Option (Option BlockRef × List ℕ)
with_end num id rest = Some (Some (record { num = num; id = id.0 }), rest)

abbrev with_id : ℕ → List ℕ × List ℕ → Option (Option BlockRef × List ℕ)
with_id num id = after_front (codes "}") id.1 >>= with_end num id

abbrev with_num : ℕ × List ℕ → Option (Option BlockRef × List ℕ)
with_num n = member (codes "\"id\":\"") 34 id_of n.1 >>= with_id n.0

abbrev of_null : List ℕ → Option (Option BlockRef × List ℕ)
of_null rest = Some (None, rest)

some_ref_again : (r : BlockRef) (rest : List ℕ) → IsRef r → some_ref_at (ref_then (Some r) rest) ≡ Some (Some r, rest)
some_ref_again r rest is =
    ap (λ o. o >>= with_num) (number_again (codes "{\"num\":") 44 r.num (word_then (codes "\"id\":\"") r.id (codes "}" ++ rest)) refl is.num)
    ∙ ap (λ o. o >>= with_id r.num) (id_again (codes "\"id\":\"") r.id (codes "}" ++ rest) is.id) ∙ ap (λ o. o >>= with_end r.num (r.id, codes "}" ++ rest)) (front_again (codes "}") rest)

ref_again : (r : Option BlockRef) (rest : List ℕ) → IsRefIfAny r → ref_at (ref_then r rest) ≡ Some (r, rest)
unfolding ref_at
ref_again None rest is = ap (λ o. or_by o of_null (some_ref_at (ref_then None rest))) (front_again (codes "null") rest)
ref_again (Some r) rest is = some_ref_again r rest is

some_ref_takes : (text : List ℕ) (x : Option BlockRef × List ℕ) → IsBytes text → some_ref_at text ≡ Some x → IsTaken IsRefIfAny ref_then text x
some_ref_takes text x bytes e =
    let a = read_by (member (codes "{\"num\":") 44 number_of text) with_num x e in
    let num = number_takes (codes "{\"num\":") 44 text a.value bytes a.found in
    let b = read_by (member (codes "\"id\":\"") 34 id_of a.value.1) (with_id a.value.0) x a.later in
    let id = id_takes (codes "\"id\":\"") a.value.1 b.value num.bytes b.found in
    let c = read_by (after_front (codes "}") b.value.1) (with_end a.value.0 b.value) x b.later in
    let end = front_takes (codes "}") b.value.1 c.value c.found in
    let r : BlockRef = record { num = a.value.0; id = b.value.0 } in
    let p : Option BlockRef × List ℕ = (Some r, c.value) in
    let taken : IsTaken IsRefIfAny ref_then text p = record {
      value = record { id = id.value; num = num.value };
      text_is = num.text_is ∙ ap (λ l. number_then (codes "{\"num\":") 44 a.value.0 l) (id.text_is ∙ ap (λ l. word_then (codes "\"id\":\"") b.value.0 l) end);
      bytes = bytes_right (codes "}") c.value (subst IsBytes end id.bytes);
    } in
    subst (IsTaken IsRefIfAny ref_then text) (same_Some p x c.later) taken

ref_takes : (text : List ℕ) (x : Option BlockRef × List ℕ) → IsBytes text → ref_at text ≡ Some x → IsTaken IsRefIfAny ref_then text x
unfolding ref_at
ref_takes text x bytes e = go (after_front (codes "null") text) refl e
  where
    go : (o : Option (List ℕ)) → after_front (codes "null") text ≡ o → or_by o of_null (some_ref_at text) ≡ Some x → IsTaken IsRefIfAny ref_then text x
    go None is e = some_ref_takes text x bytes e
    go (Some rest) is e =
        let begin = front_takes (codes "null") text rest is in
        let p : Option BlockRef × List ℕ = (None, rest) in
        let taken : IsTaken IsRefIfAny ref_then text p = record { value = tt; text_is = begin; bytes = bytes_right (codes "null") rest (subst IsBytes begin bytes) } in
        subst (IsTaken IsRefIfAny ref_then text) (same_Some p x e) taken

ref_member_again : (front : List ℕ) (r : Option BlockRef) (rest : List ℕ) → IsRefIfAny r → ref_member front (front ++ ref_then r rest) ≡ Some (r, rest)
ref_member_again front r rest is = ap (λ o. o >>= ref_at) (front_again front (ref_then r rest)) ∙ ref_again r rest is

ref_member_takes : (front text : List ℕ) (x : Option BlockRef × List ℕ) → IsBytes text → ref_member front text ≡ Some x → IsTaken IsRefIfAny (λ r rest. front ++ ref_then r rest) text x
ref_member_takes front text x bytes e =
    let a = read_by (after_front front text) ref_at x e in
    let begin = front_takes front text a.value a.found in
    let r = ref_takes a.value x (bytes_right front a.value (subst IsBytes begin bytes)) a.later in
    record { value = r.value; text_is = begin ∙ ap (λ l. front ++ l) r.text_is; bytes = r.bytes }

-- ---- the first line, after its first bytes

abbrev pub open_text : List ℕ → ℕ → Option BlockRef → Option BlockRef → List ℕ
open_text type run_number end lib =
    word_then [] (escaped type) (number_then (codes ",\"run\":") 44 run_number (codes "\"end\":" ++ ref_then end (codes ",\"lib\":" ++ ref_then lib (codes "}"))))

pub record IsOpen (type : List ℕ) (run_number : ℕ) (end lib : Option BlockRef) : Type 0 where
  pub named : IsTypeName type
  pub run_small : IsSmall run_number
  pub end_is : IsRefIfAny end
  pub lib_is : IsRefIfAny lib

-- what is read of the first line, once the members before were read
abbrev with_lib : List ℕ → ℕ → Option BlockRef → Option BlockRef × List ℕ → Option Said
with_lib type run_number end lib = ends (codes "}") lib.1 (OpenOf type run_number end lib.0)

abbrev with_place : List ℕ → ℕ → Option BlockRef × List ℕ → Option Said
with_place type run_number end = ref_member (codes ",\"lib\":") end.1 >>= with_lib type run_number end.0

abbrev with_run : List ℕ → ℕ × List ℕ → Option Said
with_run type run_number = ref_member (codes "\"end\":") run_number.1 >>= with_place type run_number.0

abbrev with_type : List ℕ × List ℕ → Option Said
with_type type = member (codes ",\"run\":") 44 number_of type.1 >>= with_run type.0

abbrev named : List ℕ × List ℕ → Option (List ℕ × List ℕ)
named p = cond (is_type_text p.0) (Some p) None

type_again : (type rest : List ℕ) → IsTypeName type → type_at (word_then [] (escaped type) rest) ≡ Some (type, rest)
type_again type rest is = ap (λ o. o >>= named) (quoted_again type rest) ∙ (rw is refl)

open_again : (type : List ℕ) (run_number : ℕ) (end lib : Option BlockRef) → IsOpen type run_number end lib → read_open (open_text type run_number end lib) ≡ Some (OpenOf type run_number end lib)
unfolding read_open
open_again type run_number end lib is =
    ap (λ o. o >>= with_type) (type_again type (number_then (codes ",\"run\":") 44 run_number (codes "\"end\":" ++ ref_then end (codes ",\"lib\":" ++ ref_then lib (codes "}")))) is.named)
    ∙ ap (λ o. o >>= with_run type) (number_again (codes ",\"run\":") 44 run_number (codes "\"end\":" ++ ref_then end (codes ",\"lib\":" ++ ref_then lib (codes "}"))) refl is.run_small)
    ∙ ap (λ o. o >>= with_place type run_number) (ref_member_again (codes "\"end\":") end (codes ",\"lib\":" ++ ref_then lib (codes "}")) is.end_is)
    ∙ ap (λ o. o >>= with_lib type run_number end) (ref_member_again (codes ",\"lib\":") lib (codes "}") is.lib_is)

-- ---- what a line says, as its text without the LF

abbrev pub head_text : Option BlockRef → ℕ → List ℕ
head_text head seen = ref_then head (number_then (codes ",\"seen\":") 125 seen [])

abbrev pub end_text : Bool → List ℕ
end_text true = codes "done\"}"
end_text false = codes "closing\"}"

-- a line is a text of what it says
abbrev pub IsTextOf : List ℕ → Said → Type 0
IsTextOf line (OpenOf type run_number end lib) = line ≡ codes "{\"open\":\"" ++ open_text type run_number end lib
IsTextOf line (StepOf kind f c) = (line ≡ codes "{\"step\":\"" ++ step_text kind f c) ⊎ (line ≡ codes "{\"step\":\"" ++ old_step_text kind f c)
IsTextOf line (HeadOf head seen) = line ≡ codes "{\"head\":" ++ head_text head seen
IsTextOf line (EndOf done) = line ≡ codes "{\"end\":\"" ++ end_text done
IsTextOf line (ErrorOf kept) = IsErrorLine (line ++ 10 ∷ []) × (line ≡ kept)

-- what a line says has ids that are ids, numbers of 64 bits, and what else its text tells
abbrev pub Fits : Said → Type 0
Fits (OpenOf type run_number end lib) = IsOpen type run_number end lib
Fits (StepOf kind f c) = AreFields f × IsPrintable c
Fits (HeadOf head seen) = IsRefIfAny head × IsSmall seen
Fits (EndOf done) = Unit {0}
Fits (ErrorOf kept) = Unit {0}

-- what the block of a step has besides
abbrev pub HasBlock : Said → Type 0
HasBlock (OpenOf type run_number end lib) = Unit {0}
HasBlock (StepOf kind f c) = IsBlock f
HasBlock (HeadOf head seen) = Unit {0}
HasBlock (EndOf done) = Unit {0}
HasBlock (ErrorOf kept) = Unit {0}

-- ---- each text is read

-- what is read of a head line, once the member before was read
abbrev with_seen : Option BlockRef → ℕ × List ℕ → Option Said
with_seen head seen = ends [] seen.1 (HeadOf head seen.0)

abbrev with_head : Option BlockRef × List ℕ → Option Said
with_head head = member (codes ",\"seen\":") 125 number_of head.1 >>= with_seen head.0

head_again : (head : Option BlockRef) (seen : ℕ) → IsRefIfAny head → IsSmall seen → read_head (head_text head seen) ≡ Some (HeadOf head seen)
unfolding read_head
head_again head seen is small =
    ap (λ o. o >>= with_head) (ref_again head (number_then (codes ",\"seen\":") 125 seen []) is) ∙ ap (λ o. o >>= with_seen head) (number_again (codes ",\"seen\":") 125 seen [] refl small)

end_again : (done : Bool) → read_end (end_text done) ≡ Some (EndOf done)
unfolding read_end
end_again true = refl
end_again false = refl

error_said_again : (line : List ℕ) → IsErrorLine (line ++ 10 ∷ []) → read_line line ≡ Some (ErrorOf line)
unfolding read_line
error_said_again line is =
    let spelled : line ≡ error_text is.error = append_cancel_right line (error_text is.error) (10 ∷ []) (is.text ∙ sym (error_text-line is.error)) in
    ap read_line spelled ∙ ap (λ o. option_map (λ _. ErrorOf (error_text is.error)) o) (error_again is.error is.value) ∙ ap (λ l. Some (ErrorOf l)) (sym spelled)

pub read_again : (line : List ℕ) (s : Said) → Fits s → HasBlock s → IsTextOf line s → read_line line ≡ Some s
unfolding read_line
read_again line (OpenOf type run_number end lib) fits has is = ap read_line is ∙ open_again type run_number end lib fits
read_again line (StepOf kind f c) fits has (inl is) = ap read_line is ∙ step_text_again kind f c fits.1 fits.0 has
read_again line (StepOf kind f c) fits has (inr is) = ap read_line is ∙ old_step_text_again kind f c fits.1 fits.0 has
read_again line (HeadOf head seen) fits has is = ap read_line is ∙ head_again head seen fits.0 fits.1
read_again line (EndOf done) fits has is = ap read_line is ∙ end_again done
read_again line (ErrorOf kept) fits has is = error_said_again line is.0 ∙ ap (λ l. Some (ErrorOf l)) is.1

-- ---- what is read is what the text says

-- a line says this
abbrev pub IsSaidBy : List ℕ → Said → Type 0
IsSaidBy line s = Fits s × IsTextOf line s

-- what follows the first bytes of a line
by_front : {P : Type 0} (front line : List ℕ) (read : List ℕ → Option Said) (other : Option Said) (s : Said)
    → or_by (after_front front line) read other ≡ Some s → ((rest : List ℕ) → line ≡ front ++ rest → read rest ≡ Some s → P) → (other ≡ Some s → P) → P
by_front {P} front line read other s e here there = go (after_front front line) refl e
  where
    go : (o : Option (List ℕ)) → after_front front line ≡ o → or_by o read other ≡ Some s → P
    go None is e = there e
    go (Some rest) is e = here rest (front_takes front line rest is) e

module _ (line rest : List ℕ) (s : Said) (bytes : IsBytes rest) where
  step_line_takes : line ≡ codes "{\"step\":\"" ++ rest → read_step rest ≡ Some s → IsSaidBy line s
  step_line_takes is e =
      let t = step_text_takes rest s bytes e in
      subst (IsSaidBy line) t.said_is ((t.fits, t.printable), in_line t.kind t.fields t.cursor t.text_is)
    where
      in_line : (kind : Step) (f : Fields) (c : Cursor) → (rest ≡ step_text kind f c) ⊎ (rest ≡ old_step_text kind f c) → IsTextOf line (StepOf kind f c)
      in_line kind f c (inl new) = inl (is ∙ ap (λ l. codes "{\"step\":\"" ++ l) new)
      in_line kind f c (inr old) = inr (is ∙ ap (λ l. codes "{\"step\":\"" ++ l) old)

  head_line_takes : line ≡ codes "{\"head\":" ++ rest → read_head rest ≡ Some s → IsSaidBy line s
  unfolding read_head
  head_line_takes is e =
      let a = read_by (ref_at rest) with_head s e in
      let head = ref_takes rest a.value bytes a.found in
      let b = read_by (member (codes ",\"seen\":") 125 number_of a.value.1) (with_seen a.value.0) s a.later in
      let seen = number_takes (codes ",\"seen\":") 125 a.value.1 b.value head.bytes b.found in
      let p = ends_takes [] b.value.1 (HeadOf a.value.0 b.value.0) s b.later in
      subst (IsSaidBy line) p.1
      ((head.value, seen.value), is ∙ ap (λ l. codes "{\"head\":" ++ l) (head.text_is ∙ ap (λ l. ref_then a.value.0 l) (seen.text_is ∙ ap (λ l. number_then (codes ",\"seen\":") 125 b.value.0 l) p.0)))

  end_line_takes : line ≡ codes "{\"end\":\"" ++ rest → read_end rest ≡ Some s → IsSaidBy line s
  unfolding read_end
  end_line_takes is e =
      choose rest (codes "done\"}") (Some (EndOf true)) _ s e (λ w v. done true w v) (λ e.
      choose rest (codes "closing\"}") (Some (EndOf false)) None s e (λ w v. done false w v) (λ e. absurd (cc e)))
    where
      done : (t : Bool) → rest ≡ end_text t → (let o : Option Said = Some (EndOf t) in o ≡ Some s) → IsSaidBy line s
      done t w v = subst (IsSaidBy line) (same_Some (EndOf t) s v) (tt, is ∙ ap (λ l. codes "{\"end\":\"" ++ l) w)

  error_line_takes : line ≡ codes "{\"error\":\"" ++ rest → error_said line rest ≡ Some s → IsSaidBy line s
  error_line_takes is e = go (error_in rest) refl e
    where
      go : (o : Option ErrorLine) → error_in rest ≡ o → option_map (λ _. ErrorOf line) o ≡ Some s → IsSaidBy line s
      go None found e = absurd (cc e)
      go (Some x) found e =
          let t = error_takes rest x bytes found in
          let spelled : line ≡ error_text x = is ∙ ap (λ l. codes "{\"error\":\"" ++ l) t.1 in
          let error : IsErrorLine (line ++ 10 ∷ []) = record { error = x; value = t.0; text = ap (λ l. l ++ 10 ∷ []) spelled ∙ error_text-line x } in
          subst (IsSaidBy line) (same_Some (ErrorOf line) s e) (tt, (error, refl))

  open_line_takes : line ≡ codes "{\"open\":\"" ++ rest → read_open rest ≡ Some s → IsSaidBy line s
  unfolding read_open
  open_line_takes is e =
      let a = read_by (type_at rest) with_type s e in
      let type = type_takes rest a.value bytes a.found in
      let b = read_by (member (codes ",\"run\":") 44 number_of a.value.1) (with_run a.value.0) s a.later in
      let run_number = number_takes (codes ",\"run\":") 44 a.value.1 b.value type.bytes b.found in
      let c = read_by (ref_member (codes "\"end\":") b.value.1) (with_place a.value.0 b.value.0) s b.later in
      let end = ref_member_takes (codes "\"end\":") b.value.1 c.value run_number.bytes c.found in
      let d = read_by (ref_member (codes ",\"lib\":") c.value.1) (with_lib a.value.0 b.value.0 c.value.0) s c.later in
      let lib = ref_member_takes (codes ",\"lib\":") c.value.1 d.value end.bytes d.found in
      let p = ends_takes (codes "}") d.value.1 (OpenOf a.value.0 b.value.0 c.value.0 d.value.0) s d.later in
      subst (IsSaidBy line) p.1 (
        record { named = type.value; run_small = run_number.value; end_is = end.value; lib_is = lib.value },
        is
            ∙ ap (λ l. codes "{\"open\":\"" ++ l)
            (type.text_is
            ∙ ap (λ l. word_then [] (escaped a.value.0) l)
            (run_number.text_is ∙ ap (λ l. number_then (codes ",\"run\":") 44 b.value.0 l) (end.text_is ∙ ap (λ l. codes "\"end\":" ++ ref_then c.value.0 l) (lib.text_is ∙ ap (λ l. codes ",\"lib\":" ++ ref_then d.value.0 l) p.0)))),
      )
    where
      type_takes : (text : List ℕ) (x : List ℕ × List ℕ) → IsBytes text → type_at text ≡ Some x → IsTaken IsTypeName (λ t l. word_then [] (escaped t) l) text x
      type_takes text x bytes e =
          let a = read_by (quoted text) named x e in
          let p = cond_some (is_type_text a.value.0) a.value x a.later in
          let is : text ≡ word_then [] (escaped x.0) x.1 = quoted_takes text x (a.found ∙ ap Some p.1) in
          record {
            value = ap (λ (y : List ℕ × List ℕ). is_type_text y.0) (sym p.1) ∙ p.0;
            text_is = is;
            bytes = bytes_right (34 ∷ []) x.1 (bytes_right (escaped x.0) (34 ∷ x.1) (subst IsBytes is bytes));
          }

pub read_takes : (line : List ℕ) (s : Said) → IsBytes line → read_line line ≡ Some s → IsSaidBy line s
unfolding read_line
read_takes line s bytes e =
    by_front (codes "{\"step\":\"") line read_step _ s e (λ rest is. step_line_takes line rest s (left (codes "{\"step\":\"") rest is) is) (λ e.
    by_front (codes "{\"head\":") line read_head _ s e (λ rest is. head_line_takes line rest s (left (codes "{\"head\":") rest is) is) (λ e.
    by_front (codes "{\"open\":\"") line read_open _ s e (λ rest is. open_line_takes line rest s (left (codes "{\"open\":\"") rest is) is) (λ e.
    by_front (codes "{\"end\":\"") line read_end _ s e (λ rest is. end_line_takes line rest s (left (codes "{\"end\":\"") rest is) is) (λ e.
    by_front (codes "{\"error\":\"") line (error_said line) None s e (λ rest is. error_line_takes line rest s (left (codes "{\"error\":\"") rest is) is) (λ e. absurd (cc e))))))
  where
    left : (front rest : List ℕ) → line ≡ front ++ rest → IsBytes rest
    left front rest is = bytes_right front rest (subst IsBytes is bytes)
