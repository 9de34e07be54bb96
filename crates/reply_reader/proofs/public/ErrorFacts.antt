-- The lines of errors: each is read, and what is read is one.
use Rattle.std.proofs.Common.{◌≡◌, ℕ, List, [], ◌∷◌, ◌++◌, Option, None, Some, refl, sym, ◌∙◌, ap, subst, append_assoc}
use Rattle.std.specs.Prelude.{codes}
use Rattle.std.specs.Fmt.{decimal}
use Rattle.base64.specs.GeneralPurpose.{IsBytes}
use Rattle.block_record.specs.Number.{number_of}
use Rattle.step_cursor.specs.declared.cursor.MisfitField.{MisfitField}
use Rattle.step_cursor.specs.declared.cursor.MisfitField.TheVariants as misfit
use Rattle.fire_lines.specs.Fields.{id_of}
use Rattle.text_parts.specs.Parts.{escaped}
use Rattle.reply_text.specs.declared.errors.RequestField.{RequestField}
use Rattle.reply_text.specs.declared.errors.RequestField.TheVariants as field
use Rattle.reply_text.specs.declared.errors.ErrorLine.{ErrorLine}
use Rattle.reply_text.specs.declared.errors.ErrorLine.TheVariants as fault
use Rattle.reply_text.specs.Lines.{request_word, misfit_word, error_line}
use Rattle.reply_text.specs.Values.{IsErrorValue}
use Rattle.reply_laws.proofs.public.Readers.{right}
use Rattle.reply_laws.proofs.public.Values.{none-request_word, none-misfit_word, error_word, none-error_word}
use Rattle.reply_reader.specs.Parts.{◌>>=◌, after_front, until, member, quoted}
use Rattle.reply_reader.specs.Reading.{request_field, misfit_field, ends, name_at, bad_request_in, malformed_in, unknown_in, misfit_in, stop_below_in, stored_other_in, shelf_bad_in, missing_in, bare_error, error_by, error_in}
use Rattle.reply_reader.proofs.public.MemberFacts.{read_by, bytes_right, front_again, front_takes, until_again, until_takes, member_again, member_takes, number_then, number_again, number_takes, word_then, id_again, id_takes}
use Rattle.reply_reader.proofs.public.EscapedFacts.{quoted_again, quoted_takes}
use Rattle.reply_reader.proofs.public.StepFacts.{ends_takes, choose}

-- a line with its LF
pub line_end : (ps : List (List ℕ)) (end : List ℕ) → right ps end ++ 10 ∷ [] ≡ right ps (end ++ 10 ∷ [])
line_end [] end = refl
line_end (p ∷ ps) end = append_assoc p (right ps end) (10 ∷ []) ∙ ap (λ l. p ++ l) (line_end ps end)

-- what stands in the line of an error after the quote of its word, without the LF
abbrev pub error_end : ErrorLine → List ℕ
error_end (fault.BadRequest f) = word_then (codes ",\"field\":\"") (request_word f) (codes "}")
error_end fault.TooLong = codes "}"
error_end (fault.Malformed at) = number_then (codes ",\"at\":") 125 at []
error_end (fault.Unknown id) = word_then (codes ",\"id\":\"") id (codes "}")
error_end (fault.Misfit f) = word_then (codes ",\"field\":\"") (misfit_word f) (codes "}")
error_end (fault.StopBelow end) = number_then (codes ",\"end\":") 125 end []
error_end fault.ShelfFault = codes "}"
error_end (fault.ShelfBad name at) = word_then (codes ",\"name\":\"") (escaped name) (number_then (codes ",\"at\":") 125 at [])
error_end (fault.Missing name) = word_then (codes ",\"name\":\"") (escaped name) (codes "}")
error_end (fault.StoredOther num id) = number_then (codes ",\"num\":") 44 num (word_then (codes "\"id\":\"") id (codes "}"))
error_end fault.Spent = codes "}"
error_end fault.Mem = codes "}"

abbrev pub error_text : ErrorLine → List ℕ
error_text e = word_then (codes "{\"error\":\"") (error_word e) (error_end e)

pub error_text-line : (e : ErrorLine) → error_text e ++ 10 ∷ [] ≡ error_line e
error_text-line (fault.BadRequest f) = line_end (codes "{\"error\":\"bad_request\",\"field\":\"" ∷ request_word f ∷ []) (codes "\"}")
error_text-line fault.TooLong = refl
error_text-line (fault.Malformed at) = line_end (codes "{\"error\":\"malformed\",\"at\":" ∷ decimal at ∷ []) (codes "}")
error_text-line (fault.Unknown id) = line_end (codes "{\"error\":\"unknown\",\"id\":\"" ∷ id ∷ []) (codes "\"}")
error_text-line (fault.Misfit f) = line_end (codes "{\"error\":\"misfit\",\"field\":\"" ∷ misfit_word f ∷ []) (codes "\"}")
error_text-line (fault.StopBelow end) = line_end (codes "{\"error\":\"stop_below\",\"end\":" ∷ decimal end ∷ []) (codes "}")
error_text-line fault.ShelfFault = refl
error_text-line (fault.ShelfBad name at) = line_end (codes "{\"error\":\"shelf_bad\",\"name\":\"" ∷ escaped name ∷ codes "\",\"at\":" ∷ decimal at ∷ []) (codes "}")
error_text-line (fault.Missing name) = line_end (codes "{\"error\":\"missing\",\"name\":\"" ∷ escaped name ∷ []) (codes "\"}")
error_text-line (fault.StoredOther num id) = line_end (codes "{\"error\":\"stored_other\",\"num\":" ∷ decimal num ∷ codes ",\"id\":\"" ∷ id ∷ []) (codes "\"}")
error_text-line fault.Spent = refl
error_text-line fault.Mem = refl

-- ---- errors are read

request_again : (f : RequestField) → request_field (request_word f) ≡ Some f
request_again field.Shape = refl
request_again field.Extra = refl
request_again field.Start = refl
request_again field.Stop = refl
request_again field.FinalOnly = refl
request_again field.Cursor = refl

misfit_again : (f : MisfitField) → misfit_field (misfit_word f) ≡ Some f
misfit_again misfit.Block = refl
misfit_again misfit.End = refl
misfit_again misfit.Lib = refl
misfit_again misfit.Step = refl
misfit_again misfit.Seen = refl

name_again : (name rest : List ℕ) → name_at (word_then (codes ",\"name\":\"") (escaped name) rest) ≡ Some (name, rest)
name_again name rest = ap (λ o. o >>= quoted) (front_again (codes ",\"name\":\"") (escaped name ++ 34 ∷ rest)) ∙ quoted_again name rest

-- the readings of the last members
abbrev with_request : RequestField × List ℕ → Option ErrorLine
with_request f = ends (codes "}") f.1 (fault.BadRequest f.0)

abbrev with_at : ℕ × List ℕ → Option ErrorLine
with_at at = ends [] at.1 (fault.Malformed at.0)

abbrev with_unknown : List ℕ × List ℕ → Option ErrorLine
with_unknown id = ends (codes "}") id.1 (fault.Unknown id.0)

abbrev with_misfit : MisfitField × List ℕ → Option ErrorLine
with_misfit f = ends (codes "}") f.1 (fault.Misfit f.0)

abbrev with_end : ℕ × List ℕ → Option ErrorLine
with_end end = ends [] end.1 (fault.StopBelow end.0)

abbrev with_other : ℕ → List ℕ × List ℕ → Option ErrorLine
with_other num id = ends (codes "}") id.1 (fault.StoredOther num id.0)

abbrev with_num : ℕ × List ℕ → Option ErrorLine
with_num num = member (codes "\"id\":\"") 34 id_of num.1 >>= with_other num.0

abbrev with_place : List ℕ → ℕ × List ℕ → Option ErrorLine
with_place name at = ends [] at.1 (fault.ShelfBad name at.0)

abbrev with_bad : List ℕ × List ℕ → Option ErrorLine
with_bad name = member (codes ",\"at\":") 125 number_of name.1 >>= with_place name.0

abbrev with_missing : List ℕ × List ℕ → Option ErrorLine
with_missing name = ends (codes "}") name.1 (fault.Missing name.0)

by_word_again : (e : ErrorLine) → IsErrorValue e → error_by (error_word e) (error_end e) ≡ Some e
by_word_again (fault.BadRequest f) is =
    ap (λ o. o >>= with_request) (member_again (codes ",\"field\":\"") 34 request_field (request_word f) (codes "}") f (none-request_word f) (request_again f))
by_word_again fault.TooLong is = refl
by_word_again (fault.Malformed at) is = ap (λ o. o >>= with_at) (number_again (codes ",\"at\":") 125 at [] refl is)
by_word_again (fault.Unknown id) is = ap (λ o. o >>= with_unknown) (id_again (codes ",\"id\":\"") id (codes "}") is)
by_word_again (fault.Misfit f) is =
    ap (λ o. o >>= with_misfit) (member_again (codes ",\"field\":\"") 34 misfit_field (misfit_word f) (codes "}") f (none-misfit_word f) (misfit_again f))
by_word_again (fault.StopBelow end) is = ap (λ o. o >>= with_end) (number_again (codes ",\"end\":") 125 end [] refl is)
by_word_again fault.ShelfFault is = refl
by_word_again (fault.ShelfBad name at) is =
    ap (λ o. o >>= with_bad) (name_again name (number_then (codes ",\"at\":") 125 at [])) ∙ ap (λ o. o >>= with_place name) (number_again (codes ",\"at\":") 125 at [] refl is)
by_word_again (fault.Missing name) is = ap (λ o. o >>= with_missing) (name_again name (codes "}"))
by_word_again (fault.StoredOther num id) is =
    ap (λ o. o >>= with_num) (number_again (codes ",\"num\":") 44 num (word_then (codes "\"id\":\"") id (codes "}")) refl is.0)
    ∙ ap (λ o. o >>= with_other num) (id_again (codes "\"id\":\"") id (codes "}") is.1)
by_word_again fault.Spent is = refl
by_word_again fault.Mem is = refl

abbrev with_word : List ℕ × List ℕ → Option ErrorLine
with_word w = error_by w.0 w.1

pub error_again : (e : ErrorLine) → IsErrorValue e → error_in (word_then [] (error_word e) (error_end e)) ≡ Some e
unfolding error_in
error_again e is = ap (λ o. o >>= with_word) (until_again 34 (error_word e) (error_end e) (none-error_word e)) ∙ by_word_again e is

-- ---- what is read is an error

request_takes : (word : List ℕ) (f : RequestField) → request_field word ≡ Some f → word ≡ request_word f
request_takes word f e =
    choose word (codes "shape") _ _ f e (λ w is. w ∙ named field.Shape is) (λ e.
    choose word (codes "extra") _ _ f e (λ w is. w ∙ named field.Extra is) (λ e.
    choose word (codes "start_block_num") _ _ f e (λ w is. w ∙ named field.Start is) (λ e.
    choose word (codes "stop_block_num") _ _ f e (λ w is. w ∙ named field.Stop is) (λ e.
    choose word (codes "final_blocks_only") _ _ f e (λ w is. w ∙ named field.FinalOnly is) (λ e.
    choose word (codes "cursor") _ None f e (λ w is. w ∙ named field.Cursor is) (λ e. absurd (cc e)))))))
  where
    named : (k : RequestField) → Some k ≡ Some f → request_word k ≡ request_word f
    named k is = let same : k ≡ f = cc is in ap request_word same

misfit_takes : (word : List ℕ) (f : MisfitField) → misfit_field word ≡ Some f → word ≡ misfit_word f
misfit_takes word f e =
    choose word (codes "block") _ _ f e (λ w is. w ∙ named misfit.Block is) (λ e.
    choose word (codes "end") _ _ f e (λ w is. w ∙ named misfit.End is) (λ e.
    choose word (codes "lib") _ _ f e (λ w is. w ∙ named misfit.Lib is) (λ e.
    choose word (codes "step") _ _ f e (λ w is. w ∙ named misfit.Step is) (λ e.
    choose word (codes "seen") _ None f e (λ w is. w ∙ named misfit.Seen is) (λ e. absurd (cc e))))))
  where
    named : (k : MisfitField) → Some k ≡ Some f → misfit_word k ≡ misfit_word f
    named k is = let same : k ≡ f = cc is in ap misfit_word same

-- a word and what stands after its quote are those of an error
pub record IsErrorAt (word rest : List ℕ) (e : ErrorLine) : Type 0 where
  pub value : IsErrorValue e
  pub word_is : word ≡ error_word e
  pub end_is : rest ≡ error_end e

-- the name of a file
name_takes : (text : List ℕ) (x : List ℕ × List ℕ) → IsBytes text → name_at text ≡ Some x → (text ≡ word_then (codes ",\"name\":\"") (escaped x.0) x.1) × IsBytes x.1
name_takes text x bytes e =
    let a = read_by (after_front (codes ",\"name\":\"") text) quoted x e in
    let is : text ≡ word_then (codes ",\"name\":\"") (escaped x.0) x.1 = front_takes (codes ",\"name\":\"") text a.value a.found ∙ ap (λ l. codes ",\"name\":\"" ++ l) (quoted_takes a.value x a.later) in
    let all : IsBytes (word_then (codes ",\"name\":\"") (escaped x.0) x.1) = subst IsBytes is bytes in
    (is, bytes_right (34 ∷ []) x.1 (bytes_right (escaped x.0) (34 ∷ x.1) (bytes_right (codes ",\"name\":\"") (escaped x.0 ++ 34 ∷ x.1) all)))

module _ (word rest : List ℕ) (e : ErrorLine) (bytes : IsBytes rest) where
  bare_takes : (k : ErrorLine) → IsErrorValue k → word ≡ error_word k → error_end k ≡ codes "}" → ends (codes "}") rest k ≡ Some e → IsErrorAt word rest e
  bare_takes k value w end is =
      let p = ends_takes (codes "}") rest k e is in
      subst (IsErrorAt word rest) p.1 (record { value = value; word_is = w; end_is = p.0 ∙ sym end })

  bad_request_takes : word ≡ codes "bad_request" → bad_request_in rest ≡ Some e → IsErrorAt word rest e
  bad_request_takes w is =
      let a = read_by (member (codes ",\"field\":\"") 34 request_field rest) with_request e is in
      let m = member_takes (codes ",\"field\":\"") 34 request_field rest a.value bytes a.found in
      let p = ends_takes (codes "}") a.value.1 (fault.BadRequest a.value.0) e a.later in
      subst (IsErrorAt word rest) p.1
      (record { value = tt; word_is = w; end_is = m.text_is ∙ (λ i. word_then (codes ",\"field\":\"") (request_takes m.word a.value.0 m.reads i) (p.0 i)) })

  misfit_error_takes : word ≡ codes "misfit" → misfit_in rest ≡ Some e → IsErrorAt word rest e
  misfit_error_takes w is =
      let a = read_by (member (codes ",\"field\":\"") 34 misfit_field rest) with_misfit e is in
      let m = member_takes (codes ",\"field\":\"") 34 misfit_field rest a.value bytes a.found in
      let p = ends_takes (codes "}") a.value.1 (fault.Misfit a.value.0) e a.later in
      subst (IsErrorAt word rest) p.1
      (record { value = tt; word_is = w; end_is = m.text_is ∙ (λ i. word_then (codes ",\"field\":\"") (misfit_takes m.word a.value.0 m.reads i) (p.0 i)) })

  malformed_takes : word ≡ codes "malformed" → malformed_in rest ≡ Some e → IsErrorAt word rest e
  malformed_takes w is =
      let a = read_by (member (codes ",\"at\":") 125 number_of rest) with_at e is in
      let n = number_takes (codes ",\"at\":") 125 rest a.value bytes a.found in
      let p = ends_takes [] a.value.1 (fault.Malformed a.value.0) e a.later in
      subst (IsErrorAt word rest) p.1 (record { value = n.value; word_is = w; end_is = n.text_is ∙ ap (λ l. number_then (codes ",\"at\":") 125 a.value.0 l) p.0 })

  stop_below_takes : word ≡ codes "stop_below" → stop_below_in rest ≡ Some e → IsErrorAt word rest e
  stop_below_takes w is =
      let a = read_by (member (codes ",\"end\":") 125 number_of rest) with_end e is in
      let n = number_takes (codes ",\"end\":") 125 rest a.value bytes a.found in
      let p = ends_takes [] a.value.1 (fault.StopBelow a.value.0) e a.later in
      subst (IsErrorAt word rest) p.1 (record { value = n.value; word_is = w; end_is = n.text_is ∙ ap (λ l. number_then (codes ",\"end\":") 125 a.value.0 l) p.0 })

  unknown_takes : word ≡ codes "unknown" → unknown_in rest ≡ Some e → IsErrorAt word rest e
  unknown_takes w is =
      let a = read_by (member (codes ",\"id\":\"") 34 id_of rest) with_unknown e is in
      let id = id_takes (codes ",\"id\":\"") rest a.value bytes a.found in
      let p = ends_takes (codes "}") a.value.1 (fault.Unknown a.value.0) e a.later in
      subst (IsErrorAt word rest) p.1 (record { value = id.value; word_is = w; end_is = id.text_is ∙ ap (λ l. word_then (codes ",\"id\":\"") a.value.0 l) p.0 })

  stored_other_takes : word ≡ codes "stored_other" → stored_other_in rest ≡ Some e → IsErrorAt word rest e
  stored_other_takes w is =
      let a = read_by (member (codes ",\"num\":") 44 number_of rest) with_num e is in
      let n = number_takes (codes ",\"num\":") 44 rest a.value bytes a.found in
      let b = read_by (member (codes "\"id\":\"") 34 id_of a.value.1) (with_other a.value.0) e a.later in
      let id = id_takes (codes "\"id\":\"") a.value.1 b.value n.bytes b.found in
      let p = ends_takes (codes "}") b.value.1 (fault.StoredOther a.value.0 b.value.0) e b.later in
      subst (IsErrorAt word rest) p.1
      (record {
        value = (n.value, id.value);
        word_is = w;
        end_is = n.text_is ∙ ap (λ l. number_then (codes ",\"num\":") 44 a.value.0 l) (id.text_is ∙ ap (λ l. word_then (codes "\"id\":\"") b.value.0 l) p.0);
      })

  shelf_bad_takes : word ≡ codes "shelf_bad" → shelf_bad_in rest ≡ Some e → IsErrorAt word rest e
  shelf_bad_takes w is =
      let a = read_by (name_at rest) with_bad e is in
      let name = name_takes rest a.value bytes a.found in
      let b = read_by (member (codes ",\"at\":") 125 number_of a.value.1) (with_place a.value.0) e a.later in
      let n = number_takes (codes ",\"at\":") 125 a.value.1 b.value name.1 b.found in
      let p = ends_takes [] b.value.1 (fault.ShelfBad a.value.0 b.value.0) e b.later in
      subst (IsErrorAt word rest) p.1
      (record {
        value = n.value;
        word_is = w;
        end_is = name.0 ∙ ap (λ l. word_then (codes ",\"name\":\"") (escaped a.value.0) l) (n.text_is ∙ ap (λ l. number_then (codes ",\"at\":") 125 b.value.0 l) p.0);
      })

  missing_takes : word ≡ codes "missing" → missing_in rest ≡ Some e → IsErrorAt word rest e
  missing_takes w is =
      let a = read_by (name_at rest) with_missing e is in
      let name = name_takes rest a.value bytes a.found in
      let p = ends_takes (codes "}") a.value.1 (fault.Missing a.value.0) e a.later in
      subst (IsErrorAt word rest) p.1 (record { value = tt; word_is = w; end_is = name.0 ∙ ap (λ l. word_then (codes ",\"name\":\"") (escaped a.value.0) l) p.0 })

  bare_error_takes : bare_error word rest ≡ Some e → IsErrorAt word rest e
  bare_error_takes is =
      choose word (codes "too_long") _ _ e is (λ w. bare_takes fault.TooLong tt w refl) (λ is.
      choose word (codes "shelf") _ _ e is (λ w. bare_takes fault.ShelfFault tt w refl) (λ is.
      choose word (codes "spent") _ _ e is (λ w. bare_takes fault.Spent tt w refl) (λ is.
      choose word (codes "memory") _ None e is (λ w. bare_takes fault.Mem tt w refl) (λ is. absurd (cc is)))))

  error_by_takes : error_by word rest ≡ Some e → IsErrorAt word rest e
  error_by_takes is =
      choose word (codes "shelf_bad") _ _ e is shelf_bad_takes (λ is.
      choose word (codes "missing") _ _ e is missing_takes (λ is.
      choose word (codes "bad_request") _ _ e is bad_request_takes (λ is.
      choose word (codes "malformed") _ _ e is malformed_takes (λ is.
      choose word (codes "unknown") _ _ e is unknown_takes (λ is.
      choose word (codes "misfit") _ _ e is misfit_error_takes (λ is.
      choose word (codes "stop_below") _ _ e is stop_below_takes (λ is.
      choose word (codes "stored_other") _ _ e is stored_other_takes bare_error_takes)))))))

pub error_takes : (text : List ℕ) (e : ErrorLine) → IsBytes text → error_in text ≡ Some e → IsErrorValue e × (text ≡ word_then [] (error_word e) (error_end e))
unfolding error_in
error_takes text e bytes is =
    let a = read_by (until 34 text) with_word e is in
    let cut = until_takes 34 text a.value a.found in
    let all : IsBytes (a.value.0 ++ 34 ∷ a.value.1) = subst IsBytes cut bytes in
    let at = error_by_takes a.value.0 a.value.1 e (bytes_right (34 ∷ []) a.value.1 (bytes_right a.value.0 (34 ∷ a.value.1) all)) a.later in
    (at.value, cut ∙ (λ i. word_then [] (at.word_is i) (at.end_is i)))
