-- A line says one thing.
use Rattle.std.proofs.Common.{arith, ◌≡◌, ◌*◌, ◌+◌, ℕ, Bool, true, false, List, [], ◌∷◌, ◌++◌, length, get_or, Option, Ok, refl, sym, ◌∙◌, ap, append_assoc}
use Rattle.std.specs.Prelude.{codes}
use Rattle.std.specs.Fmt.{decimal}
use Rattle.std.proofs.lemmas.List.{append-nil, append_cancel_left}
use Rattle.std.proofs.lemmas.Option.{same_Some}
use Rattle.std.proofs.lemmas.Bool.{eqb-false}
use Rattle.base64.specs.GeneralPurpose.{encode_of, decode_of, IsBytes}
use Rattle.base64.specs.Engines.{standard}
use Rattle.base64.proofs.EngineFacts.{decode_of-encode_of}
use Rattle.hex.specs.Hex.{encode_lower}
use Rattle.block_record.specs.declared.blocks.Block.{Block}
use Rattle.block_record.specs.declared.blocks.BlockRef.{BlockRef}
use Rattle.block_record.proofs.public.RecordFacts.{same_block}
use Rattle.chain_model.specs.declared.places.Step.{Step}
use Rattle.chain_model.specs.declared.places.Step.TheVariants as step
use Rattle.chain_model.specs.declared.places.Place.{Place}
use Rattle.step_cursor.specs.declared.cursor.Cursor.{Cursor}
use Rattle.step_cursor.specs.declared.cursor.Tail.{Tail}
use Rattle.step_cursor.specs.declared.cursor.MisfitField.{MisfitField}
use Rattle.step_cursor.specs.declared.cursor.MisfitField.TheVariants as misfit
use Rattle.step_cursor.specs.CursorText.{cursor_text, plain_text, IsPrintable}
use Rattle.step_cursor.specs.Laws.{PrintedIsRead}
use Rattle.reply_text.specs.declared.errors.RequestField.{RequestField}
use Rattle.reply_text.specs.declared.errors.RequestField.TheVariants as field
use Rattle.reply_text.specs.declared.errors.ErrorLine.{ErrorLine}
use Rattle.reply_text.specs.declared.errors.ErrorLine.TheVariants as fault
use Rattle.text_parts.specs.Parts.{escaped}
use Rattle.step_text.specs.StepText.{word_of}
use Rattle.reply_text.specs.Lines.{cursor_after, ref_text, open_line, step_front, step_line, head_line, end_line, request_word, misfit_word, error_line}
use Rattle.reply_text.specs.Replies.{Reply, Open, StepOf, Head, End, Error, reply_line, reply_text}
use Rattle.reply_text.specs.Values.{IsErrorValue, IsOpenValue, IsBlockValue, IsValue}
use Rattle.reply_laws.specs.Laws.{LineHasOneValue, TextHasOneReading, ReadsFront}
use Rattle.reply_laws.proofs.public.Readers.{NoneIs, whole_right, none-test, is_symbol, split_at, split_number, split_ref, split_escaped, none-id, none-standard, none-url_safe}

-- ---- the first line

pub open_parts : (type : List ℕ) (run : ℕ) (place : Place) (more : List ℕ) → open_line type run place ++ more
    ≡ codes "{\"open\":\"" ++ (escaped type ++ 34 ∷ (codes ",\"run\":" ++ (decimal run ++ 44 ∷ (codes "\"end\":" ++ (ref_text place.end ++ (codes ",\"lib\":" ++ (ref_text place.lib ++ (codes "}\n" ++ more))))))))
open_parts type run place more =
    whole_right
    (codes "{\"open\":\"" ∷ escaped type ∷ codes "\",\"run\":" ∷ decimal run ∷ codes ",\"end\":" ∷ ref_text place.end ∷ codes ",\"lib\":" ∷ ref_text place.lib ∷ codes "}\n" ∷ [])
    more

one_open : (t u : List ℕ) (m n : ℕ) (p q : Place) (more rest : List ℕ) → IsOpenValue t m p → IsOpenValue u n q → open_line t m p ++ more ≡ open_line u n q ++ rest
    → (Open t m p ≡ Open u n q) × (more ≡ rest)
one_open t u m n p q more rest hp hq e =
    let whole = sym (open_parts t m p more) ∙ e ∙ open_parts u n q rest in
    let type = split_escaped t u _ _ (append_cancel_left (codes "{\"open\":\"") _ _ whole) in
    let run = split_number 44 m n _ _ refl hp.run_small hq.run_small (append_cancel_left (codes ",\"run\":") _ _ type.1) in
    let end = split_ref p.end q.end _ _ hp.end hq.end (append_cancel_left (codes "\"end\":") _ _ run.1) in
    let lib = split_ref p.lib q.lib _ _ hp.lib hq.lib (append_cancel_left (codes ",\"lib\":") _ _ end.1) in
    (λ i. Open (type.0 i) (run.0 i) (record { end = end.0 i; lib = lib.0 i }), append_cancel_left (codes "}\n") more rest lib.1)

-- ---- step lines

pub step_parts : (kind : Step) (b : Block) (place : Place) (tail : Tail) (more : List ℕ) → step_line kind b place tail ++ more
    ≡ codes "{\"step\":\"" ++ (word_of kind ++ 34 ∷ (codes ",\"num\":" ++ (decimal b.num ++ 44 ∷ (codes "\"id\":\"" ++ (b.id ++ 34 ∷ (codes ",\"parent_num\":" ++ (decimal b.parent_num ++ 44 ∷ (codes "\"parent_id\":\""
    ++ (b.parent_id ++ 34 ∷ (codes ",\"lib_num\":" ++ (decimal b.lib_num ++ 44 ∷ (codes "\"time\":" ++ (decimal b.time ++ 44 ∷ (codes "\"payload\":\"" ++ (encode_of standard b.payload ++ 34 ∷ (codes ",\"digest\":\""
    ++ (encode_lower b.digest ++ (codes "\",\"cursor\":\"" ++ (cursor_text (cursor_after kind b place tail) ++ 34 ∷ (codes "}\n" ++ more))))))))))))))))))))
step_parts kind b place tail more =
    whole_right (step_front kind b ∷ cursor_text (cursor_after kind b place tail) ∷ codes "\"}\n" ∷ []) more
    ∙ whole_right
    (codes "{\"step\":\"" ∷ word_of kind ∷ codes "\",\"num\":" ∷ decimal b.num ∷ codes ",\"id\":\"" ∷ b.id ∷ codes "\",\"parent_num\":" ∷ decimal b.parent_num ∷ codes ",\"parent_id\":\"" ∷ b.parent_id
    ∷ codes "\",\"lib_num\":" ∷ decimal b.lib_num ∷ codes ",\"time\":" ∷ decimal b.time ∷ codes ",\"payload\":\"" ∷ encode_of standard b.payload ∷ codes "\",\"digest\":\"" ∷ encode_lower b.digest
    ∷ codes "\",\"cursor\":\"" ∷ [])
    (cursor_text (cursor_after kind b place tail) ++ (codes "\"}\n" ++ more))

pub none-word : (kind : Step) → NoneIs 34 (word_of kind)
none-word step.New = (refl, (refl, (refl, tt)))
none-word step.Undo = (refl, (refl, (refl, (refl, tt))))
none-word step.Final = (refl, (refl, (refl, (refl, (refl, tt)))))
none-word step.NewFinal = (refl, (refl, (refl, (refl, (refl, (refl, (refl, (refl, tt))))))))

same_payload : (a b : List ℕ) → IsBytes a → IsBytes b → encode_of standard a ≡ encode_of standard b → a ≡ b
same_payload a b ha hb e =
    let both : Ok a ≡ Ok b = sym (decode_of-encode_of standard a refl ha) ∙ ap (decode_of standard) e ∙ decode_of-encode_of standard b refl hb in
    cc

same_step : (k l : Step) (b c : Block) (p q : Place) (t u : Tail) → b ≡ c → cursor_after k b p t ≡ cursor_after l c q u → StepOf k b p t ≡ StepOf l c q u
same_step k l b c p q t u block cursor =
    let tail : t ≡ u = same_Some t u (ap (λ (x : Cursor). x.tail) cursor) in
    λ i. StepOf (cursor i).step (block i) (cursor i).place (tail i)

one_step : PrintedIsRead → (k l : Step) (b c : Block) (p q : Place) (t u : Tail) (more rest : List ℕ)
    → IsBlockValue b → IsPrintable (cursor_after k b p t) → IsBlockValue c → IsPrintable (cursor_after l c q u)
    → step_line k b p t ++ more ≡ step_line l c q u ++ rest → (StepOf k b p t ≡ StepOf l c q u) × (more ≡ rest)
one_step law k l b c p q t u more rest hb pb hc pc e =
    let whole = sym (step_parts k b p t more) ∙ e ∙ step_parts l c q u rest in
    let word = split_at 34 (word_of k) (word_of l) _ _ (none-word k) (none-word l) (append_cancel_left (codes "{\"step\":\"") _ _ whole) in
    let num = split_number 44 b.num c.num _ _ refl hb.num hc.num (append_cancel_left (codes ",\"num\":") _ _ word.1) in
    let id = split_at 34 b.id c.id _ _ (none-id b.id hb.id) (none-id c.id hc.id) (append_cancel_left (codes "\"id\":\"") _ _ num.1) in
    let parent_num = split_number 44 b.parent_num c.parent_num _ _ refl hb.parent_num hc.parent_num (append_cancel_left (codes ",\"parent_num\":") _ _ id.1) in
    let parent_id = split_at 34 b.parent_id c.parent_id _ _ (none-id b.parent_id hb.parent_id) (none-id c.parent_id hc.parent_id) (append_cancel_left (codes "\"parent_id\":\"") _ _ parent_num.1) in
    let lib_num = split_number 44 b.lib_num c.lib_num _ _ refl hb.lib_num hc.lib_num (append_cancel_left (codes ",\"lib_num\":") _ _ parent_id.1) in
    let time = split_number 44 b.time c.time _ _ refl hb.time hc.time (append_cancel_left (codes "\"time\":") _ _ lib_num.1) in
    let payload = split_at 34 (encode_of standard b.payload) (encode_of standard c.payload) _ _ (none-standard b.payload) (none-standard c.payload) (append_cancel_left (codes "\"payload\":\"") _ _ time.1) in
    let bytes = same_payload b.payload c.payload hb.payload hc.payload payload.0 in
    let block : b ≡ c = same_block b c (λ i. record {
      num = num.0 i;
      parent_num = parent_num.0 i;
      lib_num = lib_num.0 i;
      time = time.0 i;
      id = id.0 i;
      parent_id = parent_id.0 i;
      payload = bytes i;
    }) in
    let hex = append_cancel_left (codes ",\"digest\":\"") _ _ payload.1 in
    let after_hex = append_cancel_left (encode_lower c.digest) _ _ (ap (λ (x : Block). encode_lower x.digest ++ (codes "\",\"cursor\":\"" ++ (cursor_text (cursor_after k b p t) ++ 34 ∷ (codes "}\n" ++ more)))) (sym block) ∙ hex) in
    let cursor = split_at 34 (cursor_text (cursor_after k b p t)) (cursor_text (cursor_after l c q u)) _ _ (none-url_safe (plain_text (cursor_after k b p t))) (none-url_safe (plain_text (cursor_after l c q u))) (append_cancel_left (codes "\",\"cursor\":\"") _ _ after_hex) in
    let same = law.one_value (cursor_after k b p t) (cursor_after l c q u) pb pc cursor.0 in
    (same_step k l b c p q t u block same, append_cancel_left (codes "}\n") more rest cursor.1)

-- ---- head lines

pub head_parts : (head : Option BlockRef) (seen : ℕ) (more : List ℕ) → head_line head seen ++ more ≡ codes "{\"head\":" ++ (ref_text head ++ (codes ",\"seen\":" ++ (decimal seen ++ 125 ∷ (codes "\n" ++ more))))
head_parts head seen more = whole_right (codes "{\"head\":" ∷ ref_text head ∷ codes ",\"seen\":" ∷ decimal seen ∷ codes "}\n" ∷ []) more

one_head : (a b : Option BlockRef) (m n : ℕ) (more rest : List ℕ) → IsValue (Head a m) → IsValue (Head b n) → head_line a m ++ more ≡ head_line b n ++ rest → (Head a m ≡ Head b n) × (more ≡ rest)
one_head a b m n more rest ha hb e =
    let whole = sym (head_parts a m more) ∙ e ∙ head_parts b n rest in
    let head = split_ref a b _ _ ha.0 hb.0 (append_cancel_left (codes "{\"head\":") _ _ whole) in
    let seen = split_number 125 m n _ _ refl ha.1 hb.1 (append_cancel_left (codes ",\"seen\":") _ _ head.1) in
    (λ i. Head (head.0 i) (seen.0 i), append_cancel_left (codes "\n") more rest seen.1)

-- ---- end lines

one_end : (a b : Bool) (more rest : List ℕ) → end_line a ++ more ≡ end_line b ++ rest → (End a ≡ End b) × (more ≡ rest)
one_end true true more rest e = (refl, append_cancel_left (codes "{\"end\":\"done\"}\n") more rest e)
one_end true false more rest e = absurd (eqb-false 100 99 refl (ap (λ l. get_or l 8 0) e))
one_end false true more rest e = absurd (eqb-false 99 100 refl (ap (λ l. get_or l 8 0) e))
one_end false false more rest e = (refl, append_cancel_left (codes "{\"end\":\"closing\"}\n") more rest e)

-- ---- error lines

-- a word by its length and its first two bytes
abbrev tag : List ℕ → ℕ
tag w = length w * 65536 + get_or w 0 0 * 256 + get_or w 1 0

one_field : (f g : RequestField) → request_word f ≡ request_word g → f ≡ g
one_field field.Shape field.Shape e = refl
one_field field.Extra field.Extra e = refl
one_field field.Start field.Start e = refl
one_field field.Stop field.Stop e = refl
one_field field.FinalOnly field.FinalOnly e = refl
one_field field.Cursor field.Cursor e = refl
one_field f g e = absurd (let same : tag (request_word f) ≡ tag (request_word g) = ap tag e in omega (arith, same))

one_misfit : (f g : MisfitField) → misfit_word f ≡ misfit_word g → f ≡ g
one_misfit misfit.Block misfit.Block e = refl
one_misfit misfit.End misfit.End e = refl
one_misfit misfit.Lib misfit.Lib e = refl
one_misfit misfit.Step misfit.Step e = refl
one_misfit misfit.Seen misfit.Seen e = refl
one_misfit f g e = absurd (let same : tag (misfit_word f) ≡ tag (misfit_word g) = ap tag e in omega (arith, same))

pub none-request_word : (f : RequestField) → NoneIs 34 (request_word f)
none-request_word field.Shape = (refl, (refl, (refl, (refl, (refl, tt)))))
none-request_word field.Extra = (refl, (refl, (refl, (refl, (refl, tt)))))
none-request_word field.Start = none-test is_symbol 34 (request_word field.Start) refl refl
none-request_word field.Stop = none-test is_symbol 34 (request_word field.Stop) refl refl
none-request_word field.FinalOnly = none-test is_symbol 34 (request_word field.FinalOnly) refl refl
none-request_word field.Cursor = none-test is_symbol 34 (request_word field.Cursor) refl refl

pub none-misfit_word : (f : MisfitField) → NoneIs 34 (misfit_word f)
none-misfit_word misfit.Block = none-test is_symbol 34 (misfit_word misfit.Block) refl refl
none-misfit_word misfit.End = none-test is_symbol 34 (misfit_word misfit.End) refl refl
none-misfit_word misfit.Lib = none-test is_symbol 34 (misfit_word misfit.Lib) refl refl
none-misfit_word misfit.Step = none-test is_symbol 34 (misfit_word misfit.Step) refl refl
none-misfit_word misfit.Seen = none-test is_symbol 34 (misfit_word misfit.Seen) refl refl

-- the word of an error, and what stands after its quote
abbrev pub error_word : ErrorLine → List ℕ
error_word (fault.BadRequest f) = codes "bad_request"
error_word fault.TooLong = codes "too_long"
error_word (fault.Malformed at) = codes "malformed"
error_word (fault.Unknown id) = codes "unknown"
error_word (fault.Misfit f) = codes "misfit"
error_word (fault.StopBelow end) = codes "stop_below"
error_word fault.ShelfFault = codes "shelf"
error_word (fault.ShelfBad name at) = codes "shelf_bad"
error_word (fault.Missing name) = codes "missing"
error_word (fault.StoredOther num id) = codes "stored_other"
error_word fault.Spent = codes "spent"
error_word fault.Mem = codes "memory"

pub none-error_word : (e : ErrorLine) → NoneIs 34 (error_word e)
none-error_word (fault.BadRequest f) = none-test is_symbol 34 (codes "bad_request") refl refl
none-error_word fault.TooLong = none-test is_symbol 34 (codes "too_long") refl refl
none-error_word (fault.Malformed at) = none-test is_symbol 34 (codes "malformed") refl refl
none-error_word (fault.Unknown id) = none-test is_symbol 34 (codes "unknown") refl refl
none-error_word (fault.Misfit f) = none-test is_symbol 34 (codes "misfit") refl refl
none-error_word (fault.StopBelow end) = none-test is_symbol 34 (codes "stop_below") refl refl
none-error_word fault.ShelfFault = none-test is_symbol 34 (codes "shelf") refl refl
none-error_word (fault.ShelfBad name at) = none-test is_symbol 34 (codes "shelf_bad") refl refl
none-error_word (fault.Missing name) = none-test is_symbol 34 (codes "missing") refl refl
none-error_word (fault.StoredOther num id) = none-test is_symbol 34 (codes "stored_other") refl refl
none-error_word fault.Spent = none-test is_symbol 34 (codes "spent") refl refl
none-error_word fault.Mem = none-test is_symbol 34 (codes "memory") refl refl

abbrev pub error_rest : ErrorLine → List ℕ → List ℕ
error_rest (fault.BadRequest f) more = codes ",\"field\":\"" ++ (request_word f ++ 34 ∷ (codes "}\n" ++ more))
error_rest fault.TooLong more = codes "}\n" ++ more
error_rest (fault.Malformed at) more = codes ",\"at\":" ++ (decimal at ++ 125 ∷ (codes "\n" ++ more))
error_rest (fault.Unknown id) more = codes ",\"id\":\"" ++ (id ++ 34 ∷ (codes "}\n" ++ more))
error_rest (fault.Misfit f) more = codes ",\"field\":\"" ++ (misfit_word f ++ 34 ∷ (codes "}\n" ++ more))
error_rest (fault.StopBelow end) more = codes ",\"end\":" ++ (decimal end ++ 125 ∷ (codes "\n" ++ more))
error_rest fault.ShelfFault more = codes "}\n" ++ more
error_rest (fault.ShelfBad name at) more = codes ",\"name\":\"" ++ (escaped name ++ 34 ∷ (codes ",\"at\":" ++ (decimal at ++ 125 ∷ (codes "\n" ++ more))))
error_rest (fault.Missing name) more = codes ",\"name\":\"" ++ (escaped name ++ 34 ∷ (codes "}\n" ++ more))
error_rest (fault.StoredOther num id) more = codes ",\"num\":" ++ (decimal num ++ 44 ∷ (codes "\"id\":\"" ++ (id ++ 34 ∷ (codes "}\n" ++ more))))
error_rest fault.Spent more = codes "}\n" ++ more
error_rest fault.Mem more = codes "}\n" ++ more

pub error_parts : (e : ErrorLine) (more : List ℕ) → error_line e ++ more ≡ codes "{\"error\":\"" ++ (error_word e ++ 34 ∷ error_rest e more)
error_parts (fault.BadRequest f) more = whole_right (codes "{\"error\":\"bad_request\",\"field\":\"" ∷ request_word f ∷ codes "\"}\n" ∷ []) more
error_parts fault.TooLong more = refl
error_parts (fault.Malformed at) more = whole_right (codes "{\"error\":\"malformed\",\"at\":" ∷ decimal at ∷ codes "}\n" ∷ []) more
error_parts (fault.Unknown id) more = whole_right (codes "{\"error\":\"unknown\",\"id\":\"" ∷ id ∷ codes "\"}\n" ∷ []) more
error_parts (fault.Misfit f) more = whole_right (codes "{\"error\":\"misfit\",\"field\":\"" ∷ misfit_word f ∷ codes "\"}\n" ∷ []) more
error_parts (fault.StopBelow end) more = whole_right (codes "{\"error\":\"stop_below\",\"end\":" ∷ decimal end ∷ codes "}\n" ∷ []) more
error_parts fault.ShelfFault more = refl
error_parts (fault.ShelfBad name at) more = whole_right (codes "{\"error\":\"shelf_bad\",\"name\":\"" ∷ escaped name ∷ codes "\",\"at\":" ∷ decimal at ∷ codes "}\n" ∷ []) more
error_parts (fault.Missing name) more = whole_right (codes "{\"error\":\"missing\",\"name\":\"" ∷ escaped name ∷ codes "\"}\n" ∷ []) more
error_parts (fault.StoredOther num id) more = whole_right (codes "{\"error\":\"stored_other\",\"num\":" ∷ decimal num ∷ codes ",\"id\":\"" ∷ id ∷ codes "\"}\n" ∷ []) more
error_parts fault.Spent more = refl
error_parts fault.Mem more = refl

-- errors with one word and one rest
one_rest : (a b : ErrorLine) (more rest : List ℕ) → IsErrorValue a → IsErrorValue b → error_word a ≡ error_word b → error_rest a more ≡ error_rest b rest → (a ≡ b) × (more ≡ rest)
one_rest (fault.BadRequest f) (fault.BadRequest g) more rest ha hb w e =
    let p = split_at 34 (request_word f) (request_word g) _ _ (none-request_word f) (none-request_word g) (append_cancel_left (codes ",\"field\":\"") _ _ e) in
    (ap fault.BadRequest (one_field f g p.0), append_cancel_left (codes "}\n") more rest p.1)
one_rest fault.TooLong fault.TooLong more rest ha hb w e = (refl, append_cancel_left (codes "}\n") more rest e)
one_rest (fault.Malformed m) (fault.Malformed n) more rest ha hb w e =
    let p = split_number 125 m n _ _ refl ha hb (append_cancel_left (codes ",\"at\":") _ _ e) in
    (ap fault.Malformed p.0, append_cancel_left (codes "\n") more rest p.1)
one_rest (fault.Unknown m) (fault.Unknown n) more rest ha hb w e =
    let p = split_at 34 m n _ _ (none-id m ha) (none-id n hb) (append_cancel_left (codes ",\"id\":\"") _ _ e) in
    (ap fault.Unknown p.0, append_cancel_left (codes "}\n") more rest p.1)
one_rest (fault.Misfit f) (fault.Misfit g) more rest ha hb w e =
    let p = split_at 34 (misfit_word f) (misfit_word g) _ _ (none-misfit_word f) (none-misfit_word g) (append_cancel_left (codes ",\"field\":\"") _ _ e) in
    (ap fault.Misfit (one_misfit f g p.0), append_cancel_left (codes "}\n") more rest p.1)
one_rest (fault.StopBelow m) (fault.StopBelow n) more rest ha hb w e =
    let p = split_number 125 m n _ _ refl ha hb (append_cancel_left (codes ",\"end\":") _ _ e) in
    (ap fault.StopBelow p.0, append_cancel_left (codes "\n") more rest p.1)
one_rest fault.ShelfFault fault.ShelfFault more rest ha hb w e = (refl, append_cancel_left (codes "}\n") more rest e)
one_rest (fault.ShelfBad m i) (fault.ShelfBad n j) more rest ha hb w e =
    let p = split_escaped m n _ _ (append_cancel_left (codes ",\"name\":\"") _ _ e) in
    let q = split_number 125 i j _ _ refl ha hb (append_cancel_left (codes ",\"at\":") _ _ p.1) in
    (λ k. fault.ShelfBad (p.0 k) (q.0 k), append_cancel_left (codes "\n") more rest q.1)
one_rest (fault.Missing m) (fault.Missing n) more rest ha hb w e =
    let p = split_escaped m n _ _ (append_cancel_left (codes ",\"name\":\"") _ _ e) in
    (ap fault.Missing p.0, append_cancel_left (codes "}\n") more rest p.1)
one_rest (fault.StoredOther i m) (fault.StoredOther j n) more rest ha hb w e =
    let q = split_number 44 i j _ _ refl ha.0 hb.0 (append_cancel_left (codes ",\"num\":") _ _ e) in
    let p = split_at 34 m n _ _ (none-id m ha.1) (none-id n hb.1) (append_cancel_left (codes "\"id\":\"") _ _ q.1) in
    (λ k. fault.StoredOther (q.0 k) (p.0 k), append_cancel_left (codes "}\n") more rest p.1)
one_rest fault.Spent fault.Spent more rest ha hb w e = (refl, append_cancel_left (codes "}\n") more rest e)
one_rest fault.Mem fault.Mem more rest ha hb w e = (refl, append_cancel_left (codes "}\n") more rest e)
one_rest a b more rest ha hb w e = absurd (let same : tag (error_word a) ≡ tag (error_word b) = ap tag w in omega (arith, same))

one_error : (a b : ErrorLine) (more rest : List ℕ) → IsErrorValue a → IsErrorValue b → error_line a ++ more ≡ error_line b ++ rest → (Error a ≡ Error b) × (more ≡ rest)
one_error a b more rest ha hb e =
    let whole = sym (error_parts a more) ∙ e ∙ error_parts b rest in
    let word = split_at 34 (error_word a) (error_word b) (error_rest a more) (error_rest b rest) (none-error_word a) (none-error_word b) (append_cancel_left (codes "{\"error\":\"") _ _ whole) in
    let both = one_rest a b more rest ha hb word.0 word.1 in
    (ap Error both.0, both.1)

-- ---- lines

-- the third and the fourth byte tell the kinds of lines apart
abbrev kind_of : Reply → ℕ
kind_of (Open type run place) = 0
kind_of (StepOf kind b place tail) = 1
kind_of (Head head seen) = 2
kind_of (End done) = 3
kind_of (Error e) = 4

error_starts : (e : ErrorLine) (more : List ℕ) → get_or (error_line e ++ more) 3 0 ≡ 114
error_starts e more = ap (λ l. get_or l 3 0) (error_parts e more)

error_third : (e : ErrorLine) (more : List ℕ) → get_or (error_line e ++ more) 2 0 ≡ 101
error_third e more = ap (λ l. get_or l 2 0) (error_parts e more)

end_starts : (done : Bool) (more : List ℕ) → (get_or (end_line done ++ more) 3 0 ≡ 110) × (get_or (end_line done ++ more) 2 0 ≡ 101)
end_starts true more = (refl, refl)
end_starts false more = (refl, refl)

-- what the bytes there are
abbrev third_of : Reply → ℕ
third_of (Open type run place) = 111
third_of (StepOf kind b place tail) = 115
third_of (Head head seen) = 104
third_of (End done) = 101
third_of (Error e) = 101

abbrev fourth_of : Reply → ℕ
fourth_of (Open type run place) = 112
fourth_of (StepOf kind b place tail) = 116
fourth_of (Head head seen) = 101
fourth_of (End done) = 110
fourth_of (Error e) = 114

third_is : (r : Reply) (more : List ℕ) → get_or (reply_line r ++ more) 2 0 ≡ third_of r
third_is (Open type run place) more = ap (λ l. get_or l 2 0) (open_parts type run place more)
third_is (StepOf kind b place tail) more = ap (λ l. get_or l 2 0) (step_parts kind b place tail more)
third_is (Head head seen) more = ap (λ l. get_or l 2 0) (head_parts head seen more)
third_is (End done) more = (end_starts done more).1
third_is (Error e) more = error_third e more

fourth_is : (r : Reply) (more : List ℕ) → get_or (reply_line r ++ more) 3 0 ≡ fourth_of r
fourth_is (Open type run place) more = ap (λ l. get_or l 3 0) (open_parts type run place more)
fourth_is (StepOf kind b place tail) more = ap (λ l. get_or l 3 0) (step_parts kind b place tail more)
fourth_is (Head head seen) more = ap (λ l. get_or l 3 0) (head_parts head seen more)
fourth_is (End done) more = (end_starts done more).0
fourth_is (Error e) more = error_starts e more

one_line : PrintedIsRead → (a b : Reply) (more rest : List ℕ) → IsValue a → IsValue b → (third_of a ≡ third_of b) × (fourth_of a ≡ fourth_of b) → reply_line a ++ more ≡ reply_line b ++ rest → (a ≡ b) × (more ≡ rest)
one_line law (Open t m p) (Open u n q) more rest ha hb k e = one_open t u m n p q more rest ha hb e
one_line law (StepOf k b p t) (StepOf l c q u) more rest ha hb s e = one_step law k l b c p q t u more rest ha.0 ha.1 hb.0 hb.1 e
one_line law (Head a m) (Head b n) more rest ha hb k e = one_head a b m n more rest ha hb e
one_line law (End a) (End b) more rest ha hb k e = one_end a b more rest e
one_line law (Error a) (Error b) more rest ha hb k e = one_error a b more rest ha hb e
one_line law a b more rest ha hb k e = absurd (omega (arith, k.0, k.1))

-- two texts that begin with a line begin with one
pub one_front : PrintedIsRead → (a b : Reply) (more rest : List ℕ) → IsValue a → IsValue b → reply_line a ++ more ≡ reply_line b ++ rest → (a ≡ b) × (more ≡ rest)
one_front law a b more rest ha hb e =
    one_line law a b more rest ha hb
    (sym (third_is a more) ∙ ap (λ l. get_or l 2 0) e ∙ third_is b rest, sym (fourth_is a more) ∙ ap (λ l. get_or l 3 0) e ∙ fourth_is b rest) e

pub line_has_one_value : PrintedIsRead → LineHasOneValue
line_has_one_value law line a b ha hb =
    (one_front law a b [] [] ha.value hb.value (append-nil (reply_line a) ∙ ha.text ∙ sym hb.text ∙ sym (append-nil (reply_line b)))).0

-- a line has a first byte
nonempty : (r : Reply) (more : List ℕ) → reply_line r ++ more ≡ [] → ⊥
nonempty r more e = let none : get_or (reply_line r ++ more) 2 0 ≡ 0 = ap (λ l. get_or l 2 0) e in zero_third r (sym (third_is r more) ∙ none)
  where
    zero_third : (r : Reply) → third_of r ≡ 0 → ⊥
    zero_third (Open type run place) h = omega (arith, h)
    zero_third (StepOf kind b place tail) h = omega (arith, h)
    zero_third (Head head seen) h = omega (arith, h)
    zero_third (End done) h = omega (arith, h)
    zero_third (Error e) h = omega (arith, h)

pub text_has_one_reading : PrintedIsRead → TextHasOneReading
text_has_one_reading law [] [] hx hy e = refl
text_has_one_reading law [] (y ∷ ys) hx hy e = absurd (nonempty y (reply_text ys) (sym e))
text_has_one_reading law (x ∷ xs) [] hx hy e = absurd (nonempty x (reply_text xs) e)
text_has_one_reading law (x ∷ xs) (y ∷ ys) hx hy e =
    let front = one_front law x y (reply_text xs) (reply_text ys) hx.0 hy.0 e in
    let rest = text_has_one_reading law xs ys hx.1 hy.1 front.1 in
    λ i. front.0 i ∷ rest i

pub reads_front : PrintedIsRead → ReadsFront
reads_front law [] ys rest hx hy e = refl
reads_front law (x ∷ xs) [] rest hx hy e = absurd (nonempty x (reply_text xs ++ rest) (sym (append_assoc (reply_line x) (reply_text xs) rest) ∙ e))
reads_front law (x ∷ xs) (y ∷ ys) rest hx hy e =
    let front = one_front law x y (reply_text xs ++ rest) (reply_text ys) hx.0 hy.0 (sym (append_assoc (reply_line x) (reply_text xs) rest) ∙ e) in
    let later = reads_front law xs ys rest hx.1 hy.1 front.1 in
    λ i. front.0 i ∷ later i
