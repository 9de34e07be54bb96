-- The lines that a client is sent, byte by byte. Each is one JSON object without spaces, and ends with an LF.
use Rattle.std.specs.Prelude.{ℕ, Bool, List, [], ◌∷◌, codes, if◌then◌else◌, Option, None, Some}
use Rattle.std.specs.Fmt.{decimal}
use Rattle.std.specs.List.{concat}
use Rattle.base64.specs.GeneralPurpose.{encode_of}
use Rattle.base64.specs.Engines.{standard}
use Rattle.hex.specs.Hex.{encode_lower}
use Rattle.text_parts.specs.Parts.{escaped}
use Rattle.block_record.specs.declared.blocks.Block.{Block}
use Rattle.block_record.specs.declared.blocks.BlockRef.{BlockRef}
use Rattle.chain_model.specs.declared.places.Step.{Step}
use Rattle.chain_model.specs.declared.places.Place.{Place}
use Rattle.step_text.specs.StepText.{word_of}
use Rattle.step_cursor.specs.declared.cursor.Cursor.{Cursor}
use Rattle.step_cursor.specs.declared.cursor.Tail.{Tail}
use Rattle.step_cursor.specs.declared.cursor.MisfitField.{MisfitField}
use Rattle.step_cursor.specs.declared.cursor.MisfitField.TheVariants as misfit
use Rattle.step_cursor.specs.CursorText.{cursor_text}
use Rattle.reply_text.specs.declared.errors.RequestField.{RequestField}
use Rattle.reply_text.specs.declared.errors.RequestField.TheVariants as field
use Rattle.reply_text.specs.declared.errors.ErrorLine.{ErrorLine}
use Rattle.reply_text.specs.declared.errors.ErrorLine.TheVariants as fault

-- a block by number and id, or `null`
abbrev pub ref_text : Option BlockRef → List ℕ
ref_text None = codes "null"
ref_text (Some r) = concat (codes "{\"num\":" ∷ decimal r.num ∷ codes ",\"id\":\"" ∷ r.id ∷ codes "\"}" ∷ [])

-- the first line of a session: the type of the blocks, the run, and the place from which the first batch begins
abbrev pub open_line : List ℕ → ℕ → Place → List ℕ
open_line type run_number place =
    concat (
    codes "{\"open\":\"" ∷ escaped type ∷ codes "\",\"run\":" ∷ decimal run_number
    ∷ codes ",\"end\":" ∷ ref_text place.end ∷ codes ",\"lib\":" ∷ ref_text place.lib ∷ codes "}\n" ∷ []
    )

-- the cursor of a step with its block, the place after it, and the run and the length of the history
abbrev pub cursor_after : Step → Block → Place → Tail → Cursor
cursor_after kind b place tail = record { step = kind; block = record { num = b.num; id = b.id }; place = place; tail = Some tail }

-- the line of a step up to its cursor: its block, the payload in base64 of the standard alphabet, padded (RFC 4648, section 4), and its SHA-256 in lower-case hexadecimal digits
abbrev pub step_front : Step → Block → List ℕ
step_front kind b =
    concat (
    codes "{\"step\":\"" ∷ word_of kind ∷ codes "\",\"num\":" ∷ decimal b.num ∷ codes ",\"id\":\"" ∷ b.id
    ∷ codes "\",\"parent_num\":" ∷ decimal b.parent_num ∷ codes ",\"parent_id\":\"" ∷ b.parent_id
    ∷ codes "\",\"lib_num\":" ∷ decimal b.lib_num ∷ codes ",\"time\":" ∷ decimal b.time
    ∷ codes ",\"payload\":\"" ∷ encode_of standard b.payload ∷ codes "\",\"digest\":\"" ∷ encode_lower b.digest
    ∷ codes "\",\"cursor\":\"" ∷ []
    )

-- the line of a step, with the cursor after it
abbrev pub step_line : Step → Block → Place → Tail → List ℕ
step_line kind b place tail = concat (step_front kind b ∷ cursor_text (cursor_after kind b place tail) ∷ codes "\"}\n" ∷ [])

-- the line that ends a batch: the last block of the target, and the length of the history
abbrev pub head_line : Option BlockRef → ℕ → List ℕ
head_line head seen = concat (codes "{\"head\":" ∷ ref_text head ∷ codes ",\"seen\":" ∷ decimal seen ∷ codes "}\n" ∷ [])

-- the line that ends a session: the stop is final, or no block will come
abbrev pub end_line : Bool → List ℕ
end_line done = if done then codes "{\"end\":\"done\"}\n" else codes "{\"end\":\"closing\"}\n"

-- the word of a part of a request
abbrev pub request_word : RequestField → List ℕ
request_word field.Shape = codes "shape"
request_word field.Extra = codes "extra"
request_word field.Start = codes "start_block_num"
request_word field.Stop = codes "stop_block_num"
request_word field.FinalOnly = codes "final_blocks_only"
request_word field.Cursor = codes "cursor"

-- the word of a part of a cursor
abbrev pub misfit_word : MisfitField → List ℕ
misfit_word misfit.Block = codes "block"
misfit_word misfit.End = codes "end"
misfit_word misfit.Lib = codes "lib"
misfit_word misfit.Step = codes "step"
misfit_word misfit.Seen = codes "seen"

-- the line that says why a session was refused or broke off; a file's name may have bytes that are escaped
abbrev pub error_line : ErrorLine → List ℕ
error_line (fault.BadRequest f) = concat (codes "{\"error\":\"bad_request\",\"field\":\"" ∷ request_word f ∷ codes "\"}\n" ∷ [])
error_line fault.TooLong = codes "{\"error\":\"too_long\"}\n"
error_line (fault.Malformed at) = concat (codes "{\"error\":\"malformed\",\"at\":" ∷ decimal at ∷ codes "}\n" ∷ [])
error_line (fault.Unknown id) = concat (codes "{\"error\":\"unknown\",\"id\":\"" ∷ id ∷ codes "\"}\n" ∷ [])
error_line (fault.Misfit f) = concat (codes "{\"error\":\"misfit\",\"field\":\"" ∷ misfit_word f ∷ codes "\"}\n" ∷ [])
error_line (fault.StopBelow end) = concat (codes "{\"error\":\"stop_below\",\"end\":" ∷ decimal end ∷ codes "}\n" ∷ [])
error_line fault.ShelfFault = codes "{\"error\":\"shelf\"}\n"
error_line (fault.ShelfBad name at) =
    concat (codes "{\"error\":\"shelf_bad\",\"name\":\"" ∷ escaped name ∷ codes "\",\"at\":" ∷ decimal at ∷ codes "}\n" ∷ [])
error_line (fault.Missing name) = concat (codes "{\"error\":\"missing\",\"name\":\"" ∷ escaped name ∷ codes "\"}\n" ∷ [])
error_line (fault.StoredOther num id) =
    concat (codes "{\"error\":\"stored_other\",\"num\":" ∷ decimal num ∷ codes ",\"id\":\"" ∷ id ∷ codes "\"}\n" ∷ [])
error_line fault.Spent = codes "{\"error\":\"spent\"}\n"
error_line fault.Mem = codes "{\"error\":\"memory\"}\n"
