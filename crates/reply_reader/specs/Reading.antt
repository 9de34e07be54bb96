-- The members of a line, read one after another.
use Rattle.std.specs.Prelude.{ℕ, ◌≡◌, List, [], codes, if◌then◌else◌, Option, None, Some, IsSome, Result, Ok, Err, Bool, true, false}
use Rattle.std.specs.Option.{option_map}
use Rattle.std.specs.Str.{bytes_eq}
use Rattle.base64.specs.GeneralPurpose.{IsBytes}
use Rattle.hex.specs.Hex.{encode_lower}
use Rattle.sha2.specs.Sha256.{sha256}
use Rattle.block_record.specs.declared.blocks.BlockRef.{BlockRef}
use Rattle.block_record.specs.Number.{number_of}
use Rattle.block_record.specs.Parents.{is_parent_num}
use Rattle.block_record.specs.Records.{Field, Fields, fields_of}
use Rattle.block_record.specs.Texts.{is_type_text}
use Rattle.chain_model.specs.declared.places.Step.{Step}
use Rattle.fire_lines.specs.Fields.{id_of, payload_of}
use Rattle.step_cursor.specs.declared.cursor.Cursor.{Cursor}
use Rattle.step_cursor.specs.declared.cursor.MisfitField.{MisfitField}
use Rattle.step_cursor.specs.declared.cursor.MisfitField.TheVariants as misfit
use Rattle.reply_text.specs.declared.errors.RequestField.{RequestField}
use Rattle.reply_text.specs.declared.errors.RequestField.TheVariants as field
use Rattle.reply_text.specs.declared.errors.ErrorLine.{ErrorLine}
use Rattle.reply_text.specs.declared.errors.ErrorLine.TheVariants as fault
use Rattle.reply_reader.specs.declared.lines.Names.{Names}
use Rattle.reply_reader.specs.declared.replies.Reply.{Reply}
use Rattle.reply_reader.specs.declared.replies.Reply.TheVariants as reply
use Rattle.reply_reader.specs.declared.replies.ReplyFault.{ReplyFault}
use Rattle.reply_reader.specs.declared.replies.ReplyFault.TheVariants.{BadReply, Mem}
use Rattle.reply_reader.specs.Parts.{◌>>=◌, or_by, after_front, until, member, step_named, cursor_in, quoted}

-- what a line says, where a block is its fields
pub data Said : Type 0 where
  OpenOf : List ℕ → ℕ → Option BlockRef → Option BlockRef → Said
  StepOf : Step → Fields → Cursor → Said
  HeadOf : Option BlockRef → ℕ → Said
  EndOf : Bool → Said
  ErrorOf : List ℕ → Said

-- what a reply says
abbrev pub said : Reply → Said
said (reply.Open type run_number end lib) = OpenOf type run_number end lib
said (reply.Step kind b cursor) = StepOf kind (fields_of b) cursor
said (reply.Head head seen) = HeadOf head seen
said (reply.End done) = EndOf done
said (reply.Error line) = ErrorOf line

-- the payload of a step's block has bytes
abbrev pub HasBytes : Reply → Type 0
HasBytes (reply.Open type run_number end lib) = Unit {0}
HasBytes (reply.Step kind b cursor) = IsBytes b.payload
HasBytes (reply.Head head seen) = Unit {0}
HasBytes (reply.End done) = Unit {0}
HasBytes (reply.Error line) = Unit {0}

-- what a function returned, seen by view, is what is read, unless there was no memory
abbrev pub Fails : {Y : Type 0} → ReplyFault → Option Y → Type 0
Fails Mem expected = Unit {0}
Fails BadReply expected = expected ≡ None

abbrev pub Gives : {X Y : Type 0} → (X → Y) → Result X ReplyFault → Option Y → Type 0
Gives view (Ok x) expected = expected ≡ Some (view x)
Gives view (Err e) expected = Fails e expected

-- the same of a function that returns no value
abbrev pub Confirms : {Y : Type 0} → Result (Unit {0}) ReplyFault → Option Y → Type 0
Confirms (Ok x) expected = IsSome expected
Confirms (Err e) expected = Fails e expected

-- a block by number and id
abbrev pub some_ref_at : Field (Option BlockRef)
some_ref_at text = do
  num ← member (codes "{\"num\":") 44 number_of text
  id ← member (codes "\"id\":\"") 34 id_of num.1
  rest ← after_front (codes "}") id.1
  Some (Some (record { num = num.0; id = id.0 }), rest)

-- the same, or `null`
unfoldable pub ref_at : Field (Option BlockRef)
ref_at text = or_by (after_front (codes "null") text) (λ rest. Some (None, rest)) (some_ref_at text)

-- a member whose value is one
abbrev pub ref_member : List ℕ → Field (Option BlockRef)
ref_member front text = after_front front text >>= ref_at

-- a value that is the last of its line, before these bytes
abbrev pub ends : {A : Type 0} → List ℕ → List ℕ → A → Option A
ends end rest value = if bytes_eq rest end then Some value else None

-- the type of the blocks
abbrev pub type_at : Field (List ℕ)
type_at text = quoted text >>= λ p. if is_type_text p.0 then Some p else None

unfoldable pub read_open : List ℕ → Option Said
read_open text = do
  type ← type_at text
  run ← member (codes ",\"run\":") 44 number_of type.1
  end ← ref_member (codes "\"end\":") run.1
  lib ← ref_member (codes ",\"lib\":") end.1
  ends (codes "}") lib.1 (OpenOf type.0 run.0 end.0 lib.0)

-- the members that name a block and its parent, whatever the parent's number
unfoldable pub any_names_at : Field Names
any_names_at text = do
  num ← member (codes ",\"num\":") 44 number_of text
  id ← member (codes "\"id\":\"") 34 id_of num.1
  parent_num ← member (codes ",\"parent_num\":") 44 number_of id.1
  parent_id ← member (codes "\"parent_id\":\"") 34 id_of parent_num.1
  Some (record { num = num.0; id = id.0; parent_num = parent_num.0; parent_id = parent_id.0 }, parent_id.1)

-- the same, where the parent may have its number
unfoldable pub names_at : Field Names
names_at text = any_names_at text >>= λ p. if is_parent_num p.0.parent_num p.0.num then Some p else None

-- the members of a block
unfoldable pub block_at : Field Fields
block_at text = do
  names ← names_at text
  lib_num ← member (codes ",\"lib_num\":") 44 number_of names.1
  time ← member (codes "\"time\":") 44 number_of lib_num.1
  payload ← member (codes "\"payload\":\"") 34 payload_of time.1
  Some (record { num = names.0.num; parent_num = names.0.parent_num; lib_num = lib_num.0; time = time.0; id = names.0.id; parent_id = names.0.parent_id; payload = payload.0 }, payload.1)

-- what follows the digest, which is this one, where the line has it
abbrev pub digest_value : List ℕ → List ℕ → Option (List ℕ)
digest_value digest text = after_front (encode_lower digest) text >>= after_front (codes "\"")

unfoldable pub after_digest : List ℕ → List ℕ → Option (List ℕ)
after_digest digest text = or_by (after_front (codes ",\"digest\":\"") text) (digest_value digest) (Some text)

unfoldable pub read_step : List ℕ → Option Said
read_step text = do
  kind ← member [] 34 step_named text
  block ← block_at kind.1
  rest ← after_digest (sha256 block.0.payload) block.1
  cursor ← member (codes ",\"cursor\":\"") 34 cursor_in rest
  ends (codes "}") cursor.1 (StepOf kind.0 block.0 cursor.0)

unfoldable pub read_head : List ℕ → Option Said
read_head text = do
  head ← ref_at text
  seen ← member (codes ",\"seen\":") 125 number_of head.1
  ends [] seen.1 (HeadOf head.0 seen.0)

unfoldable pub read_end : List ℕ → Option Said
read_end text = if bytes_eq text (codes "done\"}") then Some (EndOf true) else if bytes_eq text (codes "closing\"}") then Some (EndOf false) else None

-- the part of a request that a word names
abbrev pub request_field : List ℕ → Option RequestField
request_field word =
    if bytes_eq word (codes "shape") then Some field.Shape
    else if bytes_eq word (codes "extra") then Some field.Extra
    else if bytes_eq word (codes "start_block_num") then Some field.Start
    else if bytes_eq word (codes "stop_block_num") then Some field.Stop
    else if bytes_eq word (codes "final_blocks_only") then Some field.FinalOnly
    else if bytes_eq word (codes "cursor") then Some field.Cursor
    else None

-- the part of a cursor that a word names
abbrev pub misfit_field : List ℕ → Option MisfitField
misfit_field word =
    if bytes_eq word (codes "block") then Some misfit.Block
    else if bytes_eq word (codes "end") then Some misfit.End
    else if bytes_eq word (codes "lib") then Some misfit.Lib
    else if bytes_eq word (codes "step") then Some misfit.Step
    else if bytes_eq word (codes "seen") then Some misfit.Seen
    else None

-- the members of each error line after its word
abbrev pub bad_request_in : List ℕ → Option ErrorLine
bad_request_in text = member (codes ",\"field\":\"") 34 request_field text >>= λ f. ends (codes "}") f.1 (fault.BadRequest f.0)

abbrev pub malformed_in : List ℕ → Option ErrorLine
malformed_in text = member (codes ",\"at\":") 125 number_of text >>= λ at. ends [] at.1 (fault.Malformed at.0)

abbrev pub unknown_in : List ℕ → Option ErrorLine
unknown_in text = member (codes ",\"id\":\"") 34 id_of text >>= λ id. ends (codes "}") id.1 (fault.Unknown id.0)

abbrev pub misfit_in : List ℕ → Option ErrorLine
misfit_in text = member (codes ",\"field\":\"") 34 misfit_field text >>= λ f. ends (codes "}") f.1 (fault.Misfit f.0)

abbrev pub stop_below_in : List ℕ → Option ErrorLine
stop_below_in text = member (codes ",\"end\":") 125 number_of text >>= λ end. ends [] end.1 (fault.StopBelow end.0)

abbrev pub stored_other_in : List ℕ → Option ErrorLine
stored_other_in text = member (codes ",\"num\":") 44 number_of text >>= λ num. member (codes "\"id\":\"") 34 id_of num.1 >>= λ id. ends (codes "}") id.1 (fault.StoredOther num.0 id.0)

abbrev pub name_at : Field (List ℕ)
name_at text = after_front (codes ",\"name\":\"") text >>= quoted

abbrev pub shelf_bad_in : List ℕ → Option ErrorLine
shelf_bad_in text = name_at text >>= λ name. member (codes ",\"at\":") 125 number_of name.1 >>= λ at. ends [] at.1 (fault.ShelfBad name.0 at.0)

abbrev pub missing_in : List ℕ → Option ErrorLine
missing_in text = name_at text >>= λ name. ends (codes "}") name.1 (fault.Missing name.0)

-- the error that has no members but its word
abbrev pub bare_error : List ℕ → List ℕ → Option ErrorLine
bare_error word text =
    if bytes_eq word (codes "too_long") then ends (codes "}") text fault.TooLong
    else if bytes_eq word (codes "shelf") then ends (codes "}") text fault.ShelfFault
    else if bytes_eq word (codes "spent") then ends (codes "}") text fault.Spent
    else if bytes_eq word (codes "memory") then ends (codes "}") text fault.Mem
    else None

-- the error whose word and whose further members these are, where it names no file
abbrev pub plain_error : List ℕ → List ℕ → Option ErrorLine
plain_error word text =
    if bytes_eq word (codes "bad_request") then bad_request_in text
    else if bytes_eq word (codes "malformed") then malformed_in text
    else if bytes_eq word (codes "unknown") then unknown_in text
    else if bytes_eq word (codes "misfit") then misfit_in text
    else if bytes_eq word (codes "stop_below") then stop_below_in text
    else if bytes_eq word (codes "stored_other") then stored_other_in text
    else bare_error word text

-- the same of any error
abbrev pub error_by : List ℕ → List ℕ → Option ErrorLine
error_by word text =
    if bytes_eq word (codes "shelf_bad") then shelf_bad_in text
    else if bytes_eq word (codes "missing") then missing_in text
    else plain_error word text

unfoldable pub error_in : List ℕ → Option ErrorLine
error_in text = until 34 text >>= λ word. error_by word.0 word.1

-- a line of an error, whose word and further members these are
abbrev pub error_said : List ℕ → List ℕ → Option Said
error_said line text = option_map (λ _. ErrorOf line) (error_in text)

-- what a line says
unfoldable pub read_line : List ℕ → Option Said
read_line line =
    or_by (after_front (codes "{\"step\":\"") line) read_step (
    or_by (after_front (codes "{\"head\":") line) read_head (
    or_by (after_front (codes "{\"open\":\"") line) read_open (
    or_by (after_front (codes "{\"end\":\"") line) read_end (
    or_by (after_front (codes "{\"error\":\"") line) (error_said line) None))))
