-- How the parts of a plain text are read one after another, up to the first bad one.
use Rattle.std.specs.Prelude.{ℕ, ◌≡◌, ◌≢◌, ◌+◌, ◌==◌, ◌&&◌, Bool, true, false, List, ◌∷◌, map, length, if◌then◌else◌, Option, None, Some, Result, Ok, Err, slice_get, option_and_then}
use Rattle.std.specs.Borrow.{Bor}
use Rattle.std.specs.List.{flat_map}
use Rattle.std.specs.Option.{ok_or, option_map}
use Rattle.std.specs.Result.{IsErr}
use Rattle.base64.specs.declared.decode.DecodeError.{DecodeError}
use Rattle.block_record.specs.declared.blocks.BlockRef.{BlockRef}
use Rattle.block_record.specs.Words.{result_map}
use Rattle.block_record.specs.Number.{number_of}
use Rattle.chain_model.specs.declared.places.Step.{Step}
use Rattle.step_cursor.specs.declared.cursor.Cursor.{Cursor}
use Rattle.step_cursor.specs.declared.cursor.Tail.{Tail}
use Rattle.step_cursor.specs.declared.cursor.CursorFault.{CursorFault}
use Rattle.step_cursor.specs.declared.cursor.CursorFault.TheVariants.{Malformed, Mem}
use Rattle.step_cursor.specs.declared.form.Form.{Form}
use Rattle.step_cursor.specs.declared.form.Form.TheVariants.{AtEnd, AtLib, Apart}
use Rattle.step_cursor.specs.declared.refs.RefView.{RefView}
use Rattle.step_cursor.specs.declared.refs.CursorView.{CursorView}
use Rattle.step_cursor.specs.CursorText.{form_for}
use Rattle.step_cursor.specs.CursorParts.{form_named, step_named, id_of, is_missing}

infixl 10 ◌>>=◌
abbrev pub ◌>>=◌ : {A B E : Type 0} → Result A E → (A → Result B E) → Result B E
(Ok x) >>= f = f x
(Err e) >>= f = Err e

-- texts, each after a separator
abbrev pub each_after : ℕ → List (List ℕ) → List ℕ
each_after separator texts = flat_map (λ text. separator ∷ text) texts

-- the texts that are borrowed
abbrev pub seen : List (Bor (List ℕ)) → List (List ℕ)
seen texts = map (λ t. t.now) texts

-- a block by number and id, as the code reads it
abbrev pub ref_seen : RefView → BlockRef
ref_seen r = record { num = r.num; id = r.id.now }

-- a cursor, as the code reads it
abbrev pub cursor_seen : CursorView → Cursor
cursor_seen c = record {
  step = c.step;
  block = ref_seen c.block;
  place = record { end = option_map ref_seen c.end; lib = option_map ref_seen c.lib };
  tail = c.tail;
}

-- what a part is read as, or its place where it is missing or bad
abbrev pub part_at : {A : Type 0} → ℕ → (List ℕ → Option A) → Option (List ℕ) → Result A ℕ
part_at place read part = ok_or (option_and_then read part) place

-- the block whose number is the k-th word, at this place, and whose id is the next
abbrev pub ref_at : List (List ℕ) → ℕ → ℕ → Result BlockRef ℕ
ref_at ws k place =
    part_at place number_of (slice_get ws k) >>= λ num.
    part_at (place + 1) id_of (slice_get ws (k + 1)) >>= λ id.
    Ok (record { num = num; id = id })

-- the same of a block that may be missing
abbrev pub pair_at : List (List ℕ) → ℕ → ℕ → Result (Option BlockRef) ℕ
pair_at ws k place = if is_missing ws k then Ok None else result_map Some (ref_at ws k place)

-- the second pair after the block, where the form has one
abbrev pub second_at : Form → List (List ℕ) → Result (Option BlockRef) ℕ
second_at AtEnd ws = Ok None
second_at AtLib ws = Ok None
second_at Apart ws = pair_at ws 6 7

-- the third of three parts
abbrev pub third_of : List (List ℕ) → Option (List ℕ)
third_of ps = if length ps == 3 then slice_get ps 2 else None

-- the tail that the parts after the first are
abbrev pub tail_of : List (List ℕ) → Result (Option Tail) ℕ
tail_of ps =
    if length ps == 1 then Ok None
    else (part_at 9 number_of (slice_get ps 1) >>= λ run.
    part_at 10 number_of (third_of ps) >>= λ seen.
    Ok (Some (record { run = run; seen = seen })))

-- the end of a place, by its form, the step's block and the first pair after it
abbrev pub end_by : Form → BlockRef → Option BlockRef → Option BlockRef
end_by AtEnd block first = Some block
end_by AtLib block first = first
end_by Apart block first = first

-- the lib, by the form, the block and the two pairs
abbrev pub lib_by : Form → BlockRef → Option BlockRef → Option BlockRef → Option BlockRef
lib_by AtEnd block first second = first
lib_by AtLib block first second = Some block
lib_by Apart block first second = second

-- a cursor of these parts
abbrev pub cursor_by : Form → Step → BlockRef → Option BlockRef → Option BlockRef → Option Tail → Cursor
cursor_by form kind block first second tail = record {
  step = kind;
  block = block;
  place = record { end = end_by form block first; lib = lib_by form block first second };
  tail = tail;
}

-- how many words a form has
abbrev pub word_count : Form → ℕ
word_count AtEnd = 6
word_count AtLib = 6
word_count Apart = 8

-- whether two forms are one
abbrev pub same_form : Form → Form → Bool
same_form AtEnd AtEnd = true
same_form AtEnd AtLib = false
same_form AtEnd Apart = false
same_form AtLib AtEnd = false
same_form AtLib AtLib = true
same_form AtLib Apart = false
same_form Apart AtEnd = false
same_form Apart AtLib = false
same_form Apart Apart = true

-- the cursor, where no more words follow and its form is the first that fits
abbrev pub whole_of : Form → ℕ → Cursor → Result Cursor ℕ
whole_of form count c =
    if count == word_count form && same_form (form_for c.block c.place.end c.place.lib) form then Ok c else Err 11

-- the cursor that the words after the first two and the parts are
abbrev pub rest_of : Form → Step → List (List ℕ) → List (List ℕ) → Result Cursor ℕ
rest_of form kind ws ps =
    ref_at ws 2 3 >>= λ block.
    pair_at ws 4 5 >>= λ first.
    second_at form ws >>= λ second.
    tail_of ps >>= λ tail.
    whole_of form (length ws) (cursor_by form kind block first second tail)

-- the cursor that the words and the parts are, or the place of the first bad part
abbrev pub cursor_of : List (List ℕ) → List (List ℕ) → Result Cursor ℕ
cursor_of ws ps =
    part_at 1 form_named (slice_get ws 0) >>= λ form.
    part_at 2 step_named (slice_get ws 1) >>= λ kind.
    rest_of form kind ws ps

-- the answer to a text, by what is read of it
abbrev pub answer : Result Cursor ℕ → Result Cursor CursorFault
answer (Ok c) = Ok c
answer (Err place) = Err (Malformed place)

-- a fact, unless there was no memory
abbrev pub UnlessMem : {T : Type 0} → Result T CursorFault → Type 0 → Type 0
UnlessMem result P = result ≢ Err Mem → P

-- the place of the bad part that an answer names, where it names one
abbrev pub place_named : Result Cursor CursorFault → Option ℕ
place_named (Ok c) = None
place_named (Err (Malformed place)) = Some place
place_named (Err Mem) = None

-- why a text has no plain text: it doesn't decode, unless there was no memory
abbrev pub IsNoText : CursorFault → Result (List ℕ) DecodeError → Type 0
IsNoText Mem decoded = Unit {0}
IsNoText (Malformed place) decoded = (place ≡ 0) × IsErr decoded
