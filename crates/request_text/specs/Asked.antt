-- What a line asks for, member by member, and which part of it is bad.
use Rattle.std.specs.Prelude.{ℕ, ◌≡◌, ◌≢◌, ◌==◌, ◌||◌, Bool, true, false, List, [], if◌then◌else◌, Option, None, Some, Result, Ok, Err, codes, option_and_then, IsUtf8, ◌⊎◌}
use Rattle.std.specs.Str.{bytes_eq}
use Rattle.std.specs.Option.{ok_or}
use Rattle.serde_json.specs.Data.{Data, Members, no_members, member}
use Rattle.serde_json.specs.Find.{get, as_bool, as_number, as_object, as_str, as_u64}
use Rattle.serde_json.specs.Read.{read}
use Rattle.chain_model.specs.declared.places.Mode.{Mode}
use Rattle.chain_model.specs.declared.places.Mode.TheVariants as mode
use Rattle.reply_text.specs.declared.errors.RequestField.{RequestField}
use Rattle.reply_text.specs.declared.errors.RequestField.TheVariants as field
use Rattle.step_cursor.specs.declared.cursor.Cursor.{Cursor}
use Rattle.step_cursor.specs.declared.cursor.CursorFault.{CursorFault}
use Rattle.step_cursor.specs.declared.cursor.CursorFault.TheVariants as bad
use Rattle.step_cursor.specs.declared.cursor.Request.{Request}
use Rattle.step_cursor.specs.CursorParts.{cursor_fault}
use Rattle.step_cursor.specs.CursorText.{cursor_text, IsPrintable}
use Rattle.step_cursor.specs.Reading.{◌>>=◌}
use Rattle.request_text.specs.declared.asked.AskedView.{AskedView}
use Rattle.request_text.specs.declared.fault.RequestFault.{RequestFault}
use Rattle.request_text.specs.declared.fault.RequestFault.TheVariants as fault

-- what a line asks for: 0 is no stop, and the empty text no cursor
pub record Asked : Type 0 where
  pub start : ℕ
  pub stop : ℕ
  pub final_only : Bool
  pub cursor : List ℕ

-- the same, as the code reads it
abbrev pub asked_seen : AskedView → Asked
asked_seen a = record { start = a.start; stop = a.stop; final_only = a.final_only; cursor = a.cursor.now }

-- whether this is one of the four names
abbrev pub is_known : List ℕ → Bool
is_known name =
    bytes_eq name (codes "start_block_num") || bytes_eq name (codes "stop_block_num")
    || bytes_eq name (codes "final_blocks_only") || bytes_eq name (codes "cursor")

-- whether a member has another name
abbrev pub has_extra : Members → Bool
has_extra no_members = false
has_extra (member name d ms) = if is_known name then has_extra ms else true

-- a member's value; where there is no member, this one
abbrev pub value_or : {A : Type 0} → A → (Data → Option A) → Option Data → Option A
value_or absent value None = Some absent
value_or absent value (Some d) = value d

-- a whole number of 64 bits, without a sign, a fraction or an exponent
abbrev pub whole_number : Data → Option ℕ
whole_number d = option_and_then as_u64 (as_number d)

-- what the members of an object ask for, or the first whose value is of another kind
abbrev pub members_asked : Data → Result Asked RequestField
members_asked d =
    ok_or (value_or 0 whole_number (get (codes "start_block_num") d)) field.Start >>= λ start.
    ok_or (value_or 0 whole_number (get (codes "stop_block_num") d)) field.Stop >>= λ stop.
    ok_or (value_or false as_bool (get (codes "final_blocks_only") d)) field.FinalOnly >>= λ final_only.
    ok_or (value_or [] as_str (get (codes "cursor") d)) field.Cursor >>= λ cursor.
    Ok (record { start = start; stop = stop; final_only = final_only; cursor = cursor })

-- the same, where each member has one of the four names
abbrev pub object_asked : Data → Option Members → Result Asked RequestField
object_asked d None = Err field.Shape
object_asked d (Some ms) = if has_extra ms then Err field.Extra else members_asked d

-- what a value asks for, or its first bad part
abbrev pub asked_of : Data → Result Asked RequestField
asked_of d = object_asked d (as_object d)

-- a line is the text of this value
abbrev pub IsTextOf : List ℕ → Data → Type 0
IsTextOf line d = IsUtf8 line × (read line ≡ Some d)

abbrev pub mode_of : Bool → Mode
mode_of final_only = if final_only then mode.Final else mode.Live

abbrev pub stop_of : ℕ → Option ℕ
stop_of stop = if stop == 0 then None else Some stop

-- the cursor that a text is; the empty text is none
abbrev pub IsCursorOf : List ℕ → Option Cursor → Type 0
IsCursorOf text None = text ≡ []
IsCursorOf text (Some c) = (text ≢ []) × IsPrintable c × (text ≡ cursor_text c)

-- why a text is no cursor
abbrev pub IsNoCursor : List ℕ → CursorFault → Type 0
IsNoCursor text (bad.Malformed at) = (text ≢ []) × (cursor_fault text ≡ Some at)
IsNoCursor text bad.Mem = Unit {0}

-- the request that is asked for
pub record IsRequestOf (asked : Asked) (r : Request) : Type 0 where
  pub start : r.start ≡ asked.start
  pub stop : r.stop ≡ stop_of asked.stop
  pub mode : r.mode ≡ mode_of asked.final_only
  pub cursor : IsCursorOf asked.cursor r.cursor

-- why a line has no value
abbrev pub IsNoValue : List ℕ → RequestFault → Type 0
IsNoValue line (fault.BadRequest f) = (f ≡ field.Shape) × ((d : Data) → ¬ IsTextOf line d)
IsNoValue line (fault.Malformed at) = ⊥
IsNoValue line fault.Mem = Unit {0}

-- why what is asked for is no request: the cursor's text is none
abbrev pub IsNoRequest : Asked → RequestFault → Type 0
IsNoRequest asked (fault.BadRequest f) = ⊥
IsNoRequest asked (fault.Malformed at) = IsNoCursor asked.cursor (bad.Malformed at)
IsNoRequest asked fault.Mem = Unit {0}

-- a line is refused for this part of it: it has no value, or a bad one
abbrev pub IsBadFor : List ℕ → RequestField → Type 0
IsBadFor line f =
    ((f ≡ field.Shape) × ((d : Data) → ¬ IsTextOf line d))
    ⊎ ((d : Data) × IsTextOf line d × (asked_of d ≡ Err f))

-- what a line is answered: the request that it asks for, or its first fault; without memory nothing is said
abbrev pub IsAnswer : List ℕ → Result Request RequestFault → Type 0
IsAnswer line (Ok r) = (d : Data) × (asked : Asked) × IsTextOf line d × (asked_of d ≡ Ok asked) × IsRequestOf asked r
IsAnswer line (Err (fault.BadRequest f)) = IsBadFor line f
IsAnswer line (Err (fault.Malformed at)) =
    (d : Data) × (asked : Asked) × IsTextOf line d × (asked_of d ≡ Ok asked) × IsNoCursor asked.cursor (bad.Malformed at)
IsAnswer line (Err fault.Mem) = Unit {0}

-- a line has one answer, unless there was no memory
abbrev pub OneAnswer : Type 0
OneAnswer = (line : List ℕ) (x y : Result Request RequestFault) → x ≢ Err fault.Mem → y ≢ Err fault.Mem → IsAnswer line x → IsAnswer line y → x ≡ y
