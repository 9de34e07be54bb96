-- What one line of a node says.
use Rattle.std.specs.Prelude.{ℕ, Bool, false, nat_eq, nat_lt, List, [], ◌∷◌, length, take, drop, if◌then◌else◌, Option, None, Some, Result, Ok, Err, codes}
use Rattle.std.specs.List.{starts_with}
use Rattle.std.specs.Str.{bytes_eq}
use Rattle.block_record.specs.declared.blocks.Slip.{Slip}
use Rattle.block_record.specs.declared.blocks.Kind.{Kind}
use Rattle.block_record.specs.declared.blocks.Version.{Version}
use Rattle.block_record.specs.declared.blocks.Version.TheVariants.{V1, V3}
use Rattle.block_record.specs.Texts.{is_type_text}
use Rattle.block_record.specs.Kinds.{same_kind}
use Rattle.fire_lines.specs.declared.faults.LineFault.{LineFault}
use Rattle.fire_lines.specs.declared.faults.LineFault.TheVariants.{TooLong, BadInit, InitChanged, NoInit}
use Rattle.fire_lines.specs.declared.init.KindText.{KindText}
use Rattle.fire_lines.specs.Parts.{words}
use Rattle.fire_lines.specs.Fields.{slip_of_fields, at_line}

-- what a line says: nothing to the reader, the kind of the run, a block, or it is bad
pub data Saying : Type 0 where
  passes : Saying
  opens : Kind → Saying
  brings : Slip → Saying
  is_bad : LineFault → Saying

-- the version that a word is
abbrev pub version_of : List ℕ → Option Version
version_of word = if bytes_eq word (codes "1.0") then Some V1 else if bytes_eq word (codes "3.0") then Some V3 else None

-- a version with the block type that a word is
abbrev pub kind_with : Option Version → List ℕ → Option Kind
kind_with None word = None
kind_with (Some version) word = if is_type_text word then Some (record { version = version; block_type = word }) else None

-- the kind that the words after `FIRE INIT` begin with; what follows the type is passed over
abbrev pub kind_of : List (List ℕ) → Option Kind
kind_of [] = None
kind_of (version ∷ []) = None
kind_of (version ∷ block_type ∷ more) = kind_with (version_of version) block_type

-- the kind that an opening line names, as the code reads it
abbrev pub kind_named : Option KindText → Option Kind
kind_named None = None
kind_named (Some named) = Some (record { version = named.version; block_type = named.block_type.now })

-- an opening line, by the kind of the run so far and its own; the line has this number
abbrev pub init_says : ℕ → Option Kind → Option Kind → Saying
init_says number held None = is_bad (BadInit number)
init_says number None (Some kind) = opens kind
init_says number (Some held) (Some kind) = if same_kind held kind then passes else is_bad (InitChanged number)

-- a block line whose fields are read so
abbrev pub fields_say : Result Slip LineFault → Saying
fields_say (Ok s) = brings s
fields_say (Err f) = is_bad f

-- a block line with these fields, which needs the run's opening line before it
abbrev pub block_says : ℕ → Option Kind → List (List ℕ) → Saying
block_says number None fields = is_bad (NoInit number)
block_says number (Some kind) fields = fields_say (at_line number (slip_of_fields fields))

-- the words after `FIRE `; another first word than INIT and BLOCK makes the line passed over
abbrev pub words_say : ℕ → Option Kind → List (List ℕ) → Saying
words_say number held [] = passes
words_say number held (word ∷ rest) =
    if bytes_eq word (codes "INIT") then init_says number held (kind_of rest)
    else if bytes_eq word (codes "BLOCK") then block_says number held rest
    else passes

-- whether a line is for the reader
abbrev pub is_fire : List ℕ → Bool
is_fire line = starts_with nat_eq line (codes "FIRE ")

-- whether a line that begins so may be for the reader: its first five bytes are a front of `FIRE `
abbrev pub may_be_fire : List ℕ → Bool
may_be_fire line = starts_with nat_eq (codes "FIRE ") (take 5 line)

-- whether a line is for the reader and has more bytes than the limit
abbrev pub is_too_long : ℕ → List ℕ → Bool
is_too_long max line = if is_fire line then nat_lt max (length line) else false

-- what a line says, without its LF and the CR before it; it has this number in a run with this kind so far
abbrev pub says : ℕ → ℕ → Option Kind → List ℕ → Saying
says max number held line =
    if is_fire line then (if nat_lt max (length line) then is_bad (TooLong number) else words_say number held (words (drop 5 line)))
    else passes
