-- The header of a container: the mark `dbin`, the version 1, and the type of its messages after two bytes for its length.
use Rattle.std.specs.Prelude.{ℕ, ◌≡◌, ◌+◌, ◌==◌, ◌&&◌, nat_lt, Bool, not, List, [], ◌∷◌, ◌++◌, length, take, drop, if◌then◌else◌, Option, None, Some, slice_get, option_and_then, codes}
use Rattle.std.specs.List.{position, zip}
use Rattle.std.specs.Option.{option_map}
use Rattle.std.specs.Int.{w16, to_be_bytes, from_be_bytes}
use Rattle.block_record.specs.Texts.{is_visible_byte}
use Rattle.dbin_file.specs.declared.faults.DbinFault.{DbinFault}
use Rattle.dbin_file.specs.declared.faults.DbinFault.TheVariants.{NotDbin, BadVersion}

-- the header of a container of this type
abbrev pub header_text : List ℕ → List ℕ
header_text block_type = codes "dbin" ++ (1 ∷ (to_be_bytes w16 (length block_type) ++ block_type))

-- the length that a header gives its type, in the bytes 5 and 6
abbrev pub type_length : List ℕ → ℕ
type_length text = from_be_bytes w16 (take 2 (drop 5 text))

-- the bytes of the type, as many as are there
abbrev pub type_bytes : List ℕ → List ℕ
type_bytes text = take (type_length text) (drop 7 text)

-- whether two bytes differ
abbrev pub is_other : ℕ × ℕ → Bool
is_other p = not (p.0 == p.1)

-- whether a byte is not from 0x21 to 0x7e
abbrev pub is_hidden : ℕ → Bool
is_hidden byte = not (is_visible_byte byte)

-- a byte of the first four is another than in the mark
abbrev pub mark_fault : List ℕ → Option DbinFault
mark_fault text = option_map NotDbin (position is_other (zip text (codes "dbin")))

-- byte 4 is there, and is not 1
abbrev pub version_fault : List ℕ → Option DbinFault
version_fault text = option_and_then (λ byte. if byte == 1 then None else Some (BadVersion byte)) (slice_get text 4)

-- the type's length is there, and is not from 1 to 255
abbrev pub length_fault : List ℕ → Option DbinFault
length_fault text =
    if nat_lt (length text) 7 then None
    else if nat_lt 0 (type_length text) && nat_lt (type_length text) 256 then None
    else Some (NotDbin 5)

-- a byte of the type is not from 0x21 to 0x7e
abbrev pub type_fault : List ℕ → Option DbinFault
type_fault text = option_map (λ i. NotDbin (7 + i)) (position is_hidden (type_bytes text))

-- the first of these faults that there is
abbrev pub first_of : List (Option DbinFault) → Option DbinFault
first_of [] = None
first_of (None ∷ more) = first_of more
first_of (Some fault ∷ more) = Some fault

-- the first fault of the header that a text begins with, which may be cut
unfoldable pub header_fault : List ℕ → Option DbinFault
header_fault text = first_of (mark_fault text ∷ version_fault text ∷ length_fault text ∷ type_fault text ∷ [])

-- the number of the header's bytes, once they are all there
unfoldable pub header_size : List ℕ → Option ℕ
header_size text =
    if nat_lt (length text) 7 then None
    else if nat_lt (length text) (7 + type_length text) then None
    else Some (7 + type_length text)

-- a text ends in its header, which has no fault so far
pub record IsInHeader (text : List ℕ) : Type 0 where
  pub good : header_fault text ≡ None
  pub cut : header_size text ≡ None
