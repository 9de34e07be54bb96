-- The text of a part.
use Rattle.std.specs.Prelude.{Bool, ℕ, ◌==◌, ◌||◌, nat_lt, if◌then◌else◌, List, [], ◌∷◌, ◌++◌, codes}
use Rattle.std.specs.Fmt.{decimal}
use Rattle.std.specs.List.{flat_map}
use Rattle.base64.specs.GeneralPurpose.{encode_of}
use Rattle.base64.specs.Engines.{standard}
use Rattle.hex.specs.Hex.{encode_lower}
use Rattle.text_parts.specs.declared.parts.Part.{Part}
use Rattle.text_parts.specs.declared.parts.Part.TheVariants as part

-- a byte as it stands between the quotes of a JSON text (RFC 8259, section 7): a quote and a backslash have a backslash before them, and a byte below 32 is a backslash, `u00` and two lower-case hexadecimal digits
abbrev pub escaped_byte : ℕ → List ℕ
escaped_byte b =
    if b == 34 || b == 92 then 92 ∷ b ∷ []
    else if nat_lt b 32 then codes "\\u00" ++ encode_lower (b ∷ [])
    else b ∷ []

-- a byte that has an escape there
abbrev pub is_apart : ℕ → Bool
is_apart b = b == 34 || b == 92 || nat_lt b 32

-- bytes as they stand between the quotes of a JSON text
abbrev pub escaped : List ℕ → List ℕ
escaped bytes = flat_map escaped_byte bytes

-- a text itself, a number in decimal, bytes with escapes, bytes in base64 of the standard alphabet, padded (RFC 4648, section 4), a digest in lower-case hexadecimal digits
abbrev pub part_text : Part → List ℕ
part_text (part.Text bytes) = bytes.now
part_text (part.Number number) = decimal number
part_text (part.Escaped bytes) = escaped bytes.now
part_text (part.Base64 bytes) = encode_of standard bytes.now
part_text (part.Hex digest) = encode_lower digest.now

-- the texts of the parts, one after another
abbrev pub parts_text : List Part → List ℕ
parts_text parts = flat_map part_text parts
