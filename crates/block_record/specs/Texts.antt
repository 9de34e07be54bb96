-- Which lists are bytes, and which texts are ids, block types and names of readers.
use Rattle.std.specs.Prelude.{ℕ, Bool, ◌==◌, ◌<◌, ◌||◌, ◌&&◌, nat_lt, nat_le, List, length, slice_index, IsTrue}
use Rattle.std.specs.List.{list_all}
use Rattle.std.specs.Char.{is_ascii_alphanumeric, is_ascii_lowercase, is_ascii_digit}

-- each element is a byte
abbrev pub IsBytes : List ℕ → Type 0
IsBytes bytes = (i : ℕ) → slice_index bytes i < 256

-- an ASCII letter, a digit or an underscore
abbrev pub is_id_byte : ℕ → Bool
is_id_byte b = is_ascii_alphanumeric b || b == 95

-- 1 to 128 such bytes
abbrev pub is_id_text : List ℕ → Bool
is_id_text text = nat_lt 0 (length text) && nat_le (length text) 128 && list_all is_id_byte text

abbrev pub IsId : List ℕ → Type 0
IsId text = IsTrue (is_id_text text)

-- a byte of ASCII that shows: from 0x21 to 0x7e
abbrev pub is_visible_byte : ℕ → Bool
is_visible_byte b = nat_lt 32 b && nat_lt b 127

-- 1 to 255 such bytes
abbrev pub is_type_text : List ℕ → Bool
is_type_text text = nat_lt 0 (length text) && nat_le (length text) 255 && list_all is_visible_byte text

abbrev pub IsTypeName : List ℕ → Type 0
IsTypeName text = IsTrue (is_type_text text)

-- a lower-case ASCII letter, a digit or an underscore
abbrev pub is_reader_byte : ℕ → Bool
is_reader_byte b = is_ascii_lowercase b || is_ascii_digit b || b == 95

-- 1 to 64 such bytes
abbrev pub is_reader_text : List ℕ → Bool
is_reader_text text = nat_lt 0 (length text) && nat_le (length text) 64 && list_all is_reader_byte text

abbrev pub IsReaderName : List ℕ → Type 0
IsReaderName text = IsTrue (is_reader_text text)
