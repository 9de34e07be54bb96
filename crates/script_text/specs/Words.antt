-- The words of a line, separated by exactly one space, and what each may be.
use Rattle.std.specs.Prelude.{ℕ, ◌+◌, ◌==◌, ◌&&◌, ◌||◌, not, nat_le, nat_lt, Bool, List, length, take, drop, if◌then◌else◌, Option, None, Some, codes}
use Rattle.std.specs.List.{list_all, position}
use Rattle.std.specs.Option.{option_map}
use Rattle.std.specs.Result.{result_ok}
use Rattle.std.specs.Str.{bytes_eq}
use Rattle.base64.specs.GeneralPurpose.{decode_of}
use Rattle.base64.specs.Engines.{standard}
use Rattle.block_record.specs.Number.{number_of}
use Rattle.block_record.specs.Texts.{is_reader_byte}
use Rattle.script_text.specs.Reading.{◌>>=◌}

abbrev pub is_space : ℕ → Bool
is_space b = b == 32

-- what stands before the first space, which is at this place; the whole text where there is none
abbrev pub before : List ℕ → Option ℕ → List ℕ
before text None = text
before text (Some place) = take place text

abbrev pub first_word : List ℕ → List ℕ
first_word text = before text (position is_space text)

-- what stands after the first space, where there is one
abbrev pub after_word : List ℕ → Option (List ℕ)
after_word text = option_map (λ place. drop (place + 1) text) (position is_space text)

-- `load` and `merge`: with these a replay begins lines of its own
abbrev pub is_own_word : List ℕ → Bool
is_own_word text = bytes_eq text (codes "load") || bytes_eq text (codes "merge")

-- 1 to 32 lower-case ASCII letters, digits or `_`, and none of those two words
abbrev pub is_name : List ℕ → Bool
is_name text = nat_lt 0 (length text) && nat_le (length text) 32 && list_all is_reader_byte text && not (is_own_word text)

-- the name that a text is
abbrev pub name_of : List ℕ → Option (List ℕ)
name_of text = if is_name text then Some text else None

-- the number after the first space
abbrev pub number_after : List ℕ → Option ℕ
number_after text = after_word text >>= number_of

-- the same, where it is at least 1
abbrev pub count_after : List ℕ → Option ℕ
count_after text = number_after text >>= λ n. if n == 0 then None else Some n

-- the bytes that a text is in base64 of the standard alphabet, padded, in its one spelling (RFC 4648, section 4)
unfoldable pub base64_of : List ℕ → Option (List ℕ)
base64_of text = result_ok (decode_of standard text)
