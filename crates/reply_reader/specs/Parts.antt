-- What stands at the front of a text, and what follows it.
use Rattle.std.specs.Prelude.{ℕ, ◌==◌, ◌+◌, ◌*◌, ◌-◌, ◌&&◌, ◌||◌, nat_lt, nat_le, suc, zero, List, [], ◌∷◌, codes, length, take, drop, if◌then◌else◌, Option, None, Some}
use Rattle.std.specs.Option.{option_map}
use Rattle.std.specs.Result.{result_ok}
use Rattle.std.specs.Str.{bytes_eq}
use Rattle.hex.specs.Hex.{encode_lower}
use Rattle.base64.specs.GeneralPurpose.{decode_of}
use Rattle.base64.specs.Engines.{url_safe_no_pad}
use Rattle.block_record.specs.Records.{Field}
use Rattle.chain_model.specs.declared.places.Step.{Step}
use Rattle.chain_model.specs.declared.places.Step.TheVariants as step
use Rattle.step_cursor.specs.declared.cursor.Cursor.{Cursor}
use Rattle.step_cursor.specs.CursorParts.{parts, words}
use Rattle.step_cursor.specs.Reading.{cursor_of}
use Rattle.text_parts.specs.Parts.{is_apart}

infixl 10 ◌>>=◌
abbrev pub ◌>>=◌ : {A B : Type 0} → Option A → (A → Option B) → Option B
None >>= f = None
(Some x) >>= f = f x

-- what follows these bytes, where the text begins with them
abbrev pub after_front : List ℕ → List ℕ → Option (List ℕ)
after_front front text = if bytes_eq (take (length front) text) front then Some (drop (length front) text) else None

-- the reading of what follows these bytes, where the text begins with them, and else another
abbrev pub or_by : {A : Type 0} → Option (List ℕ) → (List ℕ → Option A) → Option A → Option A
or_by None read other = other
or_by (Some rest) read other = read rest

-- what stands before the first byte of a kind, and what follows it
abbrev pub until : ℕ → Field (List ℕ)
until s [] = None
until s (b ∷ text) = if b == s then Some ([], text) else option_map (λ p. (b ∷ p.0, p.1)) (until s text)

-- the value that a text is, and what follows, where both are there
abbrev pub with_rest : {A : Type 0} → List ℕ → Option A → Option (A × List ℕ)
with_rest rest value = option_map (λ v. (v, rest)) value

-- what stands after these bytes and before the first byte of a kind, and what follows it
unfoldable pub cut_at : List ℕ → ℕ → Field (List ℕ)
cut_at front s text = after_front front text >>= until s

-- a member: these bytes, and the text of a value up to the first byte of a kind
unfoldable pub member : {A : Type 0} → List ℕ → ℕ → (List ℕ → Option A) → Field A
member front s read text = cut_at front s text >>= λ cut. with_rest cut.1 (read cut.0)

-- the step that a word names
abbrev pub step_named : List ℕ → Option Step
step_named word = if bytes_eq word (codes "new") then Some step.New else if bytes_eq word (codes "undo") then Some step.Undo else if bytes_eq word (codes "final") then Some step.Final else if bytes_eq word (codes "newfinal") then Some step.NewFinal else None

-- the cursor whose text this is
abbrev pub plain_cursor : List ℕ → Option Cursor
plain_cursor plain = result_ok (cursor_of (words (parts plain)) (parts plain))

unfoldable pub cursor_in : List ℕ → Option Cursor
cursor_in text = result_ok (decode_of url_safe_no_pad text) >>= plain_cursor

-- the value of a hexadecimal digit
abbrev pub digit_value : ℕ → ℕ
digit_value c = if nat_le 97 c && nat_le c 102 then c - 87 else if nat_le 48 c && nat_le c 57 then c - 48 else 0

-- the byte below 32 whose two digits these are
abbrev pub control_of : ℕ → ℕ → List ℕ → Option (ℕ × List ℕ)
control_of high low rest =
    let b = digit_value high * 16 + digit_value low in
    if nat_lt b 32 && bytes_eq (encode_lower (b ∷ [])) (high ∷ low ∷ []) then Some (b, rest) else None

-- what follows `\u` in the escape of a byte
abbrev pub after_u : Field ℕ
after_u (zero_1 ∷ zero_2 ∷ high ∷ low ∷ rest) = if zero_1 == 48 && zero_2 == 48 then control_of high low rest else None
after_u text = None

-- what follows a backslash in the escape of a byte
abbrev pub after_slash : Field ℕ
after_slash [] = None
after_slash (b ∷ rest) = if b == 34 || b == 92 then Some (b, rest) else if b == 117 then after_u rest else None

-- the byte whose escaped form stands at the front of a text
abbrev pub byte_at : Field ℕ
byte_at [] = None
byte_at (b ∷ rest) = if b == 92 then after_slash rest else if is_apart b then None else Some (b, rest)

-- the bytes whose escaped form, with a quote after it, stands at the front, if they are fewer than so many
abbrev pub quoted_in : ℕ → Field (List ℕ)
quoted_in zero text = None
quoted_in (suc n) text =
    or_by (after_front (codes "\"") text) (λ rest. Some ([], rest)) (byte_at text >>= λ b. option_map (λ p. (b.0 ∷ p.0, p.1)) (quoted_in n b.1))

-- the bytes whose escaped form, with a quote after it, stands at the front
unfoldable pub quoted : Field (List ℕ)
quoted text = quoted_in (length text) text
