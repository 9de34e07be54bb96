-- The seven fields of a block line.
use Rattle.std.specs.Prelude.{ℕ, nat_le, List, length, if◌then◌else◌, Option, None, Some, Result, Ok, Err, slice_get, option_and_then}
use Rattle.std.specs.Result.{result_ok}
use Rattle.std.specs.Option.{ok_or, is_some}
use Rattle.base64.specs.GeneralPurpose.{decode_of}
use Rattle.base64.specs.Engines.{standard}
use Rattle.sha2.specs.Sha256.{sha256}
use Rattle.block_record.specs.declared.blocks.Slip.{Slip}
use Rattle.block_record.specs.Texts.{is_id_text}
use Rattle.block_record.specs.Parents.{is_parent_num}
use Rattle.block_record.specs.Number.{number_of}
use Rattle.fire_lines.specs.declared.faults.LineFault.{LineFault}
use Rattle.fire_lines.specs.declared.faults.LineFault.TheVariants.{BadField}

infixl 10 ◌>>=◌
abbrev pub ◌>>=◌ : {A B E : Type 0} → Result A E → (A → Result B E) → Result B E
(Ok x) >>= f = f x
(Err e) >>= f = Err e

-- the id that a text is
abbrev pub id_of : List ℕ → Option (List ℕ)
id_of text = if is_id_text text then Some text else None

-- the parent's number that a text is, beside a block with this number
abbrev pub parent_num_of : ℕ → List ℕ → Option ℕ
parent_num_of num text = option_and_then (λ p. if is_parent_num p num then Some p else None) (number_of text)

-- the payload that a text is: base64 of the standard alphabet, padded, in its one spelling (RFC 4648, section 4), of at most 50,000,000 bytes
unfoldable pub payload_of : List ℕ → Option (List ℕ)
payload_of text = option_and_then (λ bytes. if nat_le (length bytes) 50_000_000 then Some bytes else None) (result_ok (decode_of standard text))

-- what a field is read as, or its number where it is bad or missing
abbrev pub field : {A : Type 0} → ℕ → (List ℕ → Option A) → Option (List ℕ) → Result A ℕ
field k read text = ok_or (option_and_then read text) k

-- the slip of the block that the fields of a block line are, or the number of the first bad or missing one, or 8 where more follows
unfoldable pub slip_of_fields : List (List ℕ) → Result Slip ℕ
slip_of_fields fields = do
  num ← field 1 number_of (slice_get fields 0)
  id ← field 2 id_of (slice_get fields 1)
  parent_num ← field 3 (parent_num_of num) (slice_get fields 2)
  parent_id ← field 4 id_of (slice_get fields 3)
  lib_num ← field 5 number_of (slice_get fields 4)
  time ← field 6 number_of (slice_get fields 5)
  payload ← field 7 payload_of (slice_get fields 6)
  if is_some (slice_get fields 7) then Err 8 else Ok (record { num = num; id = id; parent_num = parent_num; parent_id = parent_id; lib_num = lib_num; time = time; length = length payload; digest = sha256 payload })

-- what is read of the line with this number, where an error is the number of a bad field
abbrev pub at_line : {A : Type 0} → ℕ → Result A ℕ → Result A LineFault
at_line line (Ok x) = Ok x
at_line line (Err k) = Err (BadField line k)
