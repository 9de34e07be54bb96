-- The record of a block, byte by byte, and where other bytes first differ from one.
use Rattle.std.specs.Prelude.{ℕ, ◌≡◌, ◌<◌, ◌^◌, ◌-◌, ◌==◌, ◌||◌, ◌⊎◌, nat_lt, List, [], ◌∷◌, ◌++◌, length, take, drop, slice_index, if◌then◌else◌, Option, None, Some, option_and_then}
use Rattle.std.specs.Option.{option_map}
use Rattle.std.specs.Str.{bytes_eq}
use Rattle.std.specs.Int.{Width, w32, w64, byte_len, to_be_bytes, from_be_bytes}
use Rattle.sha2.specs.Sha256.{sha256}
use Rattle.block_record.specs.declared.blocks.Block.{Block}
use Rattle.block_record.specs.Parents.{is_parent_num}
use Rattle.block_record.specs.Texts.{is_id_text, IsId}

-- the fields that a record has, apart from what is taken from them
pub record Fields : Type 0 where
  pub num : ℕ
  pub parent_num : ℕ
  pub lib_num : ℕ
  pub time : ℕ
  pub id : List ℕ
  pub parent_id : List ℕ
  pub payload : List ℕ

-- those of a block
abbrev pub fields_of : Block → Fields
fields_of b = record { num = b.num; parent_num = b.parent_num; lib_num = b.lib_num; time = b.time; id = b.id; parent_id = b.parent_id; payload = b.payload }

-- a number, in eight bytes, the greatest first
abbrev pub number_text : ℕ → List ℕ
number_text n = to_be_bytes w64 n

-- an id: one byte for its length, and its bytes
abbrev pub id_text : List ℕ → List ℕ
id_text id = length id ∷ id

-- a payload: four bytes for its length, the greatest first, and its bytes
abbrev pub payload_text : List ℕ → List ℕ
payload_text payload = to_be_bytes w32 (length payload) ++ payload

-- a version, and the fields in their order
abbrev pub text_from : ℕ → Fields → List ℕ
text_from version f = version ∷ [] ++ number_text f.num ++ number_text f.parent_num ++ number_text f.lib_num ++ number_text f.time ++ id_text f.id ++ id_text f.parent_id ++ payload_text f.payload

-- record 1 of some fields: the version 1 and the fields
abbrev pub old_text_of : Fields → List ℕ
old_text_of f = text_from 1 f

-- record 2 of some fields: the version 2, the fields and the digest of the payload
abbrev pub text_of : Fields → List ℕ
text_of f = text_from 2 f ++ sha256 f.payload

-- record 1 of a block
abbrev pub old_record_text : Block → List ℕ
old_record_text b = old_text_of (fields_of b)

-- record 2 of a block
abbrev pub record_text : Block → List ℕ
record_text b = text_of (fields_of b)

-- bytes are a record of a block, in either form
abbrev pub IsRecordText : List ℕ → Block → Type 0
IsRecordText bytes b = (bytes ≡ record_text b) ⊎ (bytes ≡ old_record_text b)

-- what each block of the code has, and a block of a contract may lack: its ids are ids and its numbers have 64 bits
pub record IsRecordable (b : Block) : Type 0 where
  pub id : IsId b.id
  pub parent_id : IsId b.parent_id
  pub num : b.num < 2 ^ 64
  pub lib_num : b.lib_num < 2 ^ 64
  pub time : b.time < 2 ^ 64

-- a field at the front of some bytes: what it is, and the bytes after it; none where it is cut or bad
abbrev pub Field : Type 0 → Type 0
Field A = List ℕ → Option (A × List ℕ)

-- the first so many bytes
abbrev pub bytes_at : ℕ → Field (List ℕ)
bytes_at n bytes = if nat_lt (length bytes) n then None else Some (take n bytes, drop n bytes)

-- the version, which is 1 or 2
abbrev pub version_at : Field ℕ
version_at [] = None
version_at (version ∷ rest) = if version == 1 || version == 2 then Some (version, rest) else None

-- a number of this width
abbrev pub number_at : Width → Field ℕ
number_at w bytes = if nat_lt (length bytes) (byte_len w) then None else Some (from_be_bytes w (take (byte_len w) bytes), drop (byte_len w) bytes)

-- the number of a parent, beside a block with this number
abbrev pub parent_num_at : ℕ → Field ℕ
parent_num_at num bytes = option_and_then (λ p. if is_parent_num p.0 num then Some p else None) (number_at w64 bytes)

-- an id, after its length
abbrev pub id_at : Field (List ℕ)
id_at [] = None
id_at (n ∷ rest) = option_and_then (λ p. if is_id_text p.0 then Some p else None) (bytes_at n rest)

-- a payload of at most 50,000,000 bytes, after its length
abbrev pub payload_at : Field (List ℕ)
payload_at bytes = option_and_then (λ n. if nat_lt 50_000_000 n.0 then None else bytes_at n.0 n.1) (number_at w32 bytes)

-- the digest of the payload, which is this one: record 1 has no bytes of it, and record 2 all
abbrev pub digest_at : ℕ → List ℕ → Field (List ℕ)
digest_at version digest bytes =
    if version == 1 then Some (digest, bytes)
    else option_and_then (λ p. if bytes_eq p.0 digest then Some (digest, p.1) else None) (bytes_at 32 bytes)

-- what follows a field
abbrev pub after : {A : Type 0} → Field A → List ℕ → Option (List ℕ)
after field bytes = option_map (λ p. p.1) (field bytes)

-- the fields of a record of a version in their order, each by what follows it, beside a block with this number and payload
abbrev pub record_fields : ℕ → ℕ → List ℕ → List (List ℕ → Option (List ℕ))
record_fields version num payload =
    after version_at ∷ after (number_at w64) ∷ after (parent_num_at num) ∷ after (number_at w64) ∷ after (number_at w64)
    ∷ after id_at ∷ after id_at ∷ after payload_at ∷ after (digest_at version (sha256 payload)) ∷ []

-- the version of a record
abbrev pub version_of : List ℕ → ℕ
version_of bytes = slice_index bytes 0

-- the number of the block of a record
abbrev pub num_of : List ℕ → ℕ
num_of bytes = from_be_bytes w64 (take 8 (drop 1 bytes))

-- what follows an id, by its length
abbrev pub after_id : List ℕ → List ℕ
after_id [] = []
after_id (n ∷ rest) = drop n rest

-- what follows the ids of a record: they stand after the version and four numbers
abbrev pub after_ids : List ℕ → List ℕ
after_ids bytes = after_id (after_id (drop 33 bytes))

-- the payload of a record, by its length
abbrev pub payload_of : List ℕ → List ℕ
payload_of bytes = take (from_be_bytes w32 (take 4 (after_ids bytes))) (drop 4 (after_ids bytes))

-- of so many bytes, the place where these last ones begin
abbrev pub place : ℕ → List ℕ → ℕ
place total rest = total - length rest

-- the bytes after a field, if it is whole and good, else its place
abbrev pub or_bad : ℕ → Option (List ℕ) → (List ℕ → Option ℕ) → Option ℕ
or_bad at None more = Some at
or_bad at (Some rest) more = more rest

-- where the first field that is cut or bad begins, or what follows the last; none where there is nothing of either
abbrev pub first_bad : ℕ → List (List ℕ → Option (List ℕ)) → List ℕ → Option ℕ
first_bad total [] rest = if length rest == 0 then None else Some (place total rest)
first_bad total (field ∷ fields) bytes = or_bad (place total bytes) (field bytes) (λ rest. first_bad total fields rest)

-- the first place at which these bytes are no record, if they are none
abbrev pub record_fault : List ℕ → Option ℕ
record_fault bytes = first_bad (length bytes) (record_fields (version_of bytes) (num_of bytes) (payload_of bytes)) bytes
