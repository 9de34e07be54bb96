-- The fields of a record, read one after another.
use Rattle.std.specs.Prelude.{ℕ, ◌≡◌, ◌==◌, List, length, if◌then◌else◌, Option, None, Some, Result, Ok, Err}
use Rattle.std.specs.Int.{w64}
use Rattle.sha2.specs.Sha256.{sha256}
use Rattle.block_record.specs.declared.records.Form.{Form}
use Rattle.block_record.specs.declared.records.Form.TheVariants.{Old, Digested}
use Rattle.block_record.specs.declared.records.Numbers.{Numbers as CodeNumbers}
use Rattle.block_record.specs.declared.faults.RecordFault.{RecordFault}
use Rattle.block_record.specs.declared.faults.RecordFault.TheVariants.{BadRecord, Mem}
use Rattle.block_record.specs.Records.{Fields, Field, place, version_at, number_at, parent_num_at, id_at, payload_at, digest_at}

infixl 10 ◌>>=◌
abbrev pub ◌>>=◌ : {A B : Type 0} → Result A ℕ → (A → Result B ℕ) → Result B ℕ
(Ok x) >>= f = f x
(Err at) >>= f = Err at

-- a field at the front of the last bytes of so many, and the bytes after it, or else its place
abbrev pub field_or : {A : Type 0} → ℕ → Option (A × List ℕ) → Result (A × List ℕ) ℕ
field_or at None = Err at
field_or at (Some p) = Ok p

abbrev pub read : {A : Type 0} → ℕ → Field A → List ℕ → Result (A × List ℕ) ℕ
read total field bytes = field_or (place total bytes) (field bytes)

-- the version of a form
abbrev pub version_number : Form → ℕ
version_number Old = 1
version_number Digested = 2

-- the numbers after the version
pub record Numbers : Type 0 where
  pub num : ℕ
  pub parent_num : ℕ
  pub lib_num : ℕ
  pub time : ℕ

-- as the code has them
abbrev pub numbers_of : CodeNumbers → Numbers
numbers_of n = record { num = n.num; parent_num = n.parent_num; lib_num = n.lib_num; time = n.time }

unfoldable pub read_numbers : ℕ → List ℕ → Result (Numbers × List ℕ) ℕ
read_numbers total bytes = do
  num ← read total (number_at w64) bytes
  parent_num ← read total (parent_num_at num.0) num.1
  lib_num ← read total (number_at w64) parent_num.1
  time ← read total (number_at w64) lib_num.1
  Ok (record { num = num.0; parent_num = parent_num.0; lib_num = lib_num.0; time = time.0 }, time.1)

-- all fields, and nothing after them
unfoldable pub read_fields : List ℕ → Result Fields ℕ
read_fields bytes = do
  version ← read (length bytes) version_at bytes
  numbers ← read_numbers (length bytes) version.1
  id ← read (length bytes) id_at numbers.1
  parent_id ← read (length bytes) id_at id.1
  payload ← read (length bytes) payload_at parent_id.1
  digest ← read (length bytes) (digest_at version.0 (sha256 payload.0)) payload.1
  if length digest.1 == 0
      then Ok (record { num = numbers.0.num; parent_num = numbers.0.parent_num; lib_num = numbers.0.lib_num; time = numbers.0.time; id = id.0; parent_id = parent_id.0; payload = payload.0 })
      else Err (place (length bytes) digest.1)

-- what a function returned, seen by view, is what is read, unless there was no memory
abbrev pub Fails : {Y : Type 0} → RecordFault → Result Y ℕ → Type 0
Fails Mem expected = Unit {0}
Fails (BadRecord at) expected = expected ≡ Err at

abbrev pub Gives : {X Y : Type 0} → (X → Y) → Result X RecordFault → Result Y ℕ → Type 0
Gives view (Ok x) expected = expected ≡ Ok (view x)
Gives view (Err e) expected = Fails e expected

-- the place that is bad, if one is
abbrev pub bad_place : {X : Type 0} → Result X RecordFault → Option ℕ
bad_place (Ok x) = None
bad_place (Err (BadRecord at)) = Some at
bad_place (Err Mem) = None
