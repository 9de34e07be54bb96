-- How contracts see a reader of a file, and what it has read.
use Rattle.std.specs.Prelude.{ℕ, ◌≡◌, ◌≢◌, ◌+◌, ◌<◌, ◌^◌, ◌⊎◌, Bool, false, IsTrue, List, [], ◌∷◌, ◌++◌, length, Option, None, Some, ⊤, Result, Err}
use Rattle.std.specs.List.{flat_map}
use Rattle.std.specs.Option.{is_some, unwrap_or}
use mathlib.Core.List.{IsPrefix}
use Rattle.outer_world.specs.Files.{Files, file_at}
use Rattle.outer_world.specs.declared.shelves.ShelfFail.{ShelfFail}
use Rattle.outer_world.specs.declared.shelves.ShelfFail.TheVariants.{Mem}
use Rattle.dbin_file.specs.Messages.{message_text}
use Rattle.dbin_file.specs.Contents.{contents, told}
use Rattle.dbin_file.specs.Reader.{ReaderState, state_after, end_fault}

-- a reader of a file: the file's name, how many of its bytes were read, the reader of its container, the messages that were read and not passed over, how many bytes the others take, and whether no more is read
pub record FileState : Type 0 where
  pub name : List ℕ
  pub at : ℕ
  pub reader : ReaderState
  pub left : List (List ℕ)
  pub passed : ℕ
  pub over : Bool

-- a reader that has read nothing
abbrev pub unread : List ℕ → FileState
unread name = record { name = name; at = 0; reader = state_after []; left = []; passed = 0; over = false }

-- the bytes that messages take in a container, each with its length before it
abbrev pub bytes_of : List (List ℕ) → ℕ
bytes_of messages = length (flat_map message_text messages)

-- where the next message's length begins in a container of this type, after messages that take so many bytes
abbrev pub next_place : Option (List ℕ) → ℕ → ℕ
next_place None passed = 0
next_place (Some block_type) passed = told (7 + length block_type + passed)

-- where the next message's length begins, once the header was read
abbrev pub place_of : FileState → ℕ
place_of r = next_place r.reader.block_type r.passed

-- a reader whose next message is passed over, if there is one
abbrev pub pass : FileState → List (List ℕ) → FileState
pass r [] = r
pass r (message ∷ more) = record r { left = more; passed = told (r.passed + (length message + 4)) }

-- the bytes of a file, where the files are told; one that is not there has none
abbrev pub HasText : Option Files → List ℕ → List ℕ → Type 0
HasText None name text = ⊤
HasText (Some files) name text = unwrap_or (file_at name files) [] ≡ text

-- the file of this name begins with these bytes, where the files are told
abbrev pub HasFront : Option Files → List ℕ → List ℕ → Type 0
HasFront None name front = ⊤
HasFront (Some files) name front = IsPrefix front (unwrap_or (file_at name files) [])

-- no more is read after this front: it is the whole file, or has a fault
abbrev pub IsLast : Option Files → List ℕ → List ℕ → Type 0
IsLast files name front = HasText files name front ⊎ IsTrue (is_some (contents front).fault)

-- what was read of the file is this front, and of its messages these were passed over
pub record HasRead (files : Option Files) (r : FileState) (front : List ℕ) (given : List (List ℕ)) : Type 0 where
  pub there : HasFront files r.name front
  pub at_is : r.at ≡ length front
  pub small : length front < 2 ^ 64
  pub state : r.reader ≡ state_after front
  pub messages : (contents front).messages ≡ given ++ r.left
  pub passed_is : r.passed ≡ told (bytes_of given)
  pub last : IsTrue r.over → IsLast files r.name front

-- what was read of the file is this front and more, and of its messages these were passed over
pub record HasReadOn (files : Option Files) (r : FileState) (front : List ℕ) (given : List (List ℕ)) : Type 0 where
  pub more : List ℕ
  pub read : HasRead files r (front ++ more) given

-- whatever was read of the file and passed over, more may now be read, and nothing else was passed over
abbrev pub ReadsOn : Option Files → FileState → FileState → Type 0
ReadsOn files old new = (front : List ℕ) (given : List (List ℕ)) → HasRead files old front given → HasReadOn files new front given

-- a fact, unless there was no memory
abbrev pub UnlessMem : Result Unit ShelfFail → Type 0 → Type 0
UnlessMem result P = result ≢ Err Mem → P

-- this message stands next in the file after those that were passed over, and this is the file's type
pub record IsNextIn (files : Option Files) (name block_type : List ℕ) (given : List (List ℕ)) (message : List ℕ) : Type 0 where
  pub text : List ℕ
  pub there : HasText files name text
  pub typed : (contents text).block_type ≡ Some block_type
  pub more : List (List ℕ)
  pub messages : (contents text).messages ≡ given ++ message ∷ more

-- all messages of the file were passed over, and the reader tells its type and its fault, or its length where it has none
pub record IsAll (files : Option Files) (r : FileState) (given : List (List ℕ)) : Type 0 where
  pub text : List ℕ
  pub there : HasText files r.name text
  pub typed : (contents text).block_type ≡ r.reader.block_type
  pub messages : (contents text).messages ≡ given
  pub fault : end_fault (state_after text) ≡ end_fault r.reader
  pub size : end_fault r.reader ≡ None → length text ≡ r.at
