-- The messages of a container, one after another: four bytes for the length, and its bytes.
use Rattle.std.specs.Prelude.{ℕ, ◌≡◌, IsTrue, zero, suc, ◌+◌, ◌-◌, ◌<◌, ◌≤◌, ◌&&◌, nat_lt, nat_le, Bool, not, List, [], ◌∷◌, ◌++◌, length, take, drop, if◌then◌else◌}
use Rattle.dbin_file.specs.declared.messages.Begun.{Begun}
use Rattle.dbin_file.specs.declared.messages.Begun.TheVariants.{Part, Whole, TooLong}
use Rattle.std.specs.List.{AllByRecursion}
use Rattle.std.specs.Int.{w32, to_be_bytes, from_be_bytes}

-- the most bytes that a message has
abbrev pub message_max : ℕ
message_max = 50_001_024

-- none of these messages has more bytes than a message has
abbrev pub AreMessages : List (List ℕ) → Type 0
AreMessages messages = AllByRecursion (λ m. length m ≤ message_max) messages

-- a message in a container
abbrev pub message_text : List ℕ → List ℕ
message_text message = to_be_bytes w32 (length message) ++ message

-- the length that some bytes begin with
abbrev pub message_length : List ℕ → ℕ
message_length bytes = from_be_bytes w32 (take 4 bytes)

-- whether the length of a message is there
abbrev pub has_length : List ℕ → Bool
has_length bytes = nat_le 4 (length bytes)

-- whether some bytes begin with a whole message of no more bytes than a message has
unfoldable pub has_message : List ℕ → Bool
has_message bytes = has_length bytes && nat_le (message_length bytes) message_max && nat_le (4 + message_length bytes) (length bytes)

-- the bytes of that message
abbrev pub first_message : List ℕ → List ℕ
first_message bytes = take (message_length bytes) (drop 4 bytes)

-- messages, and what follows them
abbrev pub Split : Type 0
Split = List (List ℕ) × List ℕ

-- one more message in front
abbrev pub onto : List ℕ → Split → Split
onto message split = (message ∷ split.0, split.1)

-- the whole messages that some bytes begin with, and what follows them, after so many bytes that are passed over
abbrev pub split_after : ℕ → List ℕ → Split
split_after n [] = ([], [])
split_after (suc n) (byte ∷ bytes) = split_after n bytes
split_after zero (byte ∷ bytes) =
    if has_message (byte ∷ bytes) then onto (first_message (byte ∷ bytes)) (split_after (3 + message_length (byte ∷ bytes)) bytes)
    else ([], byte ∷ bytes)

-- the whole messages that some bytes begin with, and what follows them
abbrev pub split : List ℕ → Split
split bytes = split_after 0 bytes

-- whether some bytes begin with a length that no message has
unfoldable pub is_too_long : List ℕ → Bool
is_too_long bytes = has_length bytes && nat_lt message_max (message_length bytes)

-- whether some bytes begin a message and have not all of it
abbrev pub is_partial : List ℕ → Bool
is_partial bytes = not (has_message bytes) && not (is_too_long bytes)

-- how many more bytes are wanted of the message that some bytes begin: those of its length, and then the others
abbrev pub missing : List ℕ → ℕ
missing bytes = if nat_lt (length bytes) 4 then 4 - length bytes else 4 + message_length bytes - length bytes

-- some bytes go no further than the end of the message's length, or of the message
abbrev pub IsWithin : List ℕ → Type 0
IsWithin bytes = 4 < length bytes → length bytes ≤ 4 + message_length bytes

-- what some bytes are of the message that they begin
abbrev pub IsBegun : List ℕ → Begun → Type 0
IsBegun bytes Part = IsTrue (is_partial bytes)
IsBegun bytes Whole = IsTrue (has_message bytes)
IsBegun bytes (TooLong n) = IsTrue (is_too_long bytes) × (n ≡ message_length bytes)
