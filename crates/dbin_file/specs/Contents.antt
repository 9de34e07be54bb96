-- What a text says as a container.
use Rattle.std.specs.Prelude.{ℕ, ◌-◌, ◌^◌, min, List, [], ◌++◌, length, drop, if◌then◌else◌, Option, None, Some}
use Rattle.std.specs.List.{flat_map}
use Rattle.dbin_file.specs.declared.faults.DbinFault.{DbinFault}
use Rattle.dbin_file.specs.declared.faults.DbinFault.TheVariants.{MessageTooLong}
use Rattle.dbin_file.specs.Header.{header_text, header_fault, header_size, type_bytes}
use Rattle.dbin_file.specs.Messages.{message_text, message_length, split, Split, is_too_long}

-- a container of this type with these messages
abbrev pub container_text : List ℕ → List (List ℕ) → List ℕ
container_text block_type messages = header_text block_type ++ flat_map message_text messages

-- the place in a container of this type where the next message begins after these
abbrev pub message_place : List ℕ → List (List ℕ) → ℕ
message_place block_type messages = length (container_text block_type messages)

-- what a text says: its type once the header is whole, the whole messages before the first fault, what follows them, and the first fault
pub record Contents : Type 0 where
  pub block_type : Option (List ℕ)
  pub messages : List (List ℕ)
  pub rest : List ℕ
  pub fault : Option DbinFault

-- a place is told as a number of 64 bits, and stands still at the greatest
abbrev pub told : ℕ → ℕ
told place = min place (2 ^ 64 - 1)

-- of so many bytes, the place where these last ones begin
abbrev pub place : ℕ → List ℕ → ℕ
place total rest = told (total - length rest)

-- a message's length at this place is greater than one has
abbrev pub rest_fault : ℕ → List ℕ → Option DbinFault
rest_fault at rest = if is_too_long rest then Some (MessageTooLong at (message_length rest)) else None

-- a container of so many bytes with this type, whose messages and rest are these
abbrev pub with_messages : ℕ → List ℕ → Split → Contents
with_messages total block_type s = record { block_type = Some block_type; messages = s.0; rest = s.1; fault = rest_fault (place total s.1) s.1 }

-- a container whose header has this fault, or so many bytes once they are all there
abbrev pub with_header : Option DbinFault → Option ℕ → List ℕ → Contents
with_header (Some fault) size text = record { block_type = None; messages = []; rest = text; fault = Some fault }
with_header None None text = record { block_type = None; messages = []; rest = text; fault = None }
with_header None (Some size) text = with_messages (length text) (type_bytes text) (split (drop size text))

-- what a text says
abbrev pub contents : List ℕ → Contents
contents text = with_header (header_fault text) (header_size text) text
