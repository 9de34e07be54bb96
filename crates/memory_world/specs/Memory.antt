-- How contracts see sources and sinks in memory.
use Rattle.std.specs.Prelude.{ℕ, ◌+◌, nat_le, List, [], ◌++◌, length, Option, None, Some, if◌then◌else◌}

-- a source: the bytes that it gave, and those that it has left
pub record SourceState : Type 0 where
  pub given : List ℕ
  pub left : List ℕ

-- a source of these bytes that has given none
abbrev pub fresh : List ℕ → SourceState
fresh bytes = record { given = []; left = bytes }

-- a sink: its room, and the bytes that were written, or none once they passed the room
pub record SinkState : Type 0 where
  pub room : ℕ
  pub written : Option (List ℕ)

-- a sink with this room that has taken nothing
abbrev pub empty : ℕ → SinkState
empty room = record { room = room; written = Some [] }

-- what is told after a piece: it is told where it fits into the room, and nothing is told once a piece did not
abbrev pub told_after : ℕ → Option (List ℕ) → List ℕ → Option (List ℕ)
told_after room None piece = None
told_after room (Some bytes) piece = if nat_le (length bytes + length piece) room then Some (bytes ++ piece) else None

-- a sink after it took a piece
abbrev pub sink_after : SinkState → List ℕ → SinkState
sink_after sink piece = record { room = sink.room; written = told_after sink.room sink.written piece }
