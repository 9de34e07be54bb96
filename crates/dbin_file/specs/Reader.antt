-- How contracts see a reader of containers, and what a feed leaves.
use Rattle.std.specs.Prelude.{ℕ, ◌≡◌, ◌≢◌, ◌==◌, ◌-◌, ◌+◌, List, [], ◌∷◌, ◌++◌, length, Option, None, Some, Result, Err, if◌then◌else◌}
use mathlib.Core.List.{IsPrefix}
use Rattle.block_record.specs.Words.{Answers, GrowsBy}
use Rattle.dbin_file.specs.declared.faults.DbinFault.{DbinFault}
use Rattle.dbin_file.specs.declared.faults.DbinFault.TheVariants.{Truncated, Mem}
use Rattle.dbin_file.specs.Header.{first_of}
use Rattle.dbin_file.specs.Messages.{Split, split}
use Rattle.dbin_file.specs.Contents.{Contents, contents, told, place, rest_fault}

-- a reader: the type of its container once the header is whole, its fault, the header or the message that has begun, and the place where that begins
pub record ReaderState : Type 0 where
  pub block_type : Option (List ℕ)
  pub fault : Option DbinFault
  pub at : ℕ
  pub partial : List ℕ

-- a reader that has stopped at a fault keeps no bytes
abbrev pub kept : Option DbinFault → List ℕ → List ℕ
kept None rest = rest
kept (Some fault) rest = []

-- a reader of this many bytes that say this
abbrev pub state_of : ℕ → Contents → ReaderState
state_of total c = record { block_type = c.block_type; fault = c.fault; at = place total c.rest; partial = kept c.fault c.rest }

-- a reader that was fed this text, in any pieces
abbrev pub state_after : List ℕ → ReaderState
state_after text = state_of (length text) (contents text)

-- a reader past its header that stands where a message begins
abbrev pub resumed : List ℕ → ℕ → ReaderState
resumed block_type at = record { block_type = Some block_type; fault = None; at = at; partial = [] }

-- the messages that a reader past its header finds in what it keeps and a further piece, and what follows them
abbrev pub found : ReaderState → List ℕ → Split
found r piece = split (r.partial ++ piece)

-- the place that it then stands at
abbrev pub at_after : ReaderState → List ℕ → ℕ
at_after r piece = told (r.at + (length (r.partial ++ piece) - length (found r piece).1))

-- the fault that it then has
abbrev pub message_fault : ReaderState → List ℕ → Option DbinFault
message_fault r piece = rest_fault (at_after r piece) (found r piece).1

-- the reader then
abbrev pub with_piece : ReaderState → List ℕ → ReaderState
with_piece r piece = record r { fault = message_fault r piece; at = at_after r piece; partial = kept (message_fault r piece) (found r piece).1 }

-- where a reader that had no fault is cut, if it is: in its header, or in a message
abbrev pub cut_fault : Option (List ℕ) → ℕ → List ℕ → Option DbinFault
cut_fault None at partial = Some (Truncated 0)
cut_fault (Some block_type) at partial = if length partial == 0 then None else Some (Truncated at)

-- the fault of a reader at its end
abbrev pub end_fault : ReaderState → Option DbinFault
end_fault r = first_of (r.fault ∷ cut_fault r.block_type r.at r.partial ∷ [])

-- a reader that has stopped because there was no memory: it keeps its type and its place
abbrev pub without_memory : ReaderState → ReaderState
without_memory r = record r { fault = Some Mem; partial = [] }

-- a fact, unless there was no memory
abbrev pub UnlessMem : {T : Type 0} → Result T DbinFault → Type 0 → Type 0
UnlessMem result P = result ≢ Err Mem → P

-- these are the messages that a text has with a further piece, beyond those that it has without
abbrev pub AreFurther : List ℕ → List ℕ → List (List ℕ) → Type 0
AreFurther text piece more = (contents (text ++ piece)).messages ≡ (contents text).messages ++ more

-- a piece after this text was read: the answer is the fault of both together, the reader is that of both, and the messages grew by those that the piece adds
pub record IsRead (text piece : List ℕ) (result : Result Unit DbinFault) (now : ReaderState) (before out : List (List ℕ)) : Type 0 where
  pub answer : Answers result (contents (text ++ piece)).fault
  pub state : now ≡ state_after (text ++ piece)
  pub more : List (List ℕ)
  pub further : AreFurther text piece more
  pub grows : GrowsBy before out more

-- within a piece after this text there was no memory: the messages grew by those that a front of the piece adds, and type and place are those after this front
pub record IsCutShort (text piece : List ℕ) (now : ReaderState) (before out : List (List ℕ)) : Type 0 where
  pub front : List ℕ
  pub is_front : IsPrefix front piece
  pub more : List (List ℕ)
  pub further : AreFurther text front more
  pub grows : GrowsBy before out more
  pub state : now ≡ without_memory (state_after (text ++ front))

-- the same of a reader past its header, whatever it was fed
pub record IsCutShortAt (r : ReaderState) (piece : List ℕ) (now : ReaderState) (before out : List (List ℕ)) : Type 0 where
  pub front : List ℕ
  pub is_front : IsPrefix front piece
  pub grows : GrowsBy before out (found r front).0
  pub state : now ≡ without_memory (with_piece r front)
