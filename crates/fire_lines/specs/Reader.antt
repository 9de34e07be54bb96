-- How contracts see a reader of lines, and what a feed leaves.
use Rattle.std.specs.Prelude.{ℕ, ◌≡◌, ◌≢◌, List, [], ◌∷◌, ◌++◌, Option, None, Some, Result, Err, if◌then◌else◌}
use mathlib.Core.List.{IsPrefix}
use Rattle.block_record.specs.Words.{Answers, GrowsBy}
use Rattle.block_record.specs.declared.blocks.Kind.{Kind}
use Rattle.block_record.specs.declared.blocks.Slip.{Slip}
use Rattle.fire_lines.specs.declared.faults.LineFault.{LineFault}
use Rattle.fire_lines.specs.declared.faults.LineFault.TheVariants.{Mem}
use Rattle.fire_lines.specs.Parts.{tail_of, without_cr}
use Rattle.fire_lines.specs.Line.{Saying, passes, opens, brings, is_bad, says, may_be_fire}
use Rattle.fire_lines.specs.Text.{received, next_line, tail_fault}

-- a reader: its limit on the bytes of a line; of its run the kind, the number of lines read and the fault; and what it keeps of the line in progress
pub record ReaderState : Type 0 where
  pub max : ℕ
  pub kind : Option Kind
  pub lines : ℕ
  pub fault : Option LineFault
  pub partial : Option (List ℕ)

-- what is kept of a line in progress: its bytes where it is or may be for the reader, and nothing where it is passed over, however long
abbrev pub kept : List ℕ → Option (List ℕ)
kept tail = if may_be_fire tail then Some tail else None

-- a reader that has stopped at a fault keeps no bytes
abbrev pub kept_after : Option LineFault → List ℕ → Option (List ℕ)
kept_after None tail = kept tail
kept_after (Some f) tail = Some []

-- a reader that was fed this text of its run, in any pieces
abbrev pub state_after : ℕ → List ℕ → ReaderState
state_after max text = record {
  max = max;
  kind = (received max text).kind;
  lines = (received max text).lines;
  fault = (received max text).fault;
  partial = kept_after (received max text).fault (tail_of text);
}

-- the kind of a run after a line that says this
abbrev pub kind_after : Saying → Option Kind → Option Kind
kind_after passes kind = kind
kind_after (opens k) kind = Some k
kind_after (brings s) kind = kind
kind_after (is_bad f) kind = kind

-- the slips of the blocks that a line brings
abbrev pub slips_of : Saying → List Slip
slips_of passes = []
slips_of (opens k) = []
slips_of (brings s) = s ∷ []
slips_of (is_bad f) = []

-- the fault of a line
abbrev pub fault_of : Saying → Option LineFault
fault_of passes = None
fault_of (opens k) = None
fault_of (brings s) = None
fault_of (is_bad f) = Some f

-- what the line says that a reader takes next, its CR still on it
abbrev pub line_says : ReaderState → List ℕ → Saying
line_says r line = says r.max (next_line r.lines) r.kind (without_cr line)

-- a reader that stops at this fault, or begins its next line
abbrev pub counted : Option LineFault → ReaderState → ReaderState
counted None r = record r { lines = next_line r.lines; partial = Some [] }
counted (Some f) r = record r { fault = Some f; partial = Some [] }

-- a reader after one more line that says this
abbrev pub with_line : Saying → ReaderState → ReaderState
with_line saying r = counted (fault_of saying) (record r { kind = kind_after saying r.kind })

-- a reader whose line in progress stands here, where that is this fault or none
abbrev pub in_progress : Option LineFault → List ℕ → ReaderState → ReaderState
in_progress None tail r = record r { partial = kept tail }
in_progress (Some f) tail r = record r { fault = Some f; partial = Some [] }

-- a reader whose line in progress stands here
abbrev pub with_tail : List ℕ → ReaderState → ReaderState
with_tail tail r = in_progress (tail_fault r.max r.lines (without_cr tail)) tail r

-- a fact, unless there was no memory
abbrev pub UnlessMem : {T : Type 0} → Result T LineFault → Type 0 → Type 0
UnlessMem result P = result ≢ Err Mem → P

-- these are the slips that a text gives with a further piece, beyond those that it gives without
abbrev pub AreFurther : ℕ → List ℕ → List ℕ → List Slip → Type 0
AreFurther max text piece more = (received max (text ++ piece)).slips ≡ (received max text).slips ++ more

-- a reader that has stopped because there was no memory: it keeps its limit, its kind and its number of lines
abbrev pub without_memory : ReaderState → ReaderState
without_memory r = record r { fault = Some Mem; partial = Some [] }

-- a piece after this text was read: the answer is the fault of both together, the reader is that of both, and the blocks grew by those that the piece adds
pub record IsRead (max : ℕ) (text piece : List ℕ) (result : Result Unit LineFault) (now : ReaderState) (before out : List Slip) : Type 0 where
  pub answer : Answers result (received max (text ++ piece)).fault
  pub state : now ≡ state_after max (text ++ piece)
  pub more : List Slip
  pub further : AreFurther max text piece more
  pub grows : GrowsBy before out more

-- within a piece after this text there was no memory: the blocks grew by those that a front of the piece adds, and kind and lines are those after this front
pub record IsCutShort (max : ℕ) (text piece : List ℕ) (now : ReaderState) (before out : List Slip) : Type 0 where
  pub front : List ℕ
  pub is_front : IsPrefix front piece
  pub more : List Slip
  pub further : AreFurther max text front more
  pub grows : GrowsBy before out more
  pub state : now ≡ without_memory (state_after max (text ++ front))
