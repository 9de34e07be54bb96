-- What a whole text of a node's run says.
use Rattle.std.specs.Prelude.{ℕ, ◌+◌, ◌-◌, ◌^◌, min, List, [], ◌∷◌, ◌++◌, if◌then◌else◌, Option, None, Some}
use Rattle.block_record.specs.declared.blocks.Slip.{Slip}
use Rattle.block_record.specs.declared.blocks.Kind.{Kind}
use Rattle.fire_lines.specs.declared.faults.LineFault.{LineFault}
use Rattle.fire_lines.specs.declared.faults.LineFault.TheVariants.{TooLong}
use Rattle.fire_lines.specs.Parts.{parts, without_cr}
use Rattle.fire_lines.specs.Line.{Saying, passes, opens, brings, is_bad, says, is_too_long}

-- what is received of a run: its kind, the blocks before the first bad line, the lines before it or all of them, and its fault
pub record Received : Type 0 where
  pub kind : Option Kind
  pub slips : List Slip
  pub lines : ℕ
  pub fault : Option LineFault

-- nothing more, after so many lines of a run with this kind
abbrev pub ends : Option Kind → ℕ → Option LineFault → Received
ends kind lines fault = record { kind = kind; slips = []; lines = lines; fault = fault }

-- these blocks, and then what is received after them
abbrev pub after : List Slip → Received → Received
after slips r = record { kind = r.kind; slips = slips ++ r.slips; lines = r.lines; fault = r.fault }

-- a line that says this, after so many lines of a run with this kind, and then what follows for each kind
abbrev pub then_receive : Saying → ℕ → Option Kind → (Option Kind → Received) → Received
then_receive passes lines kind more = more kind
then_receive (opens k) lines kind more = more (Some k)
then_receive (brings s) lines kind more = after (s ∷ []) (more kind)
then_receive (is_bad f) lines kind more = ends kind lines (Some f)

-- the number of lines after one more; it stands still at the largest that is told
unfoldable pub next_line : ℕ → ℕ
next_line lines = min (lines + 1) (2 ^ 64 - 1)

-- what follows the last LF is no line; for the reader and longer than the limit, it is bad all the same
abbrev pub tail_fault : ℕ → ℕ → List ℕ → Option LineFault
tail_fault max lines tail = if is_too_long max tail then Some (TooLong (next_line lines)) else None

-- the parts of a text between its LFs, after so many lines of a run with this kind: lines, and the tail as the last part
abbrev pub receive : ℕ → ℕ → Option Kind → List (List ℕ) → Received
receive max lines kind [] = ends kind lines None
receive max lines kind (tail ∷ []) = ends kind lines (tail_fault max lines (without_cr tail))
receive max lines kind (line ∷ next ∷ more) =
    then_receive (says max (next_line lines) kind (without_cr line)) lines kind (λ k. receive max (next_line lines) k (next ∷ more))

-- what a run's text says, with this limit on the bytes of a line
abbrev pub received : ℕ → List ℕ → Received
received max text = receive max 0 None (parts 10 text)
