-- What a run's text goes on to say, and what a printed run says, as laws.
use Rattle.std.specs.Prelude.{ℕ, ◌≡◌, ◌+◌, ◌^◌, ◌<◌, ◌≤◌, List, ◌++◌, length, map, None, Some}
use Rattle.std.specs.List.{flat_map, AllByRecursion}
use Rattle.block_record.specs.declared.blocks.Block.{Block}
use Rattle.block_record.specs.declared.blocks.Kind.{Kind}
use Rattle.block_record.specs.declared.blocks.Slip.{Slip}
use Rattle.block_record.specs.Slips.{slip}
use Rattle.block_record.specs.Texts.{IsTypeName}
use Rattle.fire_lines.specs.declared.faults.LineFault.{LineFault}
use Rattle.fire_lines.specs.Text.{received}
use Rattle.fire_lines.specs.Reader.{AreFurther}
use Rattle.fire_lines.specs.Printed.{init_line, block_line, IsPrintable}

-- what a text says with a further piece: no block is taken back, and where the text has a fault, nothing changes
pub record GoesOn (max : ℕ) (text piece : List ℕ) : Type 0 where
  pub more : List Slip
  pub further : AreFurther max text piece more
  pub stopped : (f : LineFault) → (received max text).fault ≡ Some f → received max (text ++ piece) ≡ received max text

-- so it is with each text, piece and limit
abbrev pub TextGoesOn : Type 0
TextGoesOn = (max : ℕ) (text piece : List ℕ) → GoesOn max text piece

-- a printed line has at most so many bytes, its LF not counted
abbrev pub IsWithin : ℕ → List ℕ → Type 0
IsWithin max line = length line ≤ max + 1

-- the lines of a run: the opening line of its kind, and the lines of its blocks
abbrev pub run_text : Kind → List Block → List ℕ
run_text kind blocks = init_line kind ++ flat_map block_line blocks

-- a kind and blocks whose lines can be printed and read again: they are in their forms, no line passes the limit, and the lines can be counted
pub record IsRun (max : ℕ) (kind : Kind) (blocks : List Block) : Type 0 where
  pub named : IsTypeName kind.block_type
  pub printable : AllByRecursion IsPrintable blocks
  pub opening : IsWithin max (init_line kind)
  pub within : AllByRecursion (λ b. IsWithin max (block_line b)) blocks
  pub counted : 1 + length blocks < 2 ^ 64

-- a text is read as this kind and these blocks: their slips, one line for each and one for the kind, and no fault
pub record IsReadAs (max : ℕ) (text : List ℕ) (kind : Kind) (blocks : List Block) : Type 0 where
  pub kind_is : (received max text).kind ≡ Some kind
  pub slips : (received max text).slips ≡ map slip blocks
  pub lines : (received max text).lines ≡ 1 + length blocks
  pub fault : (received max text).fault ≡ None

-- a printed run is read as what was printed
abbrev pub PrintedIsRead : Type 0
PrintedIsRead = (max : ℕ) (kind : Kind) (blocks : List Block) → IsRun max kind blocks → IsReadAs max (run_text kind blocks) kind blocks
