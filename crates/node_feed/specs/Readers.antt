-- How contracts see a reader of a replay, and what it is answered.
use Rattle.std.specs.Prelude.{ℕ, ◌≡◌, ◌⊎◌, Bool, true, false, List, [], ◌++◌, Option, Result, Ok, Err}
use Rattle.one_block.specs.declared.faults.StoreFault.{StoreFault}
use Rattle.block_record.specs.declared.blocks.Slip.{Slip}
use Rattle.fire_lines.specs.declared.faults.LineFault.{LineFault}
use Rattle.fire_lines.specs.Reader.{ReaderState, AreFurther, state_after}
use Rattle.fire_lines.specs.Text.{received}
use Rattle.replay_text.specs.Lines.{over_line}
use Rattle.node_feed.specs.Feeding.{fed_by, further}
use Rattle.node_feed.specs.Outcomes.{Outside, IsBrought, IsClashOf, IsShort, IsStopped}

-- a reader: its name, how far its node's lines were read, and whether it is over
pub record NodeState : Type 0 where
  pub name : List ℕ
  pub lines : ReaderState
  pub over : Bool

abbrev pub node_state : List ℕ → ReaderState → Bool → NodeState
node_state name lines over = record { name = name; lines = lines; over = over }

-- a reader whose node's run ends and begins anew; one that is over stays as it is
abbrev pub state_ended : Bool → NodeState → NodeState
state_ended true r = r
state_ended false r = record r { lines = state_after r.lines.max [] }

abbrev pub ended : NodeState → NodeState
ended r = state_ended r.over r

-- the line of a run's end, which a reader that is over has alone
abbrev pub lines_ended : Bool → List ℕ → List ℕ
lines_ended true name = over_line name
lines_ended false name = []

abbrev pub end_lines : NodeState → List ℕ
end_lines r = lines_ended r.over r.name

-- what a reader that is over is answered: its line stands, or there was no memory, and nothing else changed
abbrev pub OverAnswers : List ℕ → Outside → Outside → Result Unit StoreFault → Type 0
OverAnswers name old new (Ok done) = new ≡ record old { text = old.text ++ over_line name }
OverAnswers name old new (Err fault) = IsShort old new fault

-- a piece was taken, which a run had after this text: what it brings was brought, and told, or a block had a file whose name is another block's
pub record IsFed (text piece : List ℕ) (r now : NodeState) (old new : Outside) : Type 0 where
  pub lines_are : now.lines ≡ state_after r.lines.max (text ++ piece)
  pub outcome : IsBrought (fed_by r.name r.lines.max text piece old.told) old new now.over
      ⊎ (IsClashOf r.name (received r.lines.max (text ++ piece)).kind (further r.lines.max text piece) old new × (now.over ≡ true))

-- a piece was stopped
abbrev pub IsStoppedFeed : List ℕ → List ℕ → NodeState → Outside → Outside → StoreFault → Type 0
IsStoppedFeed text piece r old new fault = IsStopped r.name (received r.lines.max (text ++ piece)).kind (further r.lines.max text piece) old new fault

-- what is answered to a piece, where the reader is not over
abbrev pub PieceAnswers : List ℕ → List ℕ → NodeState → NodeState → Outside → Outside → Result Bool StoreFault → Type 0
PieceAnswers text piece r now old new (Ok over) = IsFed text piece r (record now { over = over }) old new
PieceAnswers text piece r now old new (Err fault) = IsStoppedFeed text piece r old new fault

-- a piece after this text was read: its first bad line, where there is one, and the slips that it adds
pub record IsPieceRead (max : ℕ) (text piece : List ℕ) (bad : Option LineFault) (now : ReaderState) (before after : List Slip) : Type 0 where
  pub more : List Slip
  pub adds : AreFurther max text piece more
  pub blocks : after ≡ before ++ more
  pub bad_is : (received max (text ++ piece)).fault ≡ bad
  pub state : now ≡ state_after max (text ++ piece)
