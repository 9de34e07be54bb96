-- Small tables: what the definitions give.
use Rattle.std.specs.Prelude.{◌≡◌, ◌^◌, ◌++◌, List, [], ◌∷◌, map, Option, None, Some, codes}
use Rattle.block_record.specs.declared.blocks.Slip.{Slip}
use Rattle.chain_model.specs.declared.places.Step.TheVariants as step
use Rattle.chain_model.specs.Steps.{BlockStep, block_step, plain_of}
use Rattle.chain_model.specs.Places.{no_place}
use Rattle.fire_lines.specs.declared.faults.LineFault.TheVariants as fault
use Rattle.relay_model.specs.declared.answers.ConflictKind.TheVariants as kind
use Rattle.relay_model.specs.Worlds.{World}
use Rattle.relay_model.specs.Offers.{conflict}
use Rattle.relay_model.specs.Tables.{id, block, narrow, a1, b2, b3, c2, c3, c3_first, other_b2, q2, w3, x3, x4, y3, y5}
use Rattle.step_text.specs.declared.refusals.Refusal.{Refusal}
use Rattle.step_text.specs.declared.refusals.Refusal.TheVariants as refused
use Rattle.step_text.specs.Limits.{line_max, step_limits, new_world}
use Rattle.step_text.specs.StepText.{whole, bad_line, refusal, step_line, step_lines, step_text, tell, text_of}

-- what is told of blocks to a client that begins: the lines of these steps, and the refusal
pub record IsTold (slips : List Slip) (w : World) (steps : List BlockStep) (r : Option Refusal) : Type 0 where
  pub text : (tell slips w no_place).text ≡ step_lines (map plain_of steps)
  pub refusal : (tell slips w no_place).refusal ≡ r

-- 3/d3(c2, 2)
abbrev pub d3 : Slip
d3 = block 3 (id 100 3) 2 (id 99 2) 2

-- a relay of the command with limits of two blocks, and of one that waits
abbrev pub narrow_world : World
narrow_world = record (new_world 0) { limits = narrow }

-- what is told of small runs
pub record RunTable : Type 0 where
  -- a block that waits for its parent is told after it
  pub waits : IsTold (a1 ∷ c3_first ∷ b2 ∷ []) (new_world 0) (block_step step.NewFinal a1 ∷ block_step step.New b2 ∷ block_step step.New c3_first ∷ []) None
  -- a block that is final rules a branch out
  pub forks : IsTold (a1 ∷ b2 ∷ b3 ∷ c2 ∷ []) (new_world 0)
      (block_step step.NewFinal a1 ∷ block_step step.New b2 ∷ block_step step.New b3 ∷ block_step step.Undo b3 ∷ block_step step.Undo b2 ∷ block_step step.NewFinal c2 ∷ []) None
  -- with b2 all of x3, y3 and w3 link, and x3 is final: the steps of that offer are told, the first conflict ends the run, and x4 is not told
  pub drops : IsTold (a1 ∷ x3 ∷ y3 ∷ w3 ∷ b2 ∷ x4 ∷ []) (new_world 0)
      (block_step step.NewFinal a1 ∷ block_step step.NewFinal b2 ∷ block_step step.NewFinal x3 ∷ []) (Some (refused.Contradicts (conflict kind.Finality x3 y3)))
  -- a block at the number of the final tip is stale, and the run goes on
  pub stale : IsTold (a1 ∷ c2 ∷ q2 ∷ d3 ∷ []) (new_world 0) (block_step step.NewFinal a1 ∷ block_step step.NewFinal c2 ∷ block_step step.New d3 ∷ []) None
  -- so it does after a block below the first number
  pub early : IsTold (a1 ∷ b2 ∷ c3 ∷ []) (new_world 2) (block_step step.NewFinal b2 ∷ block_step step.New c3 ∷ []) None
  -- and after one that is there, but not after another block with its id
  pub repeated : IsTold (a1 ∷ b2 ∷ b2 ∷ other_b2 ∷ b3 ∷ []) (new_world 0)
      (block_step step.NewFinal a1 ∷ block_step step.New b2 ∷ []) (Some (refused.Contradicts (conflict kind.Id b2 other_b2)))
  -- one more block than may wait
  pub room : IsTold (a1 ∷ x4 ∷ y5 ∷ b2 ∷ []) narrow_world (block_step step.NewFinal a1 ∷ []) (Some (refused.WaitFull 1 1))
  -- one more block than the history may have
  pub full : IsTold (a1 ∷ b2 ∷ b3 ∷ b2 ∷ []) narrow_world (block_step step.NewFinal a1 ∷ block_step step.New b2 ∷ []) (Some (refused.HistoryFull 2 1))
  pub none : IsTold [] (new_world 0) [] None

-- what ends a text
pub record EndingTable : Type 0 where
  -- a refusal comes before the bad line that ended the reading
  pub both : (text_of (tell (a1 ∷ b2 ∷ b3 ∷ []) narrow_world no_place) (Some (fault.BadField 9 3))).ending ≡ refusal (refused.HistoryFull 2 1)
  pub bad : (text_of (tell (a1 ∷ b2 ∷ []) narrow_world no_place) (Some (fault.BadField 9 3))).ending ≡ bad_line (fault.BadField 9 3)
  pub end : (text_of (tell (a1 ∷ b2 ∷ []) narrow_world no_place) None).ending ≡ whole
  -- an input without a line
  pub empty : step_text 0 [] ≡ record { text = []; ending = whole }
  -- and one whose first line is that of a block
  pub early : step_text 0 (codes "FIRE BLOCK 1" ++ 10 ∷ []) ≡ record { text = []; ending = bad_line (fault.NoInit 1) }

-- the lines of steps
pub record LineTable : Type 0 where
  pub new : step_line (record { step = step.New; num = 1; id = codes "a1" }) ≡ codes "new 1 a1" ++ 10 ∷ []
  pub undo : step_line (record { step = step.Undo; num = 7; id = codes "b7" }) ≡ codes "undo 7 b7" ++ 10 ∷ []
  pub final : step_line (record { step = step.Final; num = 0; id = codes "g" }) ≡ codes "final 0 g" ++ 10 ∷ []
  pub newfinal : step_line (record { step = step.NewFinal; num = 12; id = codes "c12" }) ≡ codes "newfinal 12 c12" ++ 10 ∷ []

-- the numbers of the limits
pub record LimitTable : Type 0 where
  pub line : line_max ≡ 2 ^ 26
  pub history : step_limits.history ≡ 2 ^ 22
  pub wait_blocks : step_limits.wait_blocks ≡ 2 ^ 10
  pub wait_bytes : step_limits.wait_bytes ≡ 2 ^ 29
  pub first : (new_world 7).first ≡ 7
