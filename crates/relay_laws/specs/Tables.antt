-- Small runs: what the order from scratch has, and what the relay's history has of it. What came last is first.
use Rattle.std.specs.Prelude.{◌≡◌, List, [], ◌∷◌, Some, filter}
use Rattle.block_record.specs.declared.blocks.Slip.{Slip}
use Rattle.chain_model.specs.Finality.{final_tip}
use Rattle.chain_model.specs.Steps.{head, holds_tip}
use Rattle.relay_model.specs.Orders.{linked_order}
use Rattle.relay_model.specs.Runs.{received, run}
use Rattle.relay_model.specs.Tables.{a1, b2, b3, block, c2, c3_first, id, start_world, wide, x3, y3}

-- the blocks that were answered Ok
abbrev pub came : List Slip → List Slip
came offers = received 0 700 wide offers

-- their order from scratch
abbrev pub ordered : List Slip → List Slip
ordered offers = linked_order 0 (came offers)

-- the history that the offers leave
abbrev pub taken_in : List Slip → List Slip
taken_in offers = (run start_world offers).history

-- the blocks of a history whose path contains the final tip
abbrev pub above_tip : List Slip → List Slip
above_tip newest = filter (holds_tip newest (final_tip newest)) newest

-- 3/d3(c2, 3), which claims itself
abbrev pub d3 : Slip
d3 = block 3 (id 100 3) 2 (id 99 2) 3

-- b3 with another payload
abbrev pub other_b3 : Slip
other_b3 = record b3 { digest = 2 ∷ [] }

-- a block that waits for its parent
abbrev pub waits : List Slip
waits = b2 ∷ c3_first ∷ a1 ∷ []

-- b3 comes when the final tip has its number and b2 is not known: it is stale, and b2 is not
abbrev pub late : List Slip
late = b2 ∷ b3 ∷ d3 ∷ c2 ∷ a1 ∷ []

-- their order from scratch
abbrev pub late_ordered : List Slip
late_ordered = b3 ∷ b2 ∷ d3 ∷ c2 ∷ a1 ∷ []

-- and the history, which lacks a block that is off the final path
abbrev pub late_history : List Slip
late_history = b2 ∷ d3 ∷ c2 ∷ a1 ∷ []

-- two slips of one id, the first of them stale
abbrev pub twice : List Slip
twice = other_b3 ∷ late

-- two waiting blocks of which one is dropped
abbrev pub drops : List Slip
drops = b2 ∷ y3 ∷ x3 ∷ a1 ∷ []

-- what the order and the history have
pub record ScratchTable : Type 0 where
  pub waits_order : ordered waits ≡ c3_first ∷ b2 ∷ a1 ∷ []
  pub waits_history : taken_in waits ≡ c3_first ∷ b2 ∷ a1 ∷ []
  -- with a late block both have one final tip, one head and the same above the tip
  pub late_came : came late ≡ late
  pub late_order : ordered late ≡ late_ordered
  pub late_taken : taken_in late ≡ late_history
  pub late_tip : final_tip late_ordered ≡ Some d3
  pub history_tip : final_tip late_history ≡ Some d3
  pub late_head : head late_ordered ≡ Some d3
  pub history_head : head late_history ≡ Some d3
  pub late_above : above_tip late_ordered ≡ d3 ∷ []
  pub history_above : above_tip late_history ≡ d3 ∷ []
  -- where two slips received have one id, the order has both
  pub twice_order : ordered twice ≡ other_b3 ∷ b3 ∷ b2 ∷ d3 ∷ c2 ∷ a1 ∷ []
  pub twice_history : taken_in twice ≡ other_b3 ∷ b2 ∷ d3 ∷ c2 ∷ a1 ∷ []
  -- a dropped block stays in the order
  pub drops_order : ordered drops ≡ y3 ∷ x3 ∷ b2 ∷ a1 ∷ []
  pub drops_history : taken_in drops ≡ x3 ∷ b2 ∷ a1 ∷ []
