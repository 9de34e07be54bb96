-- The order from scratch: what a relay that began empty has, whatever the order in which blocks were offered.
use Rattle.std.specs.Prelude.{ℕ, ◌≡◌, List, [], Some, IsTrue, filter}
use Rattle.std.specs.List.{AllByRecursion}
use Rattle.block_record.specs.declared.blocks.Slip.{Slip}
use Rattle.chain_model.specs.Ancestry.{find_id, ancestry}
use Rattle.chain_model.specs.Finality.{ClaimsAgree, final_tip}
use Rattle.chain_model.specs.Steps.{holds_tip, head}
use Rattle.relay_model.specs.Worlds.{Limits}
use Rattle.relay_model.specs.Soundness.{IsBlock}
use Rattle.relay_model.specs.Runs.{OneEach, empty_world, run, dropped, received}
use Rattle.relay_model.specs.Orders.{linked_order}

-- a history has the head and the final tip of an order, no block that the order lacks, and of the blocks whose path contains the final tip the same ones, one after another
pub record Matches (newest order : List Slip) : Type 0 where
  pub heads : head newest ≡ head order
  pub tips : final_tip newest ≡ final_tip order
  pub within : (s : Slip) → find_id newest s.id ≡ Some s → find_id order s.id ≡ Some s
  pub above : filter (holds_tip newest (final_tip newest)) newest ≡ filter (holds_tip order (final_tip order)) order

-- a history has the final tip of an order, no block that the order lacks, each with the same path, and each block of the order whose path contains the final tip
pub record MatchesTip (newest order : List Slip) : Type 0 where
  pub tips : final_tip newest ≡ final_tip order
  pub within : (s : Slip) → find_id newest s.id ≡ Some s → find_id order s.id ≡ Some s
  pub paths : (s : Slip) → find_id newest s.id ≡ Some s → ancestry newest s.id ≡ ancestry order s.id
  pub above : (s : Slip) → find_id order s.id ≡ Some s → IsTrue (holds_tip order (final_tip order) s) → find_id newest s.id ≡ Some s

-- what is asked of a run from nothing: the offers are of blocks, no waiting block was dropped, each id received is of one slip, and the claims of the order from scratch agree
pub record IsOrderly (first run_number : ℕ) (limits : Limits) (offers : List Slip) : Type 0 where
  pub blocks : AllByRecursion IsBlock offers
  pub kept : dropped (empty_world first run_number limits) offers ≡ []
  pub one_each : OneEach (received first run_number limits offers)
  pub agreed : ClaimsAgree (linked_order first (received first run_number limits offers))

-- then the final tip of the relay's history is that of the order from scratch
abbrev pub TipFromScratch : Type 0
TipFromScratch = (first run_number : ℕ) (limits : Limits) (offers : List Slip) → IsOrderly first run_number limits offers
    → MatchesTip (run (empty_world first run_number limits) offers).history (linked_order first (received first run_number limits offers))

-- and so are the head and the blocks whose path contains the final tip, in their order
abbrev pub FromScratch : Type 0
FromScratch = (first run_number : ℕ) (limits : Limits) (offers : List Slip) → IsOrderly first run_number limits offers
    → Matches (run (empty_world first run_number limits) offers).history (linked_order first (received first run_number limits offers))
