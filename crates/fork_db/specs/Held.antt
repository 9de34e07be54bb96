-- Blocks that are held with their payloads.
use Rattle.std.specs.Prelude.{ℕ, List, Option}
use Rattle.block_record.specs.declared.blocks.Block.{Block}

-- the blocks that are still held, in order of arrival, and for how many more there is room
pub record Held : Type 0 where
  pub blocks : List (Option Block)
  pub room : ℕ
