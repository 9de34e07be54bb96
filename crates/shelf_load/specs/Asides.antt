-- What is kept beside the relay while a shelf is loaded.
use Rattle.std.specs.Prelude.{ℕ, Bool, List, map}
use Rattle.std.specs.Option.{is_some}
use Rattle.block_record.specs.declared.blocks.Slip.{Slip}
use Rattle.shelf_load.specs.declared.put_by.PutBy.{PutBy}

-- a block that was put by, and whether its payload is kept
pub record Put : Type 0 where
  pub slip : Slip
  pub kept : Bool

abbrev pub put : Slip → Bool → Put
put s kept = record { slip = s; kept = kept }

abbrev pub put_seen : PutBy → Put
put_seen p = put p.slip (is_some p.block)

-- the blocks that were put by
abbrev pub slips_put : List Put → List Slip
slips_put puts = map (λ p. p.slip) puts

-- the blocks that were put by, and those of stored files that were not in the history when they had been taken, both with the last first; and how many blocks were too early or too late
pub record Aside : Type 0 where
  pub put_by : List Put
  pub late : List Slip
  pub passed : ℕ
