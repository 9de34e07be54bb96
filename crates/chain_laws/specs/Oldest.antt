-- A history at an earlier moment.
use Rattle.std.specs.Prelude.{ℕ, ◌-◌, List, drop, length}
use Rattle.block_record.specs.declared.blocks.Slip.{Slip}

-- the history when it had the length: its oldest blocks, the newest of them first
abbrev pub oldest : ℕ → List Slip → List Slip
oldest len newest = drop (length newest - len) newest
