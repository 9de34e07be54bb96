-- The memory that an admission takes.
use Rattle.std.specs.Prelude.{ℕ, ◌+◌, ◌*◌, ◌≤◌, length}
use Rattle.block_intake.specs.Intakes.{TakenIn}
use Rattle.stored_blocks.specs.Stored.{Index}

-- there is memory for a block and so many that follow: in the history, for those that are dropped, in the index of what is stored, for the marks of all, of their being stored, of the kind and of the end, beside one for each block that is retained, and for conflicts with two slips each
pub record HasMemory (follow : ℕ) (taken : TakenIn) (index : Index) (marks_left conflicts_left buffers_left : ℕ) : Type 0 where
  pub history : 1 + follow ≤ taken.forks.room
  pub spare : follow ≤ taken.spare
  pub index_room : 1 + follow ≤ index.room
  pub marks : length taken.forks.history + 2 * follow + 4 ≤ marks_left + index.stored
  pub conflicts : follow ≤ conflicts_left
  pub buffers : 2 * follow ≤ buffers_left
