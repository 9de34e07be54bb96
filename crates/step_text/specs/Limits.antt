-- The limits of the command that tells steps.
use Rattle.std.specs.Prelude.{ℕ}
use Rattle.relay_model.specs.Worlds.{Limits, World}
use Rattle.relay_model.specs.Runs.{empty_world}

-- the most bytes of a line
abbrev pub line_max : ℕ
line_max = 67_108_864

-- the most blocks of the history, and the most blocks and bytes of payloads that wait for their parents
abbrev pub step_limits : Limits
step_limits = record { history = 4_194_304; wait_blocks = 1_024; wait_bytes = 536_870_912 }

-- a relay of the command before the first block, for blocks with numbers of at least `first`
abbrev pub new_world : ℕ → World
new_world first = empty_world first 0 step_limits
