-- What the command `node` does: it writes the lines of a generated node.
use Rattle.std.specs.Prelude.{ℕ, ◌≡◌, ◌⊎◌, List, [], codes}
use Rattle.outer_world.specs.Causes.{Rose}
use Rattle.outer_world.specs.Told.{Grows, GrowsByFront}
use Rattle.node_gen.specs.Generated.{generated}
use Rattle.node_command.specs.declared.options.NodeOptions.{NodeOptions}
use Rattle.node_command.specs.declared.run.NodeStop.{NodeStop}
use Rattle.node_command.specs.declared.run.NodeStop.TheVariants.{Mem, Write}
use Rattle.command_io.specs.Streams.{SinkState, Streams, TookInput, ToldError}

-- the lines of these options
abbrev pub node_text : NodeOptions → List ℕ
node_text o = generated o.key o.blocks o.forks

-- the lines were written
abbrev pub Wrote : NodeOptions → SinkState → SinkState → Type 0
Wrote o before after = Grows before.written after.written (node_text o)

-- a front of the lines was written
abbrev pub WroteFront : NodeOptions → SinkState → SinkState → Type 0
WroteFront o before after = GrowsByFront before.written after.written (node_text o)

-- why they were not all written: memory, which is free, or a write failed
abbrev pub Stopped : NodeStop → NodeOptions → SinkState → SinkState → Type 0
Stopped Mem o before after = WroteFront o before after
Stopped Write o before after = Rose before.faults after.faults × WroteFront o before after

-- the line that says why
abbrev pub stop_line : NodeStop → List ℕ
stop_line Mem = codes "fire: out of memory\n"
stop_line Write = codes "fire: write fault\n"

-- and the status
abbrev pub stop_status : NodeStop → ℕ
stop_status Mem = 1
stop_status Write = 4

-- a run of the command with these options that ended with this status: which statuses there are, and what stands after each
pub record NodeRun (o : NodeOptions) (before after : Streams) (status : ℕ) : Type 0 where
  pub known : (status ≡ 0) ⊎ (status ≡ 1) ⊎ (status ≡ 4)
  pub input : TookInput before.flow after.flow []
  pub told : status ≡ 0 → Wrote o before.flow.output after.flow.output × (after.errors ≡ before.errors)
  pub ran_out : status ≡ 1 → WroteFront o before.flow.output after.flow.output × ToldError before after (codes "fire: out of memory\n")
  pub write_failed : status ≡ 4 → Stopped Write o before.flow.output after.flow.output × ToldError before after (codes "fire: write fault\n")
