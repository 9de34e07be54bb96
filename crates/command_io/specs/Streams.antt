-- The streams and the shelf of a run at one moment, and what was taken of them and written to them.
use Rattle.std.specs.Prelude.{ℕ, ◌≡◌, ◌⊎◌, List, Option}
use Rattle.outer_world.specs.declared.shelves.Shelf.{Ghosts as ShelfGhosts}
use Rattle.outer_world.specs.declared.traits.Sink.{Ghosts as SinkGhosts}
use Rattle.outer_world.specs.declared.traits.Source.{Ghosts as SourceGhosts}
use Rattle.outer_world.specs.Causes.{Rose}
use Rattle.outer_world.specs.Files.{Files}
use Rattle.outer_world.specs.Told.{Grows, GrowsByFront, Took}

-- a source at one moment: the bytes that it has left and has given, where it tells them, and how often it has failed
pub record SourceState : Type 0 where
  pub left : Option (List ℕ)
  pub given : Option (List ℕ)
  pub faults : ℕ

-- a sink at one moment: the bytes that were written, where it tells them, and how often it has failed
pub record SinkState : Type 0 where
  pub written : Option (List ℕ)
  pub faults : ℕ

-- a shelf at one moment: its files, where it tells them, and how often it has failed
pub record ShelfState : Type 0 where
  pub files : Option Files
  pub faults : ℕ

-- an input and an output at one moment
pub record Flow : Type 0 where
  pub input : SourceState
  pub output : SinkState

-- the streams of a run at one moment: its input and output, and where its error lines go
pub record Streams : Type 0 where
  pub flow : Flow
  pub errors : SinkState

-- a run's streams, each as it is
abbrev pub streams_of : SourceState → SinkState → SinkState → Streams
streams_of input output errors = record { flow = record { input = input; output = output }; errors = errors }

-- what a source tells of itself
abbrev pub source_at : {I : Type 0} → SourceGhosts I → I → SourceState
source_at source input = record { left = source.left input; given = source.given input; faults = source.read_faults input }

-- what a sink tells of itself
abbrev pub sink_at : {O : Type 0} → SinkGhosts O → O → SinkState
sink_at sink output = record { written = sink.written output; faults = sink.write_faults output }

-- what a shelf tells of itself
abbrev pub shelf_at : {S : Type 0} → ShelfGhosts S → S → ShelfState
shelf_at shelf kept = record { files = shelf.files kept; faults = shelf.shelf_faults kept }

-- the input and the output together
abbrev pub flow_at : {I O : Type 0} → SourceGhosts I → SinkGhosts O → I → O → Flow
flow_at source sink input output = record { input = source_at source input; output = sink_at sink output }

-- the three together
abbrev pub streams_at : {I O E : Type 0} → SourceGhosts I → SinkGhosts O → SinkGhosts E → I → O → E → Streams
streams_at source sink told input output errors = streams_of (source_at source input) (sink_at sink output) (sink_at told errors)

-- these bytes were taken of the input
abbrev pub TookInput : Flow → Flow → List ℕ → Type 0
TookInput before after input = Took before.input.left after.input.left before.input.given after.input.given input

-- nothing was written to the output
abbrev pub WroteNothing : Flow → Flow → Type 0
WroteNothing before after = after.output.written ≡ before.output.written

-- the line was written, or a front of it where a write failed
abbrev pub ToldLine : SinkState → SinkState → List ℕ → Type 0
ToldLine before after line = Grows before.written after.written line
    ⊎ (Rose before.faults after.faults × GrowsByFront before.written after.written line)

-- so was an error line
abbrev pub ToldError : Streams → Streams → List ℕ → Type 0
ToldError before after line = ToldLine before.errors after.errors line
