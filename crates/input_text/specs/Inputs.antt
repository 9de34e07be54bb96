-- What was taken of an input.
use Rattle.std.specs.Prelude.{ℕ, ◌≤◌, ◌^◌, List, length}
use Rattle.std.specs.Io.KnownBytes.{IsAtEnd}
use Rattle.outer_world.specs.Causes.{Rose}
use Rattle.outer_world.specs.Told.{Took}
use Rattle.command_io.specs.Streams.{SourceState}
use Rattle.input_text.specs.declared.InputStop.{InputStop}
use Rattle.input_text.specs.declared.InputStop.TheVariants.{Mem, Read, TooLong}

-- this text was taken
abbrev pub TookText : SourceState → SourceState → List ℕ → Type 0
TookText before after text = Took before.left after.left before.given after.given text

-- it was taken, and it is all that there was
pub record TookAll (before after : SourceState) (text : List ℕ) : Type 0 where
  pub took : TookText before after text
  pub at_end : IsAtEnd after.left

-- some text was taken, and there was no memory for more
pub record RanOut (before after : SourceState) : Type 0 where
  pub text : List ℕ
  pub took : TookText before after text

-- some text was taken, and then a read failed
pub record ReadFailed (before after : SourceState) : Type 0 where
  pub text : List ℕ
  pub took : TookText before after text
  pub cause : Rose before.faults after.faults

-- so much text was taken, and no end came
pub record TookTooMuch (before after : SourceState) : Type 0 where
  pub text : List ℕ
  pub took : TookText before after text
  pub cause : 2 ^ 40 ≤ length text

-- why an input was not read to its end
abbrev pub IsStopped : SourceState → SourceState → InputStop → Type 0
IsStopped before after Mem = RanOut before after
IsStopped before after Read = ReadFailed before after
IsStopped before after TooLong = TookTooMuch before after
