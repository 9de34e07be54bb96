-- What a run has done with a piece of its input.
use Rattle.std.specs.Prelude.{ℕ, List, Option, None, Some, Result, Ok, Err}
use Rattle.chain_model.specs.declared.places.Place.{Place}
use Rattle.outer_world.specs.Causes.{Rose}
use Rattle.outer_world.specs.Told.{Grows, GrowsByFront}
use Rattle.fire_lines.specs.Reader.{ReaderState}
use Rattle.relay_model.specs.Worlds.{World}
use Rattle.steps_command.specs.declared.progress.RunEnd.{RunEnd}
use Rattle.steps_command.specs.declared.steps.StepsStop.{StepsStop}
use Rattle.steps_command.specs.declared.steps.StepsStop.TheVariants.{Mem, Read, Write, TooLong}
use Rattle.step_text.specs.StepText.{step_text}
use Rattle.command_io.specs.Streams.{SinkState}
use Rattle.steps_command.specs.Telling.{IsUnderWay, IsEnded, ending_seen}

-- the input ends with the piece. The run goes on or was ended by it, with all that it tells written since the start; or there was no memory or a write
-- failed, with a front of that written
abbrev pub PieceTaken : ℕ → List ℕ → Option (List ℕ) → SinkState → SinkState → ReaderState → World → Place → Result (Option RunEnd) StepsStop → Type 0
PieceTaken first input start before after reader world place (Ok None) = (told : List ℕ) × IsUnderWay first input told reader world place × Grows start after.written told
PieceTaken first input start before after reader world place (Ok (Some end)) = (told : List ℕ) × IsEnded first input told (ending_seen end) × Grows start after.written told
PieceTaken first input start before after reader world place (Err Mem) = GrowsByFront start after.written (step_text first input).text
PieceTaken first input start before after reader world place (Err Write) = Rose before.faults after.faults × GrowsByFront start after.written (step_text first input).text
PieceTaken first input start before after reader world place (Err Read) = ⊥
PieceTaken first input start before after reader world place (Err TooLong) = ⊥
