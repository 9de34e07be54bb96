-- A run under way, and how it ends.
use Rattle.std.specs.Prelude.{ℕ, ◌≡◌, List, ◌++◌, Option, None, Some}
use Rattle.block_record.specs.declared.blocks.Slip.{Slip}
use Rattle.chain_model.specs.declared.places.Place.{Place}
use Rattle.chain_model.specs.Places.{no_place}
use Rattle.fire_lines.specs.declared.faults.LineFault.{LineFault}
use Rattle.fire_lines.specs.Reader.{ReaderState, state_after, AreFurther}
use Rattle.fire_lines.specs.Text.{received}
use Rattle.relay_model.specs.Worlds.{World}
use Rattle.step_text.specs.declared.refusals.Refusal.{Refusal}
use Rattle.steps_command.specs.declared.progress.RunEnd.{RunEnd}
use Rattle.steps_command.specs.declared.progress.RunEnd.TheVariants.{BadLine, Refused}
use Rattle.step_text.specs.Limits.{line_max, new_world}
use Rattle.step_text.specs.StepText.{Ending, bad_line, refusal, tell, prepend, step_text}

-- these bytes were taken and nothing in them ended the run, and this text was told: whatever blocks come next are told from this world and this place
pub record IsUnderWay (first : ℕ) (input told : List ℕ) (reader : ReaderState) (world : World) (place : Place) : Type 0 where
  pub read : reader ≡ state_after line_max input
  pub sound : (received line_max input).fault ≡ None
  pub goes_on : (more : List Slip) → tell ((received line_max input).slips ++ more) (new_world first) no_place ≡ prepend told (tell more world place)

-- these bytes ended the run so, whatever follows them, and this text was told
pub record IsEnded (first : ℕ) (input told : List ℕ) (ending : Ending) : Type 0 where
  pub text : step_text first input ≡ record { text = told; ending = ending }
  pub stays : (rest : List ℕ) → step_text first (input ++ rest) ≡ step_text first input

-- what ended a run, by its refusal and the fault of its line
abbrev pub end_for : Option Refusal → Option LineFault → Option RunEnd
end_for (Some r) fault = Some (Refused r)
end_for None (Some f) = Some (BadLine f)
end_for None None = None

-- what ended a text, as the program has it
abbrev pub ending_seen : RunEnd → Ending
ending_seen (BadLine f) = bad_line f
ending_seen (Refused r) = refusal r

-- a reader that had read the input reads a further piece: its blocks come after those that were there, and this is its fault
pub record ReadsPiece (input piece : List ℕ) (before after : List Slip) (fault : Option LineFault) (reader : ReaderState) : Type 0 where
  pub more : List Slip
  pub further : AreFurther line_max input piece more
  pub blocks : after ≡ before ++ more
  pub fault_is : (received line_max (input ++ piece)).fault ≡ fault
  pub read : reader ≡ state_after line_max (input ++ piece)
