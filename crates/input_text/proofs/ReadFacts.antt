-- An input that is read piece by piece.
use Rattle.std.proofs.Common.{◌≡◌, ◌++◌, ◌≤◌, ℕ, List, length}
use Rattle.std.specs.Io.KnownBytes.{Consumes}
use Rattle.outer_world.specs.Told.{Gains, Took}
use Rattle.outer_world.proofs.public.TakenFacts.{took_more}
use Rattle.command_io.specs.Streams.{SourceState}
use Rattle.input_text.specs.Inputs.{RanOut}

-- so much text was taken, and the count of faults has not fallen
pub record IsReading (before now : SourceState) (text : List ℕ) (count : ℕ) : Type 0 where
  pub took : Took before.left now.left before.given now.given text
  pub counted : length text ≡ count
  pub later : before.faults ≤ now.faults

-- a piece was taken, for which there was no memory
pub runs_out : (before mid now : SourceState) (text piece : List ℕ) (count : ℕ) → IsReading before mid text count → Consumes mid.left now.left piece → Gains mid.given now.given piece → RanOut before now
runs_out before mid now text piece count i left given = record {
  text = text ++ piece;
  took = took_more _ _ _ _ _ _ text piece i.took left given;
}
