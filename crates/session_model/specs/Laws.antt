-- The laws of what a session has written, as statements.
use Rattle.std.specs.Prelude.{ℕ, ◌≡◌, List, [], ◌++◌, length, Some, slice_get}
use Rattle.block_record.specs.declared.blocks.Slip.{Slip}
use Rattle.block_record.specs.declared.blocks.Block.{Block}
use Rattle.block_record.specs.Slips.{slip}
use Rattle.chain_model.specs.declared.places.Place.{Place}
use Rattle.chain_model.specs.declared.places.Step.{Step}
use Rattle.chain_model.specs.Ancestry.{IsHistory}
use Rattle.chain_model.specs.Finality.{ClaimsAgree}
use Rattle.chain_model.specs.Steps.{block_step, steps_of}
use Rattle.chain_model.specs.Places.{steps_to}
use Rattle.chain_laws.specs.Oldest.{oldest}
use Rattle.step_cursor.specs.declared.cursor.Request.{Request}
use Rattle.relay_model.specs.Worlds.{World}
use Rattle.relay_model.specs.Soundness.{IsSound}
use Rattle.relay_model.specs.Looks.{Position, Look, Batch, looked}
use Rattle.std.specs.List.{AllByRecursion}
use Rattle.reply_text.specs.Replies.{reply_text}
use Rattle.reply_text.specs.Values.{IsValue}
use Rattle.session_model.specs.Progress.{OpenBatch, Progress, Waits, Sends, fresh, after_look, look_replies, after_step, step_replies}
use Rattle.session_model.specs.Standing.{HasWritten}

-- a session that was not looked for has written nothing
abbrev pub SessionBegins : Type 0
SessionBegins = (newest : List Slip) (type : List ℕ) (r : Request) (run_number : ℕ) → HasWritten newest type (fresh r run_number) []

-- what a session has written stays so when the history grows
abbrev pub SessionStays : Type 0
SessionStays = (newest more : List Slip) (type : List ℕ) (p : Progress) (text : List ℕ) → IsHistory (more ++ newest) → ClaimsAgree (more ++ newest)
    → HasWritten newest type p text → HasWritten (more ++ newest) type p text

-- the answer to a session's look, in a world with this history and of its run; a batch has so many steps
pub record IsAnswered (newest : List Slip) (p : Progress) (total : ℕ) (said : Look) : Type 0 where
  pub world : World
  pub sound : IsSound world
  pub history : world.history ≡ newest
  pub run_is : world.run ≡ p.run_number
  pub position : Position
  pub waits : p.stage ≡ Waits position
  pub said_is : looked world p.request position ≡ said
  pub counted : (seen : ℕ) (place : Place) → said ≡ Batch seen place → total ≡ length (steps_of newest place p.request.mode p.request.stop)

-- what the answer to a look adds
abbrev pub LookGoesOn : Type 0
LookGoesOn = (newest : List Slip) (type : List ℕ) (p : Progress) (text : List ℕ) (total : ℕ) (said : Look) → HasWritten newest type p text
    → IsAnswered newest p total said → AllByRecursion IsValue (look_replies total type p said) → HasWritten newest type (after_look total p said) (text ++ reply_text (look_replies total type p said))

-- the step with its block is the next one of an open batch
pub record IsNextStep (newest : List Slip) (p : Progress) (b : OpenBatch) (kind : Step) (block : Block) (place : Place) : Type 0 where
  pub sends : p.stage ≡ Sends b
  pub next : slice_get (steps_to (oldest b.seen newest) b.place p.request.mode p.request.stop) b.given ≡ Some (record { step = block_step kind (slip block); place = place })

-- what a step adds
abbrev pub StepGoesOn : Type 0
StepGoesOn = (newest : List Slip) (type : List ℕ) (p : Progress) (text : List ℕ) (b : OpenBatch) (kind : Step) (block : Block) (place : Place)
    → IsHistory newest → ClaimsAgree newest → HasWritten newest type p text
    → IsNextStep newest p b kind block place → AllByRecursion IsValue (step_replies p.run_number b kind block place) → HasWritten newest type (after_step p b place) (text ++ reply_text (step_replies p.run_number b kind block place))
