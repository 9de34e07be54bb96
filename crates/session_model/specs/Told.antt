-- What the lines of a session tell of the history: a step line tells the slip of its block.
use Rattle.std.specs.Prelude.{ℕ, ◌≡◌, Bool, List, map, Option}
use Rattle.block_record.specs.declared.blocks.BlockRef.{BlockRef}
use Rattle.block_record.specs.Slips.{slip}
use Rattle.chain_model.specs.declared.places.Place.{Place}
use Rattle.chain_model.specs.Steps.{block_step}
use Rattle.chain_model.specs.Places.{PlacedStep}
use Rattle.reply_text.specs.declared.errors.ErrorLine.{ErrorLine}
use Rattle.reply_text.specs.Replies.{Reply, Open, StepOf, Head, End, Error, reply_text}

-- what a line tells: the type, the run and where the session begins; a step with the place after it, and the run and the length in its cursor; the last block of a target and the length; that the session is done, or else that no block will come; an error
pub data Told : Type 0 where
  Opens : List ℕ → ℕ → Place → Told
  Steps : PlacedStep → ℕ → ℕ → Told
  Heads : Option BlockRef → ℕ → Told
  Ends : Bool → Told
  Fails : ErrorLine → Told

-- what a line tells of the history: of a block its slip
abbrev pub told : Reply → Told
told (Open type run_number place) = Opens type run_number place
told (StepOf kind b place tail) = Steps (record { step = block_step kind (slip b); place = place }) tail.run tail.seen
told (Head head seen) = Heads head seen
told (End done) = Ends done
told (Error e) = Fails e

-- a text shows what is told: it is the lines of replies that tell it
pub record Shows (lines : List Told) (text : List ℕ) : Type 0 where
  pub replies : List Reply
  pub says : map told replies ≡ lines
  pub text_is : text ≡ reply_text replies
