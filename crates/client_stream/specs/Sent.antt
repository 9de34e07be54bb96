-- What a session has sent over a history, and what it may be given next.
use Rattle.std.specs.Prelude.{ℕ, List, [], ◌++◌, Option, None, Some}
use Rattle.block_record.specs.declared.blocks.Slip.{Slip}
use Rattle.chain_model.specs.Ancestry.{IsHistory}
use Rattle.chain_model.specs.Finality.{ClaimsAgree}
use Rattle.chain_laws.specs.Oldest.{oldest}
use Rattle.step_cursor.specs.declared.cursor.Request.{Request}
use Rattle.fork_db.specs.declared.batches.Batch.{Batch}
use Rattle.fork_db.specs.Batches.{IsGiven}
use Rattle.relay_look.specs.Answers.{FitsAt}
use Rattle.session_model.specs.Progress.{Progress}
use Rattle.session_model.specs.Standing.{HasWritten}
use Rattle.client_stream.specs.declared.session.Need.{Need}
use Rattle.client_stream.specs.declared.session.Need.TheVariants as need
use Rattle.client_stream.specs.Sessions.{State, new_state}

-- the open batch was given by this history, or before it grew, for the session's request
abbrev pub IsBatchGiven : List Slip → Progress → Option Batch → Type 0
IsBatchGiven newest p None = Unit {0}
IsBatchGiven newest p (Some b) = IsGiven newest (oldest b.seen newest) p.request.mode p.request.stop b

-- a text is what the session has written over this history, whose first blocks gave its open batch
pub record HasSent (newest : List Slip) (type : List ℕ) (s : State) (text : List ℕ) : Type 0 where
  pub written : HasWritten newest type s.progress text
  pub batch : IsBatchGiven newest s.progress s.batch

-- what the session needs can be asked of this history: a look from a place that fits it, or the next step of a batch that it gave
abbrev pub MayBeAsked : List Slip → State → Need → Type 0
MayBeAsked newest s (need.Look position) = FitsAt newest position.now
MayBeAsked newest s (need.Chunk from) = Unit {0}
MayBeAsked newest s (need.Over o) = Unit {0}

-- what a session has sent stays so when the history grows
abbrev pub SentStays : Type 0
SentStays = (newest more : List Slip) (type : List ℕ) (s : State) (text : List ℕ) → IsHistory (more ++ newest) → ClaimsAgree (more ++ newest)
    → HasSent newest type s text → HasSent (more ++ newest) type s text

-- a session at its start has sent nothing
abbrev pub NothingSent : Type 0
NothingSent = (newest : List Slip) (type : List ℕ) (r : Request) (run_number : ℕ) → HasSent newest type (new_state r run_number) []
