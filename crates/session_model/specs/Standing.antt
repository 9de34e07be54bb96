-- What a session has sent at each stage, over the history so far.
use Rattle.std.specs.Prelude.{ℕ, ◌≡◌, ◌<◌, ◌≤◌, true, false, List, [], ◌∷◌, ◌++◌, length, take, map, Some}
use Rattle.std.specs.List.{AllByRecursion}
use Rattle.block_record.specs.declared.blocks.Slip.{Slip}
use Rattle.chain_model.specs.declared.places.Place.{Place}
use Rattle.chain_model.specs.Places.{PlaceFits, IsAhead, steps_to}
use Rattle.chain_laws.specs.Oldest.{oldest}
use Rattle.resume_laws.specs.Sessions.{place_through, Rises}
use Rattle.step_cursor.specs.declared.cursor.Cursor.{Cursor}
use Rattle.step_cursor.specs.declared.cursor.Tail.{Tail}
use Rattle.step_cursor.specs.declared.cursor.Request.{Request}
use Rattle.step_cursor.specs.Fitting.{CursorFits}
use Rattle.relay_model.specs.Looks.{Start, At}
use Rattle.reply_text.specs.declared.errors.ErrorLine.{ErrorLine}
use Rattle.reply_text.specs.Replies.{Reply, reply_text}
use Rattle.reply_text.specs.Values.{IsValue}
use Rattle.session_model.specs.declared.over.SessionOver.TheVariants as over
use Rattle.session_model.specs.Told.{Told, Opens, Ends, Fails, told}
use Rattle.session_model.specs.Transcript.{begins_at, first_place, steps_told, batches_told, body}
use Rattle.session_model.specs.Progress.{OpenBatch, Stage, Waits, Sends, IsOver, Progress}

-- a session whose first batch was over this history: the place fits, the stop is not below its end, and a cursor fits, and saw no more of this run than there was
pub record BeganOver (older : List Slip) (r : Request) (run_number : ℕ) : Type 0 where
  pub fits : PlaceFits older (begins_at older r.start r.cursor).end (begins_at older r.start r.cursor).lib
  pub ahead : IsAhead r.stop (begins_at older r.start r.cursor).end
  pub cursor : (c : Cursor) → r.cursor ≡ Some c → CursorFits c older
  pub seen : (c : Cursor) (t : Tail) → r.cursor ≡ Some c → c.tail ≡ Some t → t.run ≡ run_number → t.seen ≤ length older

-- the same of a session that may have had no batch
abbrev pub BeganIfAny : List Slip → Request → ℕ → List ℕ → Type 0
BeganIfAny newest r run_number [] = Unit {0}
BeganIfAny newest r run_number (len ∷ lens) = BeganOver (oldest len newest) r run_number

-- what holds of the lengths of a session: they don't fall, are at most the history's, and the first batch began right
pub record HasLengths (newest : List Slip) (r : Request) (run_number : ℕ) (lens : List ℕ) : Type 0 where
  pub rises : Rises lens
  pub within : AllByRecursion (λ n. n ≤ length newest) lens
  pub began : BeganIfAny newest r run_number lens

-- between two batches: what was sent is the body, and the client stands where the last batch ended
pub record IsBetween (newest : List Slip) (type : List ℕ) (r : Request) (run_number : ℕ) (lens : List ℕ) (place : Place) (lines : List Told) : Type 0 where
  pub lengths : HasLengths newest r run_number lens
  pub some : lens ≡ [] → ⊥
  pub place_is : place ≡ place_through newest r.mode r.stop (first_place newest r lens) lens
  pub fits : PlaceFits newest place.end place.lib
  pub ahead : IsAhead r.stop place.end
  pub lines_are : lines ≡ body newest run_number type r lens

-- within a batch, the last one: what was sent is the body cut at the step reached
pub record IsWithin (newest : List Slip) (type : List ℕ) (r : Request) (run_number : ℕ) (lens : List ℕ) (b : OpenBatch) (lines : List Told) : Type 0 where
  pub lengths : HasLengths newest r run_number lens
  pub before : List ℕ
  pub lens_are : lens ≡ before ++ b.seen ∷ []
  pub place_is : b.place ≡ place_through newest r.mode r.stop (first_place newest r lens) before
  pub fits : PlaceFits (oldest b.seen newest) b.place.end b.place.lib
  pub ahead : IsAhead r.stop b.place.end
  pub total_is : b.total ≡ length (steps_to (oldest b.seen newest) b.place r.mode r.stop)
  pub more : b.given < b.total
  pub lines_are : lines
      ≡ Opens type run_number (first_place newest r lens) ∷ batches_told newest run_number r.mode r.stop (first_place newest r lens) before
      ++ steps_told run_number b.seen (take b.given (steps_to (oldest b.seen newest) b.place r.mode r.stop))

-- at the end: the body and an end line, or an error line alone
pub record HasEnded (newest : List Slip) (type : List ℕ) (r : Request) (run_number : ℕ) (lens : List ℕ) (last : Told) (lines : List Told) : Type 0 where
  pub lengths : HasLengths newest r run_number lens
  pub lines_are : lines ≡ body newest run_number type r lens ++ last ∷ []

-- refused: no batch, and an error line alone
pub record WasRefused (lens : List ℕ) (lines : List Told) : Type 0 where
  pub error : ErrorLine
  pub lens_are : lens ≡ []
  pub lines_are : lines ≡ Fails error ∷ []

-- not begun: no batch and no line
pub record HasNotBegun (lens : List ℕ) (lines : List Told) : Type 0 where
  pub lens_are : lens ≡ []
  pub lines_are : lines ≡ []

-- what was sent at a stage
abbrev pub StandsAt : List Slip → List ℕ → Request → ℕ → List ℕ → Stage → List Told → Type 0
StandsAt newest type r run_number lens (Waits Start) lines = HasNotBegun lens lines
StandsAt newest type r run_number lens (Waits (At place)) lines = IsBetween newest type r run_number lens place lines
StandsAt newest type r run_number lens (Sends b) lines = IsWithin newest type r run_number lens b lines
StandsAt newest type r run_number lens (IsOver over.Done) lines = HasEnded newest type r run_number lens (Ends true) lines
StandsAt newest type r run_number lens (IsOver over.Closing) lines = HasEnded newest type r run_number lens (Ends false) lines
StandsAt newest type r run_number lens (IsOver over.Refused) lines = WasRefused lens lines

-- what a session has told
abbrev pub Stands : List Slip → List ℕ → Progress → List Told → Type 0
Stands newest type p lines = StandsAt newest type p.request p.run_number p.lens p.stage lines

-- a text is what a session has written: it shows what the session has told over the history
pub record HasWritten (newest : List Slip) (type : List ℕ) (p : Progress) (text : List ℕ) : Type 0 where
  pub replies : List Reply
  pub stands : Stands newest type p (map told replies)
  pub values : AllByRecursion IsValue replies
  pub text_is : text ≡ reply_text replies
