-- What the text of a session is, and how a session ends, as statements.
use Rattle.std.specs.Prelude.{ℕ, ◌≡◌, ◌+◌, ◌⊎◌, true, List, [], ◌∷◌, ◌++◌, take, map, Option}
use Rattle.std.specs.List.{AllByRecursion}
use mathlib.Core.List.{IsPrefix}
use Rattle.block_record.specs.declared.blocks.Slip.{Slip}
use Rattle.chain_model.specs.declared.places.Place.{Place}
use Rattle.chain_model.specs.Steps.{steps_of}
use Rattle.resume_laws.specs.Sessions.{Line, StepLine, HeadLine, place_through, received}
use Rattle.chain_model.specs.declared.places.Mode.{Mode}
use Rattle.step_cursor.specs.declared.cursor.Request.{Request}
use Rattle.relay_model.specs.Worlds.{World}
use Rattle.relay_model.specs.Soundness.{IsSound}
use Rattle.relay_model.specs.Looks.{Position, Done as DoneSaid, Closing as ClosingSaid, looked, is_final_by}
use Rattle.reply_text.specs.declared.errors.ErrorLine.{ErrorLine}
use Rattle.session_model.specs.declared.over.SessionOver.TheVariants as over
use Rattle.reply_text.specs.Replies.{Reply, reply_text}
use Rattle.reply_text.specs.Values.{IsValue}
use Rattle.session_model.specs.Told.{Told, Steps, Heads, Shows, told}
use Rattle.session_model.specs.Transcript.{first_place, body, Done, Closing, Refused, IsTranscript}
use Rattle.session_model.specs.Progress.{Stage, Waits, Sends, IsOver, Progress}
use Rattle.session_model.specs.Standing.{HasLengths, HasWritten}

-- a text shows whole lines from the front of what is told
pub record ShowsFront (lines : List Told) (text : List ℕ) : Type 0 where
  pub sent : List Told
  pub front : IsPrefix sent lines
  pub shown : Shows sent text

-- the text is the transcript that ended with an error line
pub record WasRefusedWith (newest : List Slip) (type : List ℕ) (p : Progress) (text : List ℕ) : Type 0 where
  pub error : ErrorLine
  pub transcript : IsTranscript newest p.run_number type p.request p.lens (Refused error) text

-- what a session's text is, by its stage: the body between batches, whole lines from its front within one, and the transcript at the end
abbrev pub Transcribed : List Slip → List ℕ → Progress → Stage → List ℕ → Type 0
Transcribed newest type p (Waits position) text = Shows (body newest p.run_number type p.request p.lens) text
Transcribed newest type p (Sends b) text = ShowsFront (body newest p.run_number type p.request p.lens) text
Transcribed newest type p (IsOver over.Done) text = IsTranscript newest p.run_number type p.request p.lens Done text
Transcribed newest type p (IsOver over.Closing) text = IsTranscript newest p.run_number type p.request p.lens Closing text
Transcribed newest type p (IsOver over.Refused) text = WasRefusedWith newest type p text

-- what a session has written is its transcript, or a front of it
abbrev pub WrittenIsTranscript : Type 0
WrittenIsTranscript = (newest : List Slip) (type : List ℕ) (p : Progress) (text : List ℕ) → HasWritten newest type p text → Transcribed newest type p p.stage text

-- its lengths don't fall, are at most the history's, and begin at what the cursor saw of this run or later; the first place fits, as does the cursor
abbrev pub WrittenHasLengths : Type 0
WrittenHasLengths = (newest : List Slip) (type : List ℕ) (p : Progress) (text : List ℕ) → HasWritten newest type p text → HasLengths newest p.request p.run_number p.lens

-- the place that the batches reached
abbrev pub last_place : List Slip → Progress → Place
last_place newest p = place_through newest p.request.mode p.request.stop (first_place newest p.request p.lens) p.lens

-- a client that had a batch, and from whose place no steps lead on
pub record IsStill (newest : List Slip) (p : Progress) : Type 0 where
  pub some : p.lens ≡ [] → ⊥
  pub still : steps_of newest (last_place newest p) p.request.mode p.request.stop ≡ []

-- done: no steps lead on, and the final tip has reached the stop
pub record IsDone (newest : List Slip) (p : Progress) : Type 0 where
  pub still : IsStill newest p
  pub final : is_final_by newest p.request.stop ≡ true

-- closing: the relay is closed, and no steps lead on, or there is no block
pub record IsClosing (w : World) (p : Progress) : Type 0 where
  pub closed : w.closed ≡ true
  pub still : (w.history ≡ []) ⊎ IsStill w.history p

-- what the answer says that ends a session
pub record EndsRight (w : World) (type : List ℕ) (p : Progress) (position : Position) : Type 0 where
  pub done : (n : ℕ) → looked w p.request position ≡ DoneSaid n → IsDone w.history p
  pub closing : (n : ℕ) → looked w p.request position ≡ ClosingSaid n → IsClosing w p

abbrev pub LooksEndRight : Type 0
LooksEndRight = (w : World) (type : List ℕ) (p : Progress) (text : List ℕ) (position : Position) → IsSound w → HasWritten w.history type p text → p.stage ≡ Waits position
    → EndsRight w type p position

-- the lines of a chain that are told: steps and heads, for a client that asked for this mode and stop
abbrev pub chain_lines_told : Mode → Option ℕ → List Told → List Line
chain_lines_told mode stop [] = []
chain_lines_told mode stop (Steps x run_number seen ∷ lines) = StepLine seen x ∷ chain_lines_told mode stop lines
chain_lines_told mode stop (Heads head seen ∷ lines) = HeadLine mode stop seen ∷ chain_lines_told mode stop lines
chain_lines_told mode stop (t ∷ lines) = chain_lines_told mode stop lines

-- the lines of a session after the open line, cut after any of them, are those that the law of resumption speaks of
abbrev pub BodyIsReceived : Type 0
BodyIsReceived = (newest : List Slip) (run_number : ℕ) (type : List ℕ) (r : Request) (lens : List ℕ) (cut : ℕ) → (lens ≡ [] → ⊥)
    → chain_lines_told r.mode r.stop (take (cut + 1) (body newest run_number type r lens))
    ≡ received newest (first_place newest r lens) (record { mode = r.mode; stop = r.stop; lens = lens; cut = cut })

-- the steps and heads of these replies are what a chain of sessions received of this one, cut after a line
pub record IsReceived (newest : List Slip) (p : Progress) (xs : List Reply) : Type 0 where
  pub cut : ℕ
  pub lines : chain_lines_told p.request.mode p.request.stop (map told xs)
      ≡ received newest (first_place newest p.request p.lens) (record { mode = p.request.mode; stop = p.request.stop; lens = p.lens; cut = cut })

-- whole lines that are read from the front of what a session wrote are what the law of resumption speaks of
abbrev pub ReadIsReceived : Type 0
ReadIsReceived = (newest : List Slip) (type : List ℕ) (p : Progress) (text : List ℕ) (xs : List Reply) (rest : List ℕ) → HasWritten newest type p text → AllByRecursion IsValue xs
    → text ≡ reply_text xs ++ rest → (p.lens ≡ [] → ⊥) → IsReceived newest p xs
