-- What a client reads over a chain of sessions, and what it makes of it, as statements.
use Rattle.std.specs.Prelude.{ℕ, ◌≡◌, IsTrue, List, [], ◌∷◌, ◌++◌, map, reverse, Option, None, Some}
use Rattle.std.specs.List.{AllByRecursion}
use mathlib.Core.List.{IsPrefix}
use Rattle.block_record.specs.declared.blocks.Slip.{Slip}
use Rattle.chain_model.specs.declared.places.Place.{Place}
use Rattle.chain_model.specs.Ancestry.{IsHistory}
use Rattle.chain_model.specs.Finality.{ClaimsAgree, final_ancestry}
use Rattle.chain_model.specs.Fold.{fold_steps}
use Rattle.chain_laws.specs.Standing.{after_base, stands, begins}
use Rattle.resume_laws.specs.Sessions.{Line, KeepsFinals, Follow, Rises, ends_in_step, line_len, only_steps, place_of, step_lens, told_final}
use Rattle.step_cursor.specs.declared.cursor.Cursor.{Cursor}
use Rattle.step_cursor.specs.declared.cursor.Request.{Request}
use Rattle.step_cursor.specs.CursorText.{cursor_text}
use Rattle.step_cursor.specs.CursorParts.{cursor_fault}
use Rattle.relay_model.specs.Worlds.{World}
use Rattle.relay_model.specs.Soundness.{IsSound}
use Rattle.relay_model.specs.Laws.{IsTakenUp}
use Rattle.reply_text.specs.Lines.{cursor_after}
use Rattle.reply_text.specs.Replies.{Reply, Open, StepOf, Head, End, Error, reply_text}
use Rattle.reply_text.specs.Values.{IsValue}
use Rattle.session_model.specs.Told.{told}
use Rattle.session_model.specs.Transcript.{first_place}
use Rattle.session_model.specs.Progress.{Progress}
use Rattle.session_model.specs.Standing.{HasWritten}
use Rattle.session_laws.specs.Laws.{chain_lines_told}

-- a session as its client has it: how far it is, the text that it wrote, the whole lines that the client read from the front of that text, and the bytes after them
pub record Heard : Type 0 where
  pub progress : Progress
  pub text : List ℕ
  pub replies : List Reply
  pub rest : List ℕ

-- the text is what the session has written over this history, the lines are read from its front, and there was a batch
pub record IsHeard (newest : List Slip) (type : List ℕ) (h : Heard) : Type 0 where
  pub written : HasWritten newest type h.progress h.text
  pub values : AllByRecursion IsValue h.replies
  pub front : h.text ≡ reply_text h.replies ++ h.rest
  pub some : h.progress.lens ≡ [] → ⊥

-- the cursor of the last step line that was read, or the one before
abbrev pub last_cursor : Option Cursor → List Reply → Option Cursor
last_cursor c [] = c
last_cursor c (Open type run_number place ∷ xs) = last_cursor c xs
last_cursor c (StepOf kind b place tail ∷ xs) = last_cursor (Some (cursor_after kind b place tail)) xs
last_cursor c (Head head seen ∷ xs) = last_cursor c xs
last_cursor c (End done ∷ xs) = last_cursor c xs
last_cursor c (Error e ∷ xs) = last_cursor c xs

-- sessions of which each was opened with the cursor of the last step line that was read before
abbrev pub AreHeard : List Slip → List ℕ → Option Cursor → List Heard → Type 0
AreHeard newest type cursor [] = Unit {0}
AreHeard newest type None (h ∷ later) = ⊥
AreHeard newest type (Some c) (h ∷ later) = IsHeard newest type h × (h.progress.request.cursor ≡ Some c) × AreHeard newest type (last_cursor (Some c) h.replies) later

-- all sessions are of one run
abbrev pub AreOfRun : ℕ → List Heard → Type 0
AreOfRun run_number hs = AllByRecursion (λ h. h.progress.run_number ≡ run_number) hs

-- a chain of sessions of one run: the first without a cursor
pub record IsChainHeard (newest : List Slip) (type : List ℕ) (run_number : ℕ) (first : Heard) (later : List Heard) : Type 0 where
  pub history : IsHistory newest
  pub agreed : ClaimsAgree newest
  pub runs : AreOfRun run_number (first ∷ later)
  pub heard : IsHeard newest type first
  pub opened : first.progress.request.cursor ≡ None
  pub resumed : AreHeard newest type (last_cursor None first.replies) later

-- the lines of steps and heads that were read of a session
abbrev pub lines_read : Heard → List Line
lines_read h = chain_lines_told h.progress.request.mode h.progress.request.stop (map told h.replies)

-- and over a chain
abbrev pub lines_heard : List Heard → List Line
lines_heard [] = []
lines_heard (h ∷ later) = lines_read h ++ lines_heard later

-- each session but the last was read up to the line of a step, whose cursor the next one has
abbrev pub AreReadToStep : List Heard → Type 0
AreReadToStep [] = Unit {0}
AreReadToStep (h ∷ []) = Unit {0}
AreReadToStep (h ∷ next ∷ later) = IsTrue (ends_in_step (lines_read h)) × AreReadToStep (next ∷ later)

-- where the first session began
abbrev pub begun_at : List Slip → Heard → Place
begun_at newest first = first_place newest first.progress.request first.progress.lens

-- what a client makes of lines that it read, from the base where the first session began
pub record Resumes (newest : List Slip) (place : Place) (lines : List Line) : Type 0 where
  -- the fold is defined at each line: after a step the client stands at its place, at a head line it has the target
  pub follow : Follow newest (begins place.end) lines
  -- so it is defined for all steps together
  pub fold : fold_steps (begins place.end) (only_steps lines) ≡ Some (stands newest place.end (place_of place lines))
  -- the blocks told as final are the first blocks of the final path after the base, in order, each once
  pub finals : IsPrefix (told_final lines) (reverse (after_base place.end (final_ancestry newest)))
  -- and none of them is taken back
  pub kept : KeepsFinals [] lines

-- resumption over bytes: whatever sessions follow each other by cursors, each read up to any line, a client that folds all steps loses none and repeats none
abbrev pub ResumptionHeard : Type 0
ResumptionHeard = (newest : List Slip) (type : List ℕ) (run_number : ℕ) (first : Heard) (later : List Heard) → IsChainHeard newest type run_number first later
    → Resumes newest (begun_at newest first) (lines_heard (first ∷ later))

-- how the lengths of the history go on over the lines that were read
pub record NeverFalls (hs : List Heard) : Type 0 where
  -- at the lines of steps they do not fall
  pub steps : Rises (step_lens (lines_heard hs))
  -- and where each session but the last was read up to a step, they do not at all lines
  pub lines : AreReadToStep hs → Rises (map line_len (lines_heard hs))

-- never older over bytes: no client is ever told of an older history
abbrev pub NeverOlderHeard : Type 0
NeverOlderHeard = (newest : List Slip) (type : List ℕ) (run_number : ℕ) (first : Heard) (later : List Heard) → IsChainHeard newest type run_number first later
    → NeverFalls (first ∷ later)

-- the cursor of a step line is read as a cursor, and a look with it in this world is not refused for it
abbrev pub IsTakenReply : World → Reply → Type 0
IsTakenReply w (Open type run_number place) = Unit {0}
IsTakenReply w (StepOf kind b place tail) =
    (cursor_fault (cursor_text (cursor_after kind b place tail)) ≡ None) × ((r : Request) → r.cursor ≡ Some (cursor_after kind b place tail) → IsTakenUp w r)
IsTakenReply w (Head head seen) = Unit {0}
IsTakenReply w (End done) = Unit {0}
IsTakenReply w (Error e) = Unit {0}

-- a cursor that stands in the text of a session of this run is never malformed, unknown or unfit
abbrev pub CursorsAreTaken : Type 0
CursorsAreTaken = (w : World) (type : List ℕ) (h : Heard) → IsSound w → IsHeard w.history type h → h.progress.run_number ≡ w.run → AllByRecursion (IsTakenReply w) h.replies
