-- How far a session is, and what each answer makes of it.
use Rattle.std.specs.Prelude.{ℕ, ◌+◌, ◌==◌, true, false, List, [], ◌∷◌, ◌++◌, if◌then◌else◌}
use Rattle.block_record.specs.declared.blocks.Block.{Block}
use Rattle.chain_model.specs.declared.places.Place.{Place}
use Rattle.chain_model.specs.declared.places.Step.{Step}
use Rattle.step_cursor.specs.declared.cursor.Request.{Request}
use Rattle.relay_model.specs.Looks.{Position, Start, At, Look, Batch, NotYet, Done, Closing, Unknown, Misfit, StopBelow}
use Rattle.reply_text.specs.declared.errors.ErrorLine.TheVariants as fault
use Rattle.reply_text.specs.Replies.{Reply, Open, StepOf, Head, End, Error}
use Rattle.session_model.specs.declared.over.SessionOver.{SessionOver}
use Rattle.session_model.specs.declared.over.SessionOver.TheVariants as over

-- a batch whose steps are being sent: the length of the history, the place where it begins, how many steps it has, and how many were sent
pub record OpenBatch : Type 0 where
  pub seen : ℕ
  pub place : Place
  pub total : ℕ
  pub given : ℕ

-- a session waits for the answer to a look from a position, sends the steps of a batch, or is over
pub data Stage : Type 0 where
  Waits : Position → Stage
  Sends : OpenBatch → Stage
  IsOver : SessionOver → Stage

-- a session: what it was asked, the run, the lengths at its batches, and its stage
pub record Progress : Type 0 where
  pub request : Request
  pub run_number : ℕ
  pub lens : List ℕ
  pub stage : Stage

-- a session at its start
abbrev pub fresh : Request → ℕ → Progress
fresh r run_number = record { request = r; run_number = run_number; lens = []; stage = Waits Start }

-- the stage after a batch of so many steps was given
abbrev pub batch_stage : ℕ → ℕ → Place → Stage
batch_stage total seen place = if total == 0 then Waits (At place) else Sends (record { seen = seen; place = place; total = total; given = 0 })

-- the open line, before the first batch
abbrev pub opening_reply : List ℕ → ℕ → Place → List ℕ → List Reply
opening_reply type run_number place [] = Open type run_number place ∷ []
opening_reply type run_number place (len ∷ lens) = []

-- the head line of a batch without steps
abbrev pub idle_head : ℕ → ℕ → Place → List Reply
idle_head total seen place = if total == 0 then Head place.end seen ∷ [] else []

-- the session after an answer to its look, where a batch has so many steps
abbrev pub after_look : ℕ → Progress → Look → Progress
after_look total p (Batch seen place) = record p { lens = p.lens ++ seen ∷ []; stage = batch_stage total seen place }
after_look total p (NotYet len) = p
after_look total p (Done len) = record p { stage = IsOver over.Done }
after_look total p (Closing len) = record p { stage = IsOver over.Closing }
after_look total p (Unknown id) = record p { stage = IsOver over.Refused }
after_look total p (Misfit field) = record p { stage = IsOver over.Refused }
after_look total p (StopBelow end) = record p { stage = IsOver over.Refused }

-- and the lines that it sends then
abbrev pub look_replies : ℕ → List ℕ → Progress → Look → List Reply
look_replies total type p (Batch seen place) = opening_reply type p.run_number place p.lens ++ idle_head total seen place
look_replies total type p (NotYet len) = []
look_replies total type p (Done len) = End true ∷ []
look_replies total type p (Closing len) = End false ∷ []
look_replies total type p (Unknown id) = Error (fault.Unknown id) ∷ []
look_replies total type p (Misfit field) = Error (fault.Misfit field) ∷ []
look_replies total type p (StopBelow end) = Error (fault.StopBelow end) ∷ []

-- the stage after a step, with the place after it
abbrev pub step_stage : OpenBatch → Place → Stage
step_stage b place = if b.given + 1 == b.total then Waits (At place) else Sends (record b { given = b.given + 1 })

-- the session after a step of its open batch
abbrev pub after_step : Progress → OpenBatch → Place → Progress
after_step p b place = record p { stage = step_stage b place }

-- the head line after the last step
abbrev pub last_head : OpenBatch → Place → List Reply
last_head b place = if b.given + 1 == b.total then Head place.end b.seen ∷ [] else []

-- and the lines that it sends then
abbrev pub step_replies : ℕ → OpenBatch → Step → Block → Place → List Reply
step_replies run_number b kind block place = StepOf kind block place (record { run = run_number; seen = b.seen }) ∷ last_head b place
