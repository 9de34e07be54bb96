-- What a session has written after an answer and after a step.
use Rattle.std.proofs.Common.{arith, ◌≡◌, ◌≢◌, ◌≤◌, ◌+◌, ◌-◌, ℕ, Bool, true, false, cond, eqb, map, append_assoc, List, [], ◌∷◌, ◌++◌, length, Option, Some, None, Result, Ok, Err, refl, sym, ◌∙◌, ap, subst}
use Rattle.std.proofs.lemmas.List.{length-drop, append_cancel_left}
use Rattle.block_record.specs.declared.blocks.Slip.{Slip}
use Rattle.chain_model.specs.declared.places.Mode.{Mode}
use Rattle.chain_model.specs.declared.places.Place.{Place}
use Rattle.chain_model.specs.Ancestry.{IsHistory}
use Rattle.chain_model.specs.Finality.{ClaimsAgree}
use Rattle.fork_db.specs.declared.batches.Batch.{Batch}
use Rattle.fork_db.specs.Batches.{IsGiven, step_total}
use Rattle.relay_model.specs.Worlds.{World}
use Rattle.relay_model.specs.Looks.{Look as Said, Batch as BatchSaid, NotYet, Done, Closing, Unknown, Misfit, StopBelow, looked}
use Rattle.relay_look.specs.declared.answers.Look.{Look}
use Rattle.relay_look.specs.declared.answers.Look.TheVariants as look
use Rattle.relay_look.specs.declared.answers.LookFault.{LookFault}
use Rattle.relay_look.specs.declared.answers.LookFault.TheVariants as fault
use Rattle.std.specs.List.{AllByRecursion}
use Rattle.reply_text.specs.Replies.{Reply, Open, reply_text}
use Rattle.reply_text.specs.Values.{IsValue}
use Rattle.session_model.specs.Progress.{OpenBatch, Progress, Sends, opening_reply, idle_head, after_look, look_replies, after_step, step_replies}
use Rattle.session_model.specs.Standing.{HasWritten}
use Rattle.session_model.proofs.public.Sent.{session_stays, look_goes_on, step_goes_on}
use Rattle.join_source.specs.declared.step.StepOut.{StepOut}
use Rattle.session_model.specs.Told.{told}
use Rattle.session_model.specs.Progress.{Stage, Waits}
use Rattle.session_model.specs.Standing.{StandsAt}
use Rattle.session_model.proofs.public.Batches.{oldest_all}
use Rattle.chain_laws.proofs.public.Later.{oldest_stays}
use Rattle.chain_laws.specs.Oldest.{oldest}
use Rattle.relay_look.specs.declared.answers.Position.{Position}
use Rattle.relay_look.specs.declared.answers.Position.TheVariants as position
use Rattle.relay_look.specs.Answers.{FitsAt, position_of}
use Rattle.client_stream.specs.Sessions.{State}
use Rattle.client_stream.specs.Sent.{IsBatchGiven, HasSent, SentStays}
use Rattle.client_stream.specs.Answers.{said_of, batch_in, total_of, opened, batch_after, batch_left, IsAnswerOf, IsStepOf}
use Rattle.client_stream.proofs.public.AnswerFacts.{counted, said_is}

same_opening : (given type : List ℕ) (run : ℕ) (place : Place) (lens : List ℕ) → (lens ≡ [] → given ≡ type) → opening_reply type run place lens ≡ opening_reply given run place lens
same_opening given type run place [] same = ap (λ t. Open t run place ∷ []) (sym (same refl))
same_opening given type run place (n ∷ lens) same = refl

-- the type matters at the first batch alone
same_replies : (total : ℕ) (given type : List ℕ) (p : Progress) (said : Said) → (p.lens ≡ [] → given ≡ type) → look_replies total type p said ≡ look_replies total given p said
same_replies total given type p (BatchSaid n place) same = ap (λ l. l ++ idle_head total n place) (same_opening given type p.run_number place p.lens same)
same_replies total given type p (NotYet len) same = refl
same_replies total given type p (Done len) same = refl
same_replies total given type p (Closing len) same = refl
same_replies total given type p (Unknown id) same = refl
same_replies total given type p (Misfit f) same = refl
same_replies total given type p (StopBelow end) same = refl

-- what is written after the answer to a look
pub look_written : (w : World) (newest : List Slip) (p : Progress) (answer : Result Look LookFault) (type given text : List ℕ) → answer ≢ Err fault.Mem
    → AllByRecursion IsValue (look_replies (total_of (batch_in answer)) given p (said_of answer)) → HasWritten newest type p text → IsAnswerOf w newest p answer type given
    → HasWritten w.history type (after_look (total_of (batch_in answer)) p (said_of answer)) (text ++ reply_text (look_replies (total_of (batch_in answer)) given p (said_of answer)))
look_written w newest p answer type given text some values h a =
    let total = total_of (batch_in answer) in
    let grown : HasWritten (a.more ++ newest) type p text =
    session_stays newest a.more type p text (subst IsHistory a.grown a.sound.history) (subst ClaimsAgree a.grown a.sound.agreed) h in
    let now : HasWritten w.history type p text = subst (λ (n : List Slip). HasWritten n type p text) (sym a.grown) grown in
    subst (λ (l : List Reply). HasWritten w.history type (after_look total p (said_of answer)) (text ++ reply_text l)) (same_replies total given type p (said_of answer) a.type_is)
    (look_goes_on w.history type p text total (said_of answer) now (record {
      world = w;
      sound = a.sound;
      history = refl;
      run_is = a.run_is;
      position = a.position;
      waits = a.waits;
      said_is = said_is (looked w p.request a.position) answer some a.said;
      counted = counted w.history p.request answer a.batch;
    }) (subst (AllByRecursion IsValue) (sym (same_replies total given type p (said_of answer) a.type_is)) values))

-- the same of what a call gives: the session after it, and what it added to a text
pub look_gives : (w : World) (newest : List Slip) (p q : Progress) (answer : Result Look LookFault) (type given text added before after : List ℕ) → answer ≢ Err fault.Mem
    → q ≡ after_look (total_of (batch_in answer)) p (said_of answer)
    → after ≡ before ++ reply_text (look_replies (total_of (batch_in answer)) given p (said_of answer))
    → AllByRecursion IsValue (look_replies (total_of (batch_in answer)) given p (said_of answer))
    → HasWritten newest type p text → IsAnswerOf w newest p answer type given → after ≡ before ++ added
    → HasWritten w.history type q (text ++ added)
look_gives w newest p q answer type given text added before after some is_after is_text values h a is_added =
    let same : reply_text (look_replies (total_of (batch_in answer)) given p (said_of answer)) ≡ added = append_cancel_left before _ _ (sym is_text ∙ is_added) in
    subst (λ (l : List ℕ). HasWritten w.history type q (text ++ l)) same
    (subst (λ (x : Progress). HasWritten w.history type x (text ++ reply_text (look_replies (total_of (batch_in answer)) given p (said_of answer)))) (sym is_after)
    (look_written w newest p answer type given text some values h a))

pub step_gives : (newest : List Slip) (p q : Progress) (x : StepOut) (type text added before after : List ℕ)
    → ((b : OpenBatch) → p.stage ≡ Sends b → q ≡ after_step p b x.place)
    → ((b : OpenBatch) → p.stage ≡ Sends b → after ≡ before ++ reply_text (step_replies p.run_number b x.step x.block.value x.place))
    → ((b : OpenBatch) → p.stage ≡ Sends b → AllByRecursion IsValue (step_replies p.run_number b x.step x.block.value x.place))
    → HasWritten newest type p text → IsStepOf newest p x → after ≡ before ++ added
    → HasWritten newest type q (text ++ added)
step_gives newest p q x type text added before after is_after is_text values h s is_added =
    let b = s.open_batch in
    let same : reply_text (step_replies p.run_number b x.step x.block.value x.place) ≡ added = append_cancel_left before _ _ (sym (is_text b s.next.sends) ∙ is_added) in
    subst (λ (l : List ℕ). HasWritten newest type q (text ++ l)) same
    (subst (λ (y : Progress). HasWritten newest type y (text ++ reply_text (step_replies p.run_number b x.step x.block.value x.place))) (sym (is_after b s.next.sends))
    (step_goes_on newest type p text b x.step x.block.value x.place s.history s.agreed h s.next (values b s.next.sends)))

-- the same with the open batch

given_stays : (newest more : List Slip) (m : Mode) (stop : Option ℕ) (b : Batch) → IsGiven newest (oldest b.seen newest) m stop b → IsGiven (more ++ newest) (oldest b.seen (more ++ newest)) m stop b
given_stays newest more m stop b h =
    let size : length (oldest b.seen newest) ≡ length newest - (length newest - b.seen) = length-drop (length newest - b.seen) newest in
    let within : b.seen ≤ length newest = below (length newest) b.seen (h.batch.seen ∙ size) in
    subst (λ (o : List Slip). IsGiven (more ++ newest) o m stop b) (sym (oldest_stays newest more b.seen within)) (record {
      more = more ++ h.more;
      grown = ap (λ l. more ++ l) h.grown ∙ sym (append_assoc more h.more (oldest b.seen newest));
      batch = h.batch;
      fits = h.fits;
      ahead = h.ahead;
    })
  where
    below : (n k : ℕ) → k ≡ n - (n - k) → k ≤ n
    below n k e = omega arith

batch_stays : (newest more : List Slip) (p : Progress) (o : Option Batch) → IsBatchGiven newest p o → IsBatchGiven (more ++ newest) p o
batch_stays newest more p None h = tt
batch_stays newest more p (Some b) h = given_stays newest more p.request.mode p.request.stop b h

pub sent_stays : SentStays
sent_stays newest more type s text history agreed h = record {
  written = session_stays newest more type s.progress text history agreed h.written;
  batch = batch_stays newest more s.progress s.batch h.batch;
}

opened_given : (newest : List Slip) (p : Progress) (b : Batch) → IsGiven newest newest p.request.mode p.request.stop b → IsBatchGiven newest p (opened (Some b))
opened_given newest p b h = go (eqb (step_total b) 0)
  where
    go : (c : Bool) → IsBatchGiven newest p (cond c None (Some b))
    go true = tt
    go false = subst (λ (o : List Slip). IsGiven newest o p.request.mode p.request.stop b) (sym (oldest_all newest b.seen h.batch.seen)) h

-- the open batch after an answer
batch_gives : (w : World) (newest : List Slip) (p : Progress) (before : Option Batch) (answer : Result Look LookFault) (type given : List ℕ)
    → IsBatchGiven newest p before → IsAnswerOf w newest p answer type given
    → IsBatchGiven w.history (after_look (total_of (batch_in answer)) p (said_of answer)) (batch_after before answer)
batch_gives w newest p before (Ok (look.Batch b)) type given h a = opened_given w.history p b a.batch
batch_gives w newest p before (Ok (look.NotYet len)) type given h a = subst (λ (n : List Slip). IsBatchGiven n p before) (sym a.grown) (batch_stays newest a.more p before h)
batch_gives w newest p before (Ok (look.Done len)) type given h a = tt
batch_gives w newest p before (Ok (look.Closing len)) type given h a = tt
batch_gives w newest p before (Err (fault.Unknown id)) type given h a = tt
batch_gives w newest p before (Err (fault.Misfit f)) type given h a = tt
batch_gives w newest p before (Err (fault.StopBelow end)) type given h a = tt
batch_gives w newest p before (Err fault.Mem) type given h a = tt

pub look_sends : (w : World) (newest : List Slip) (s t : State) (answer : Result Look LookFault) (type given text added before after : List ℕ) → answer ≢ Err fault.Mem
    → t.progress ≡ after_look (total_of (batch_in answer)) s.progress (said_of answer)
    → t.batch ≡ batch_after s.batch answer
    → after ≡ before ++ reply_text (look_replies (total_of (batch_in answer)) given s.progress (said_of answer))
    → AllByRecursion IsValue (look_replies (total_of (batch_in answer)) given s.progress (said_of answer))
    → HasSent newest type s text → IsAnswerOf w newest s.progress answer type given → after ≡ before ++ added
    → HasSent w.history type t (text ++ added)
look_sends w newest s t answer type given text added before after some is_after is_batch is_text values h a is_added = record {
  written = look_gives w newest s.progress t.progress answer type given text added before after some is_after is_text values h.written a is_added;
  batch =
      subst (λ (o : Option Batch). IsBatchGiven w.history t.progress o) (sym is_batch)
      (subst (λ (p : Progress). IsBatchGiven w.history p (batch_after s.batch answer)) (sym is_after)
      (batch_gives w newest s.progress s.batch answer type given h.batch a));
}

left_given : (newest : List Slip) (p : Progress) (b : OpenBatch) (before : Option Batch) → IsBatchGiven newest p before → IsBatchGiven newest p (batch_left b before)
left_given newest p b before h = go (eqb (b.given + 1) b.total)
  where
    go : (c : Bool) → IsBatchGiven newest p (cond c None before)
    go true = tt
    go false = h

same_request : (newest : List Slip) (p : Progress) (b : OpenBatch) (place : Place) (o : Option Batch) → IsBatchGiven newest p o → IsBatchGiven newest (after_step p b place) o
same_request newest p b place None h = tt
same_request newest p b place (Some x) h = h

pub step_sends : (newest : List Slip) (s t : State) (x : StepOut) (type text added before after : List ℕ)
    → ((b : OpenBatch) → s.progress.stage ≡ Sends b → t.progress ≡ after_step s.progress b x.place)
    → ((b : OpenBatch) → s.progress.stage ≡ Sends b → t.batch ≡ batch_left b s.batch)
    → ((b : OpenBatch) → s.progress.stage ≡ Sends b → after ≡ before ++ reply_text (step_replies s.progress.run_number b x.step x.block.value x.place))
    → ((b : OpenBatch) → s.progress.stage ≡ Sends b → AllByRecursion IsValue (step_replies s.progress.run_number b x.step x.block.value x.place))
    → HasSent newest type s text → IsStepOf newest s.progress x → after ≡ before ++ added
    → HasSent newest type t (text ++ added)
step_sends newest s t x type text added before after is_after is_batch is_text values h step is_added =
    let b = step.open_batch in
    record {
      written = step_gives newest s.progress t.progress x type text added before after is_after is_text values h.written step is_added;
      batch =
          subst (λ (o : Option Batch). IsBatchGiven newest t.progress o) (sym (is_batch b step.next.sends))
          (subst (λ (p : Progress). IsBatchGiven newest p (batch_left b s.batch)) (sym (is_after b step.next.sends))
          (same_request newest s.progress b x.place (batch_left b s.batch) (left_given newest s.progress b s.batch h.batch)));
    }

-- a place where a session waits fits
pub fits_where : (newest : List Slip) (type : List ℕ) (p : Progress) (text : List ℕ) (position : Position) → HasWritten newest type p text → p.stage ≡ Waits (position_of position) → FitsAt newest position
fits_where newest type p text position.Start h waits = tt
fits_where newest type p text (position.At place) h waits =
    let stands = subst (λ (s : Stage). StandsAt newest type p.request p.run_number p.lens s (map told h.replies)) waits h.stands in
    stands.fits
