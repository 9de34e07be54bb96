-- What a session makes of the relay's answer to its look.
use Rattle.std.proofs.Common.{arith, ◌≡◌, ◌≢◌, ℕ, Bool, true, false, not, cond, ◌||◌, ◌&&◌, map, List, [], ◌∷◌, ◌++◌, length, Option, Some, None, Result, Ok, Err, IfSome, IsSome, inr, refl, sym, ◌∙◌, ap, subst}
use Rattle.std.specs.Borrow.{Bor}
use Rattle.std.specs.Option.{option_copied}
use Rattle.block_record.specs.declared.blocks.Slip.{Slip}
use Rattle.block_record.specs.declared.blocks.Kind.{Kind}
use Rattle.chain_model.specs.declared.places.Place.{Place}
use Rattle.chain_model.specs.Steps.{steps_of}
use Rattle.step_cursor.specs.declared.cursor.Cursor.{Cursor}
use Rattle.step_cursor.specs.declared.cursor.Request.{Request}
use Rattle.step_cursor.specs.declared.cursor.MisfitField.{MisfitField}
use Rattle.relay_model.specs.Worlds.{World}
use Rattle.relay_model.specs.Soundness.{IsSound}
use Rattle.relay_model.specs.Looks.{Position, Start, At, Look as Said, Batch as BatchSaid, NotYet, Done, Closing, Unknown, Misfit, StopBelow, looked, look_from, look_idle, look_open, look_known, look_fitted, look_start, look_cursor, is_ahead, is_none, is_final_by, unknown, misfit, stops_below, end_num}
use Rattle.relay_look.specs.declared.answers.Look.{Look}
use Rattle.relay_look.specs.declared.answers.Look.TheVariants as look
use Rattle.relay_look.specs.declared.answers.LookFault.{LookFault}
use Rattle.relay_look.specs.declared.answers.LookFault.TheVariants as fault
use Rattle.reply_text.specs.Replies.{reply_text}
use Rattle.session_model.specs.declared.over.SessionOver.TheVariants as over
use Rattle.session_model.specs.Told.{Told as Line, told}
use Rattle.session_model.specs.Progress.{Stage, Waits, Sends, IsOver, Progress, after_look, look_replies}
use Rattle.session_model.specs.Standing.{StandsAt}
use Rattle.block_relay.specs.Chronicle.{Told, world_told}
use Rattle.client_stream.specs.Sessions.{State}
use Rattle.client_stream.specs.Sent.{HasSent, SentStays}
use Rattle.client_stream.specs.Answers.{said_of, batch_in, total_of, type_of, IsKindGiven, IsAnswerOf}
use Rattle.client_stream.proofs.public.AnswerFacts.{counted, said_is}
use Rattle.relay_session.specs.Asking.{IsLookFor, IsLookTaken, turn_said}
use Rattle.relay_session.specs.Serving.{GoesOn}
use Rattle.relay_session.specs.Turns.{WasLooked}
use Rattle.relay_session.proofs.ServedFacts.{sent_now, serves_on}

-- an answer to wait tells the history's length
abbrev TellsLen : ℕ → Said → Type 0
TellsLen n said = (len : ℕ) → said ≡ NotYet len → len ≡ n

idle_len : (w : World) → TellsLen (length w.history) (look_idle w)
idle_len w = go w.closed
  where
    go : (b : Bool) → TellsLen (length w.history) (cond b (Closing (length w.history)) (NotYet (length w.history)))
    go true len e = absurd (grind (arith, e))
    go false len e = grind (arith, e)

from_len : (first : Bool) (w : World) (r : Request) (place : Place) → TellsLen (length w.history) (look_from first w r place)
from_len first w r place = go (stops_below r.stop place.end)
  where
    third : (b : Bool) → TellsLen (length w.history) (cond b (Done (length w.history)) (look_idle w))
    third true len e = absurd (grind (arith, e))
    third false len e = idle_len w len e

    second : (b : Bool) → TellsLen (length w.history) (cond b (BatchSaid (length w.history) place) (cond (is_final_by w.history r.stop) (Done (length w.history)) (look_idle w)))
    second true len e = absurd (grind (arith, e))
    second false len e = third (is_final_by w.history r.stop) len e

    go : (b : Bool) → TellsLen (length w.history) (cond b (StopBelow (end_num place.end)) (cond (first || not (is_none (steps_of w.history place r.mode r.stop))) (BatchSaid (length w.history) place) (cond (is_final_by w.history r.stop) (Done (length w.history)) (look_idle w))))
    go true len e = absurd (grind (arith, e))
    go false len e = second (first || not (is_none (steps_of w.history place r.mode r.stop))) len e

open_len : (w : World) (r : Request) (newest : List Slip) → TellsLen (length w.history) (look_open w r newest)
open_len w r [] = idle_len w
open_len w r (s ∷ older) = from_len true w r _

cursor_len : (w : World) (r : Request) (c : Cursor) → TellsLen (length w.history) (look_cursor w r c)
cursor_len w r c = go (is_ahead w.run w.history c.tail && not w.closed)
  where
    fitted : (m : Option MisfitField) → TellsLen (length w.history) (look_fitted w r c m)
    fitted (Some f) len e = absurd (grind (arith, e))
    fitted None len e = from_len true w r c.place len e

    known : (o : Option (List ℕ)) → TellsLen (length w.history) (look_known w r c o)
    known (Some id) len e = absurd (grind (arith, e))
    known None len e = fitted (misfit w.run w.history c) len e

    go : (b : Bool) → TellsLen (length w.history) (cond b (NotYet (length w.history)) (look_known w r c (unknown w.history c)))
    go true len e = grind (arith, e)
    go false len e = known (unknown w.history c) len e

start_len : (w : World) (r : Request) (o : Option Cursor) → TellsLen (length w.history) (look_start w r o)
start_len w r None = open_len w r w.history
start_len w r (Some c) = cursor_len w r c

looked_len : (w : World) (r : Request) (position : Position) → TellsLen (length w.history) (looked w r position)
looked_len w r Start = start_len w r r.cursor
looked_len w r (At place) = from_len false w r place

-- what came of a look
pub look_taken : (w : World) (p q : Progress) (answer : Result Look LookFault) → IsLookFor w p answer → answer ≢ Err fault.Mem
    → q ≡ after_look (total_of (batch_in answer)) p (said_of answer) → IsLookTaken w p q (turn_said (said_of answer))
look_taken w p q answer x some after = by (said_of answer) refl
  where
    said : looked w p.request x.position ≡ said_of answer
    said = said_is (looked w p.request x.position) answer some x.said

    taken : (v : Said) → said_of answer ≡ v → ((len : ℕ) → v ≢ NotYet len) → WasLooked w p q
    taken v e other = record {
      position = x.position;
      waits = x.waits;
      some = λ len h. other len (sym e ∙ sym said ∙ h);
      total = total_of (batch_in answer);
      counted = λ seen place h. counted w.history p.request answer x.batch seen place (sym said ∙ h);
      after = after ∙ ap (after_look (total_of (batch_in answer)) p) (sym said);
    }

    by : (v : Said) → said_of answer ≡ v → IsLookTaken w p q (turn_said v)
    by (BatchSaid seen place) e = inr (taken (BatchSaid seen place) e (λ len h. absurd (grind (arith, h))))
    by (NotYet len) e = record { position = x.position; waits = x.waits; said = said ∙ e; len_is = looked_len w p.request x.position len (said ∙ e) }
    by (Done len) e = inr (taken (Done len) e (λ n h. absurd (grind (arith, h))))
    by (Closing len) e = inr (taken (Closing len) e (λ n h. absurd (grind (arith, h))))
    by (Unknown id) e = inr (taken (Unknown id) e (λ n h. absurd (grind (arith, h))))
    by (Misfit f) e = inr (taken (Misfit f) e (λ n h. absurd (grind (arith, h))))
    by (StopBelow end) e = inr (taken (StopBelow end) e (λ n h. absurd (grind (arith, h))))

-- without a block there is no batch at the start
idle_none : (w : World) (len : ℕ) (place : Place) → look_idle w ≡ BatchSaid len place → ⊥
idle_none w len place = go w.closed
  where
    go : (b : Bool) → cond b (Closing (length w.history)) (NotYet (length w.history)) ≡ BatchSaid len place → ⊥
    go true e = absurd (grind (arith, e))
    go false e = absurd (grind (arith, e))

pub none_at_start : (w : World) (r : Request) (len : ℕ) (place : Place) → w.history ≡ [] → looked w r Start ≡ BatchSaid len place → ⊥
none_at_start w r len place empty = go r.cursor
  where
    ahead : (c : Cursor) (b : Bool) → cond b (NotYet (length w.history)) (look_known w r c (unknown w.history c)) ≡ BatchSaid len place → ⊥
    ahead c true e = absurd (grind (arith, e))
    ahead c false e = let f : look_known w r c (unknown [] c) ≡ BatchSaid len place = subst (λ (l : List Slip). look_known w r c (unknown l c) ≡ BatchSaid len place) empty e in absurd (grind (arith, f))

    go : (o : Option Cursor) → look_start w r o ≡ BatchSaid len place → ⊥
    go None e = idle_none w len place (subst (λ (l : List Slip). look_open w r l ≡ BatchSaid len place) empty e)
    go (Some c) e = ahead c (is_ahead w.run w.history c.tail && not w.closed) e

-- so where a batch is the first one, there is a block
first_has_block : (w : World) (p : Progress) (type : List ℕ) (lines : List Line) (position : Position) (len : ℕ) (place : Place) → StandsAt w.history type p.request p.run_number p.lens (Waits position) lines
    → looked w p.request position ≡ BatchSaid len place → p.lens ≡ [] → w.history ≢ []
first_has_block w p type lines Start len place h e none empty = none_at_start w p.request len place empty e
first_has_block w p type lines (At q) len place h e none empty = h.some none

-- and a kind
pub kind_given : (w : World) (type : List ℕ) (s : State) (text : List ℕ) (answer : Result Look LookFault) (kind : Option (Bor Kind))
    → HasSent w.history type s text → IsLookFor w s.progress answer → (w.history ≢ [] → IsSome kind) → IsKindGiven s.progress.lens kind answer
kind_given w type s text (Ok (look.Batch b)) kind h x some = λ first none.
    let p = s.progress in
    let stands = subst (λ (v : Stage). StandsAt w.history type p.request p.run_number p.lens v (map told h.written.replies)) x.waits h.written.stands in
    let is_some = some (first_has_block w p type (map told h.written.replies) x.position b.seen b.place stands x.said first) in
    let never : IsSome {T = Bor Kind} None = subst IsSome none is_some in absurd (cc)
kind_given w type s text (Ok (look.NotYet len)) kind h x some = tt
kind_given w type s text (Ok (look.Done len)) kind h x some = tt
kind_given w type s text (Ok (look.Closing len)) kind h x some = tt
kind_given w type s text (Err e) kind h x some = tt

-- before the first batch the type does not matter
pub any_type : (newest : List Slip) (a b : List ℕ) (s : State) (text : List ℕ) → s.progress.lens ≡ [] → HasSent newest a s text → HasSent newest b s text
any_type newest a b s text none h = record {
  written = record {
    replies = h.written.replies;
    stands = go p.stage p.lens none (map told h.written.replies) h.written.stands;
    values = h.written.values;
    text_is = h.written.text_is;
  };
  batch = h.batch;
}
  where
    p : Progress
    p = s.progress

    never : (before : List ℕ) (n : ℕ) → [] ≡ before ++ n ∷ [] → ⊥
    never [] n e = cc
    never (x ∷ before) n e = cc

    go : (v : Stage) (lens : List ℕ) → lens ≡ [] → (lines : List Line) → StandsAt newest a p.request p.run_number lens v lines → StandsAt newest b p.request p.run_number lens v lines
    go v (n ∷ lens) e lines x = absurd (cc)
    go (Waits Start) [] e lines x = x
    go (Waits (At place)) [] e lines x = absurd (x.some refl)
    go (Sends o) [] e lines x = absurd (never x.before o.seen x.lens_are)
    go (IsOver over.Done) [] e lines x = record { lengths = x.lengths; lines_are = x.lines_are }
    go (IsOver over.Closing) [] e lines x = record { lengths = x.lengths; lines_are = x.lines_are }
    go (IsOver over.Refused) [] e lines x = x

-- an answer to a session without a batch, where there is no kind, leaves it without a batch
still_none : (total : ℕ) (p : Progress) (answer : Result Look LookFault) (kind : Option (Bor Kind)) → IsKindGiven p.lens kind answer → kind ≡ None → p.lens ≡ []
    → (after_look total p (said_of answer)).lens ≡ []
still_none total p (Ok (look.Batch b)) kind k bare none = absurd (k none bare)
still_none total p (Ok (look.NotYet len)) kind k bare none = none
still_none total p (Ok (look.Done len)) kind k bare none = none
still_none total p (Ok (look.Closing len)) kind k bare none = none
still_none total p (Err (fault.Unknown id)) kind k bare none = none
still_none total p (Err (fault.Misfit f)) kind k bare none = none
still_none total p (Err (fault.StopBelow end)) kind k bare none = none
still_none total p (Err fault.Mem) kind k bare none = none

run_kept : (total : ℕ) (p : Progress) (said : Said) → (after_look total p said).run_number ≡ p.run_number
run_kept total p (BatchSaid n place) = refl
run_kept total p (NotYet n) = refl
run_kept total p (Done n) = refl
run_kept total p (Closing n) = refl
run_kept total p (Unknown id) = refl
run_kept total p (Misfit f) = refl
run_kept total p (StopBelow n) = refl

-- what a session that took the answer was sent, where the answer's bytes are these
abbrev TellsLook : State → State → Result Look LookFault → List ℕ → List ℕ → Type 0
TellsLook s u answer given added = (w : World) (newest : List Slip) (type text : List ℕ) → HasSent newest type s text → IsAnswerOf w newest s.progress answer type given
    → HasSent w.history type u (text ++ added)

-- with or without a kind
by_kind : (t : Told) (type : List ℕ) (s u : State) (text added : List ℕ) (answer : Result Look LookFault) (kind : Option (Bor Kind)) (held : Option Kind)
    → IsSound (world_told t) → (world_told t).run ≡ s.progress.run_number → IsLookFor (world_told t) s.progress answer → HasSent (world_told t).history type s text
    → option_copied kind ≡ held → IfSome held (λ k. k.block_type ≡ type)
    → IsKindGiven s.progress.lens kind answer → u.progress ≡ after_look (total_of (batch_in answer)) s.progress (said_of answer)
    → TellsLook s u answer (type_of kind) added → HasSent (world_told t).history type u (text ++ added)
by_kind t type s u text added answer kind held sound run x sent is_held is_type given after tells = go kind held is_held is_type given tells
  where
    p : Progress
    p = s.progress

    answered : (type' given' : List ℕ) → (p.lens ≡ [] → given' ≡ type') → IsAnswerOf (world_told t) (world_told t).history p answer type' given'
    answered type' given' same = record {
      sound = sound;
      run_is = run;
      more = [];
      grown = refl;
      position = x.position;
      waits = x.waits;
      said = x.said;
      batch = x.batch;
      type_is = same;
    }

    bare : (lens : List ℕ) → p.lens ≡ lens → IsKindGiven p.lens None answer → TellsLook s u answer [] added → HasSent (world_told t).history type u (text ++ added)
    bare [] e k tell =
        any_type (world_told t).history [] type u (text ++ added) (ap (λ (y : Progress). y.lens) after ∙ still_none (total_of (batch_in answer)) p answer None k refl e)
        (tell (world_told t) (world_told t).history [] text (any_type (world_told t).history type [] s text e sent) (answered [] [] (λ none. refl)))
    bare (n ∷ lens) e k tell = tell (world_told t) (world_told t).history type text sent (answered type [] (λ none. let same : n ∷ lens ≡ [] = sym e ∙ none in absurd (cc)))

    go : (o : Option (Bor Kind)) (k : Option Kind) → option_copied o ≡ k → IfSome k (λ x. x.block_type ≡ type) → IsKindGiven p.lens o answer → TellsLook s u answer (type_of o) added
        → HasSent (world_told t).history type u (text ++ added)
    go None k e is k_given tell = bare p.lens refl k_given tell
    go (Some b) k e is k_given tell =
        let same : b.now.block_type ≡ type = subst (λ (h : Option Kind). IfSome h (λ x. x.block_type ≡ type)) (sym e) is in
        tell (world_told t) (world_told t).history type text sent (answered type b.now.block_type (λ none. same))

-- so what was appended is what the session has sent
pub look_goes_on : SentStays → (t : Told) (s u : State) (answer : Result Look LookFault) (kind : Option (Bor Kind)) (before after : List ℕ)
    → IsSound (world_told t) → IsLookFor (world_told t) s.progress answer → option_copied kind ≡ (world_told t).kind → ((world_told t).history ≢ [] → IsSome kind)
    → u.progress ≡ after_look (total_of (batch_in answer)) s.progress (said_of answer)
    → after ≡ before ++ reply_text (look_replies (total_of (batch_in answer)) (type_of kind) s.progress (said_of answer))
    → TellsLook s u answer (type_of kind) (reply_text (look_replies (total_of (batch_in answer)) (type_of kind) s.progress (said_of answer)))
    → GoesOn t s u before after
look_goes_on law t s u answer kind before after sound x kept some progress lines tells =
    let added = reply_text (look_replies (total_of (batch_in answer)) (type_of kind) s.progress (said_of answer)) in
    record {
      added = added;
      text_is = lines;
      serves = λ older type text h.
          let sent = sent_now law t older type s text sound h in
          serves_on t older type s u text (text ++ added) h (ap (λ (y : Progress). y.run_number) progress ∙ run_kept (total_of (batch_in answer)) s.progress (said_of answer))
          (by_kind t type s u text added answer kind (world_told t).kind sound h.run_is x sent kept h.type_is (kind_given (world_told t) type s text answer kind sent x some) progress tells);
    }
