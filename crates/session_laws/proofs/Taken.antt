-- The cursors that a session wrote are taken up.
use Rattle.std.proofs.Common.{arith, ◌≡◌, ◌≤◌, ◌-◌, ℕ, List, [], ◌∷◌, ◌++◌, length, take, map, Option, Some, sym, ◌∙◌, subst}
use Rattle.std.specs.List.{AllByRecursion}
use Rattle.std.proofs.lemmas.List.{length-drop}
use Rattle.block_record.specs.declared.blocks.Slip.{Slip}
use Rattle.chain_model.specs.declared.places.Mode.{Mode}
use Rattle.chain_model.specs.declared.places.Place.{Place}
use Rattle.chain_model.specs.Ancestry.{IsHistory}
use Rattle.chain_model.specs.Places.{PlacedStep, PlaceFits, IsAhead, steps_to, place_to}
use Rattle.chain_laws.specs.Oldest.{oldest}
use Rattle.chain_laws.proofs.public.Ends.{place_reached}
use Rattle.chain_laws.proofs.public.Later.{history_older, oldest_whole}
use Rattle.resume_laws.specs.Sessions.{FitsFirst, Rises}
use Rattle.resume_laws.proofs.public.Fits.{fits_at_more}
use Rattle.step_cursor.specs.declared.cursor.Request.{Request}
use Rattle.step_cursor.specs.Laws.{PrintedIsRead}
use Rattle.relay_model.specs.Worlds.{World}
use Rattle.relay_model.specs.Soundness.{IsSound}
use Rattle.relay_model.specs.Looks.{Start, At}
use Rattle.relay_model.specs.Laws.{IsTakenUp, cursor_of}
use Rattle.relay_model.proofs.public.Given.{given_cursors}
use Rattle.reply_text.specs.Lines.{cursor_after}
use Rattle.reply_text.specs.Replies.{Reply, Open, StepOf, Head, End, Error}
use Rattle.reply_text.specs.Values.{IsValue}
use Rattle.reply_laws.specs.Laws.{ReadsFront}
use Rattle.session_model.specs.declared.over.SessionOver.TheVariants as over
use Rattle.session_model.specs.Told.{Told, Opens, Steps, Heads, Ends, Fails, told}
use Rattle.session_model.specs.Transcript.{first_place, steps_told, batches_told, body}
use Rattle.session_model.specs.Progress.{Stage, Waits, Sends, IsOver}
use Rattle.session_model.specs.Standing.{HasLengths, StandsAt}
use Rattle.session_laws.specs.Chains.{IsTakenReply, CursorsAreTaken}
use Rattle.session_laws.proofs.Runs.{both, front}
use Rattle.session_laws.proofs.Transcripts.{within_front}

-- a cursor that a told step gave is taken up
abbrev IsTaken : World → Told → Type 0
IsTaken w (Opens type run place) = Unit {0}
IsTaken w (Steps x run seen) = (r : Request) → r.cursor ≡ Some (cursor_of run seen x) → IsTakenUp w r
IsTaken w (Heads head seen) = Unit {0}
IsTaken w (Ends done) = Unit {0}
IsTaken w (Fails e) = Unit {0}

steps_taken : (w : World) (run seen : ℕ) (xs : List PlacedStep) → AllByRecursion (λ x. (r : Request) → r.cursor ≡ Some (cursor_of run seen x) → IsTakenUp w r) xs
    → AllByRecursion (IsTaken w) (steps_told run seen xs)
steps_taken w run seen [] h = tt
steps_taken w run seen (x ∷ xs) h = (h.0, steps_taken w run seen xs h.1)

-- the steps of one batch
batch_taken : (w : World) (m : Mode) (stop : Option ℕ) (place : Place) (len : ℕ) → IsSound w → len ≤ length w.history → PlaceFits (oldest len w.history) place.end place.lib → IsAhead stop place.end
    → AllByRecursion (IsTaken w) (steps_told w.run len (steps_to (oldest len w.history) place m stop))
batch_taken w m stop place len sound within fits ahead =
    let older = oldest len w.history in
    let xs = steps_to older place m stop in
    let size : length older ≡ len = omega (arith, length-drop (length w.history - len) w.history, within) in
    let given = given_cursors w older (take (length w.history - len) w.history) place m stop sound (oldest_whole w.history len) fits ahead in
    steps_taken w w.run len xs (subst (λ (n : ℕ). AllByRecursion (λ x. (r : Request) → r.cursor ≡ Some (cursor_of w.run n x) → IsTakenUp w r) xs) size given)

older_history : (newest : List Slip) (len : ℕ) → IsHistory newest → IsHistory (oldest len newest)
older_history newest len history = history_older (take (length newest - len) newest) (oldest len newest) (subst IsHistory (sym (oldest_whole newest len)) history)

batches_taken : (w : World) (m : Mode) (stop : Option ℕ) (lens : List ℕ) (place : Place) → IsSound w → FitsFirst w.history place lens → Rises lens
    → AllByRecursion (λ n. n ≤ length w.history) lens → IsAhead stop place.end → AllByRecursion (IsTaken w) (batches_told w.history w.run m stop place lens)
batches_taken w m stop [] place sound fits rises within ahead = tt
batches_taken w m stop (len ∷ []) place sound fits rises within ahead =
    both (IsTaken w) (steps_told w.run len (steps_to (oldest len w.history) place m stop)) _ (batch_taken w m stop place len sound within.0 fits ahead) (tt, tt)
batches_taken w m stop (len ∷ len' ∷ lens) place sound fits rises within ahead =
    let after = place_to (oldest len w.history) place m stop in
    let settles = place_reached (oldest len w.history) place m stop (older_history w.history len sound.history) fits ahead in
    both (IsTaken w) (steps_told w.run len (steps_to (oldest len w.history) place m stop)) _ (batch_taken w m stop place len sound within.0 fits ahead)
    (tt, batches_taken w m stop (len' ∷ lens) after sound (fits_at_more w.history len len' sound.history sound.agreed rises.0 within.1.0 after settles.fits) rises.1 within.1 settles.ahead)

body_taken : (w : World) (type : List ℕ) (r : Request) (lens : List ℕ) → IsSound w → HasLengths w.history r w.run lens → AllByRecursion (IsTaken w) (body w.history w.run type r lens)
body_taken w type r [] sound h = tt
body_taken w type r (len ∷ lens) sound h =
    (tt, batches_taken w r.mode r.stop (len ∷ lens) (first_place w.history r (len ∷ lens)) sound h.began.fits h.rises h.within h.began.ahead)

-- what holds of all lines holds of the first ones
of_front : {A : Type 0} (P : A → Type 0) (xs rest : List A) → AllByRecursion P (xs ++ rest) → AllByRecursion P xs
of_front P [] rest h = tt
of_front P (x ∷ xs) rest h = (h.0, of_front P xs rest h.1)

stands_taken : (w : World) (type : List ℕ) (r : Request) (lens : List ℕ) (stage : Stage) (lines : List Told) → IsSound w → StandsAt w.history type r w.run lens stage lines → AllByRecursion (IsTaken w) lines
stands_taken w type r lens (Waits Start) lines sound h = subst (AllByRecursion (IsTaken w)) (sym h.lines_are) tt
stands_taken w type r lens (Waits (At place)) lines sound h = subst (AllByRecursion (IsTaken w)) (sym h.lines_are) (body_taken w type r lens sound h.lengths)
stands_taken w type r lens (Sends b) lines sound h =
    let p = within_front w.history type r w.run lens b lines h in
    of_front (IsTaken w) lines p.0 (subst (AllByRecursion (IsTaken w)) (sym p.1) (body_taken w type r lens sound h.lengths))
stands_taken w type r lens (IsOver over.Done) lines sound h =
    subst (AllByRecursion (IsTaken w)) (sym h.lines_are) (both (IsTaken w) (body w.history w.run type r lens) (Ends _ ∷ []) (body_taken w type r lens sound h.lengths) (tt, tt))
stands_taken w type r lens (IsOver over.Closing) lines sound h =
    subst (AllByRecursion (IsTaken w)) (sym h.lines_are) (both (IsTaken w) (body w.history w.run type r lens) (Ends _ ∷ []) (body_taken w type r lens sound h.lengths) (tt, tt))
stands_taken w type r lens (IsOver over.Refused) lines sound h = subst (AllByRecursion (IsTaken w)) (sym h.lines_are) (tt, tt)

replies_taken : PrintedIsRead → (w : World) (xs : List Reply) → AllByRecursion IsValue xs → AllByRecursion (IsTaken w) (map told xs) → AllByRecursion (IsTakenReply w) xs
replies_taken law w [] values h = tt
replies_taken law w (Open type run place ∷ xs) values h = (tt, replies_taken law w xs values.1 h.1)
replies_taken law w (StepOf kind b place tail ∷ xs) values h =
    ((law.good (cursor_after kind b place tail) values.0.1, h.0), replies_taken law w xs values.1 h.1)
replies_taken law w (Head head seen ∷ xs) values h = (tt, replies_taken law w xs values.1 h.1)
replies_taken law w (End done ∷ xs) values h = (tt, replies_taken law w xs values.1 h.1)
replies_taken law w (Error e ∷ xs) values h = (tt, replies_taken law w xs values.1 h.1)

pub cursors_are_taken : ReadsFront → PrintedIsRead → CursorsAreTaken
cursors_are_taken law printed w type h sound is run_is =
    let p = h.progress in
    let x = is.written in
    let same : h.replies ≡ take (length h.replies) x.replies = law h.replies x.replies h.rest is.values x.values (sym is.front ∙ x.text_is) in
    let stands = subst (λ (n : ℕ). StandsAt w.history type p.request n p.lens p.stage (map told x.replies)) run_is x.stands in
    let all = replies_taken printed w x.replies x.values (stands_taken w type p.request p.lens p.stage (map told x.replies) sound stands) in
    subst (AllByRecursion (IsTakenReply w)) (sym same) (front (IsTakenReply w) (length h.replies) x.replies all)
